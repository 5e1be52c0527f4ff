-- the numbers at the end of a line
use Rattle.std.proofs.Common.{◌≡◌, ◌≢◌, ◌<◌, ◌^◌, [], ◌∷◌, ℕ, zero, suc, List, length, map, get_or, ap, refl, ◌∙◌, arith, ℤ, pos, negsuc, neg_ℤ, false, eqb}
use Rattle.std.specs.Prelude.{FitsSigned}
use Rattle.std.specs.Int.{w64}
use Rattle.std.specs.List.{AllByRecursion}
use Rattle.std.specs.Fmt.{decimal, signed_decimal}
use Rattle.std.specs.Str.Parse.{signed_digits_value}
use Rattle.std.proofs.lemmas.Bool.{ne_eqb}
use Rattle.std.proofs.lemmas.Fmt.{decimal_is_IsNumeral}
use Rattle.std.proofs.lemmas.Str.Parse.{digit_at, without_leading_plus_none}
use Rattle.crew_terms.specs.Words.{Words}

-- no decimal begins with a sign
plain : (n c : ℕ) → n < 2 ^ 64 → c < 48 → get_or (decimal n) 0 0 ≢ c
plain n c h l e = let num = decimal_is_IsNumeral n h in let r = digit_at (decimal n) 0 num.0.1 num.0.0 in absurd (omega arith)

value_plain : (n : ℕ) → n < 2 ^ 64 → signed_digits_value 10 (decimal n) ≡ pos n
value_plain n h =
    let num = decimal_is_IsNumeral n h in
    let minus : eqb (get_or (decimal n) 0 0) 45 ≡ false = ne_eqb (get_or (decimal n) 0 0) 45 (plain n 45 h (omega arith)) in
    let plus = without_leading_plus_none (decimal n) (plain n 43 h (omega arith)) in
    rw (minus, plus) (ap pos num.1)

pub value_back : (z : ℤ) → FitsSigned w64 z → signed_digits_value 10 (signed_decimal z) ≡ z
value_back (pos n) fits = let s = fits.sfits in value_plain n (omega arith)
value_back (negsuc n) fits = let s = fits.sfits in ap (λ k. neg_ℤ (pos k)) (decimal_is_IsNumeral (suc n) (omega arith)).1

pub values_back : (ns : List ℤ) → AllByRecursion (FitsSigned w64) ns → map (signed_digits_value 10) (map signed_decimal ns) ≡ ns
values_back [] fit = refl
values_back (n ∷ ns) fit = ap (λ z. z ∷ map (signed_digits_value 10) (map signed_decimal ns)) (value_back n fit.0) ∙ ap (λ zs. n ∷ zs) (values_back ns fit.1)

pub signed_map : (ns : List ℕ) → map decimal ns ≡ map signed_decimal (map pos ns)
signed_map [] = refl
signed_map (n ∷ ns) = ap (λ ws. decimal n ∷ ws) (signed_map ns)

pub number_at : (vs : List ℤ) → AllByRecursion (FitsSigned w64) vs → (k : ℕ) → k < length vs → (z : ℤ) × FitsSigned w64 z × (get_or (map signed_decimal vs) k [] ≡ signed_decimal z)
number_at [] all k h = absurd (omega arith)
number_at (v ∷ vs) all zero h = (v, all.0, refl)
number_at (v ∷ vs) all (suc k) h = number_at vs all.1 k (omega arith)

pub value_at : (ws : Words) (k : ℕ) → k < length ws → get_or (map (signed_digits_value 10) ws) k (pos 0) ≡ signed_digits_value 10 (get_or ws k [])
value_at [] k h = absurd (omega arith)
value_at (w ∷ ws) zero h = refl
value_at (w ∷ ws) (suc k) h = value_at ws k (omega arith)
