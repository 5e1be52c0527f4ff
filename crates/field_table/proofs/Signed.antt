-- words with a sign
use Rattle.std.proofs.Common.{◌≡◌, ◌≢◌, ◌<◌, ◌^◌, [], ◌∷◌, ℕ, suc, false, List, length, drop, get_or, ap, sym, ◌∙◌, arith, ℤ, pos, negsuc, Option, None, Some}
use Rattle.std.specs.Prelude.{FitsSigned, MatchOption, IfSome}
use Rattle.std.specs.Int.{w64}
use Rattle.std.specs.Fmt.{decimal, signed_decimal}
use Rattle.std.proofs.lemmas.Fmt.{decimal_nonempty, digits_decimal, signed_decimal_injective}
use Rattle.field_table.proofs.Digits.{own, digit_at, not_digit}
use Rattle.std.specs.Char.{is_ascii_digit}
use Rattle.std.proofs.lemmas.Bool.{both_ways}

-- no decimal begins with a minus
no_minus : (n : ℕ) → n < 2 ^ 64 → get_or (decimal n) 0 0 ≢ 45
no_minus n h e = both_ways (is_ascii_digit (get_or (decimal n) 0 0)) (ap is_ascii_digit e) (digit_at (decimal n) 0 (digits_decimal own n h) (decimal_nonempty n h))

pub empty_spells_none : (bytes : List ℕ) → length bytes ≡ 0 → (z : ℤ) → FitsSigned w64 z → bytes ≢ signed_decimal z
empty_spells_none bytes e (pos n) f h = let s = f.sfits in let a = decimal_nonempty n (omega arith) in let b = ap length h in absurd (omega arith)
empty_spells_none bytes e (negsuc n) f h = let b = ap length h in absurd (omega arith)

minus_cons : (bytes : List ℕ) → 0 < length bytes → get_or bytes 0 0 ≡ 45 → bytes ≡ 45 ∷ drop 1 bytes
minus_cons [] h e = absurd (omega arith)
minus_cons (b ∷ bs) h e = ap (λ c. c ∷ bs) e

pub minus_spells : (bytes : List ℕ) (r : Option ℤ) → 0 < length bytes → get_or bytes 0 0 ≡ 45
    → MatchOption r ((n : ℕ) → n < 2 ^ 63 → drop 1 bytes ≢ decimal (suc n)) (λ z. (n : ℕ) × (n < 2 ^ 63) × (z ≡ negsuc n) × (drop 1 bytes ≡ decimal (suc n)))
    → MatchOption r ((z : ℤ) → FitsSigned w64 z → bytes ≢ signed_decimal z) (λ z. bytes ≡ signed_decimal z)
minus_spells bytes (Some z) some sign (n, f, e, d) = minus_cons bytes some sign ∙ ap (λ bs. 45 ∷ bs) d ∙ ap signed_decimal (sym e)
minus_spells bytes None some sign h = no
  where
    no : (z : ℤ) → FitsSigned w64 z → bytes ≢ signed_decimal z
    no (pos n) f g = let s = f.sfits in no_minus n (omega arith) (ap (λ bs. get_or bs 0 0) (sym g) ∙ sign)
    no (negsuc n) f g = let s = f.sfits in h n (omega arith) (ap (drop 1) g)

-- bytes that begin with no digit and no minus are no decimal
pub spells_none : (bytes : List ℕ) → get_or bytes 0 0 ≢ 45 → is_ascii_digit (get_or bytes 0 0) ≡ false → (z : ℤ) → FitsSigned w64 z → bytes ≢ signed_decimal z
spells_none bytes sign first (pos n) f h =
    let s = f.sfits in
    let a = decimal_nonempty n (omega arith) in
    let b = ap length h in
    not_digit bytes 0 n (omega arith) first (omega arith) h
spells_none bytes sign first (negsuc n) f h = sign (ap (λ bs. get_or bs 0 0) h)

-- the number that the bytes spell, if there is one, is the only one
pub read_back : (bytes : List ℕ) (r : Option ℤ) → IfSome r (FitsSigned w64)
    → MatchOption r ((z : ℤ) → FitsSigned w64 z → bytes ≢ signed_decimal z) (λ z. bytes ≡ signed_decimal z)
    → (z : ℤ) → FitsSigned w64 z → bytes ≡ signed_decimal z → r ≡ Some z
read_back bytes None small h z f e = absurd (h z f e)
read_back bytes (Some y) small h z f e = ap Some (signed_decimal_injective y z small.sfits f.sfits (sym h ∙ e))

pub negative_fits : (bytes : List ℕ) (r : Option ℤ)
    → MatchOption r ((n : ℕ) → n < 2 ^ 63 → bytes ≢ decimal (suc n)) (λ z. (n : ℕ) × (n < 2 ^ 63) × (z ≡ negsuc n) × (bytes ≡ decimal (suc n)))
    → IfSome r (FitsSigned w64)
negative_fits bytes None h = tt
negative_fits bytes (Some z) (n, f, e, d) = rw e (record { sfits = f })
