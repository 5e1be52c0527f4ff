-- numbers of 128 bits and the words that spell them
use Rattle.std.proofs.Common.{◌≡◌, ◌<◌, ◌≤◌, ◌^◌, [], ◌∷◌, ℕ, zero, suc, ℤ, pos, negsuc, List, length, map, get_or, ap, sym, refl, ◌∙◌, arith, rules, true, false, ◌+◌, ◌-◌, ◌*◌}
use Rattle.std.proofs.lemmas.Int.{ints}
use Rattle.std.specs.Int.{w128}
use Rattle.std.specs.Prelude.{FitsSigned, unsigned_abs, slice_get, Some, ◌≤ℤ◌}
use Rattle.std.specs.List.{AllByRecursion}
use Rattle.std.specs.Fmt.{decimal, signed_decimal}
use Rattle.std.specs.Str.{all_ascii_digits}
use Rattle.std.specs.Str.Parse.{digits_value}
use Rattle.std.proofs.lemmas.Str.Parse.{IsNumeralModel, numerals_by_fold}
use Rattle.std.proofs.lemmas.Fmt.{decimal_is_IsNumeral_wide}
use Rattle.crew_terms.specs.Words.{Words}
use Rattle.line_in.specs.Fields.{SpellBelow}

-- ---- one number has a spelling

abbrev read_on : ℕ → List ℕ → ℕ
read_on n [] = n
read_on n (c ∷ cs) = read_on (10 * n + (c - 48)) cs

own : IsNumeralModel (λ ds. all_ascii_digits ds ≡ true) (read_on 0)
own = numerals_by_fold _ (search rules) read_on (search rules)

-- at most 2 ^ 127
abbrev pub IsVast : ℕ → Type 0
IsVast n = n ≤ 170141183460469231731687303715884105728

pub dec_vast : (m n : ℕ) → IsVast m → IsVast n → decimal m ≡ decimal n → m ≡ n
dec_vast m n a b e = sym (read_back m a) ∙ ap (read_on 0) e ∙ read_back n b
  where
    read_back : (k : ℕ) → IsVast k → read_on 0 (decimal k) ≡ k
    read_back k l = let d = decimal_is_IsNumeral_wide k (omega arith) in own.same (decimal k) d.0.1 ∙ d.1

no_sign : (n : ℕ) (ds : List ℕ) → IsVast n → decimal n ≡ 45 ∷ ds → ⊥
no_sign n ds h e = let a : true ≡ false = sym (own.from (decimal n) (decimal_is_IsNumeral_wide n (omega arith)).0.1) ∙ ap all_ascii_digits e in absurd cc

pub sdec_vast : (y z : ℤ) → FitsSigned w128 y → FitsSigned w128 z → signed_decimal y ≡ signed_decimal z → y ≡ z
sdec_vast (pos m) (pos n) a b e = let p = a.sfits in let q = b.sfits in ap pos (dec_vast m n (omega arith) (omega arith) e)
sdec_vast (pos m) (negsuc n) a b e = let p = a.sfits in absurd (no_sign m (decimal (suc n)) (omega arith) e)
sdec_vast (negsuc m) (pos n) a b e = let q = b.sfits in absurd (no_sign n (decimal (suc m)) (omega arith) (sym e))
sdec_vast (negsuc m) (negsuc n) a b e =
    let p = a.sfits in
    let q = b.sfits in
    let f : decimal (suc m) ≡ decimal (suc n) = cc in
    let g : suc m ≡ suc n = dec_vast (suc m) (suc n) (omega arith) (omega arith) f in
    ap negsuc (omega arith)

-- the word at a place
pub word_is : (ws : Words) (n : ℕ) (w : List ℕ) → slice_get ws n ≡ Some w → get_or ws n [] ≡ w
word_is [] n w e = absurd cc
word_is (x ∷ ws) zero w e = cc
word_is (x ∷ ws) (suc n) w e = word_is ws n w e

-- the magnitude of a number that is not negative
pub abs_of : (z : ℤ) (r : ℕ) (w : List ℕ) → FitsSigned w128 z → pos 0 ≤ℤ z → r ≡ unsigned_abs z → w ≡ signed_decimal z → (r < 2 ^ 127) × (w ≡ decimal r)
abs_of (pos m) r w fits low e s = let f = fits.sfits in (omega arith, s ∙ ap decimal (sym e))
abs_of (negsuc m) r w fits low e s = absurd (omega (arith, ints))

-- a number below 2 ^ 127 fits 128 bits
pub natural_fits : (k : ℕ) → k < 2 ^ 127 → FitsSigned w128 (pos k)
natural_fits k l = record { sfits = omega arith }

-- ---- lists of numbers

pub natural_in : (past : ℕ) (ks : List ℕ) → AllByRecursion (λ k. k < past) ks → (j : ℕ) → j < length ks → (k : ℕ) × (k < past) × (get_or (map decimal ks) j [] ≡ decimal k)
natural_in past [] all j h = absurd (omega arith)
natural_in past (k ∷ ks) all zero h = (k, all.0, refl)
natural_in past (k ∷ ks) all (suc j) h = natural_in past ks all.1 j (omega arith)

pub naturals_all : (past : ℕ) (ws : Words) → ((j : ℕ) → j < length ws → (k : ℕ) × (k < past) × (get_or ws j [] ≡ decimal k)) → (ks : List ℕ) × SpellBelow past ks ws
naturals_all past [] h = ([], record { below = tt; spelled = refl })
naturals_all past (w ∷ ws) h =
    let first = h 0 (omega arith) in
    let rest = naturals_all past ws (λ j l. h (suc j) (omega arith)) in
    (first.0 ∷ rest.0, record { below = (first.1, rest.1.below); spelled = ap (λ x. x ∷ ws) first.2 ∙ ap (λ xs. decimal first.0 ∷ xs) rest.1.spelled })

pub value_back : (k : ℕ) → k < 2 ^ 127 → digits_value 10 (decimal k) ≡ k
value_back k l = (decimal_is_IsNumeral_wide k (omega arith)).1

pub values_back : (ks : List ℕ) → AllByRecursion (λ k. k < 2 ^ 127) ks → map (digits_value 10) (map decimal ks) ≡ ks
values_back [] h = refl
values_back (k ∷ ks) h = ap (λ n. n ∷ map (digits_value 10) (map decimal ks)) (value_back k h.0) ∙ ap (λ ns. k ∷ ns) (values_back ks h.1)

pub small : (past : ℕ) (ks : List ℕ) → past ≤ 2 ^ 127 → AllByRecursion (λ k. k < past) ks → AllByRecursion (λ k. k < 2 ^ 127) ks
small past [] l h = tt
small past (k ∷ ks) l h = (omega (arith, h.0), small past ks l h.1)

pub value_at : (ws : Words) (j : ℕ) → j < length ws → get_or (map (digits_value 10) ws) j 0 ≡ digits_value 10 (get_or ws j [])
value_at [] j h = absurd (omega arith)
value_at (w ∷ ws) zero h = refl
value_at (w ∷ ws) (suc j) h = value_at ws j (omega arith)

pub one_list : (past : ℕ) (ks js : List ℕ) → past ≤ 2 ^ 127 → AllByRecursion (λ k. k < past) ks → AllByRecursion (λ k. k < past) js → map decimal ks ≡ map decimal js → ks ≡ js
one_list past [] [] l a b e = refl
one_list past [] (j ∷ js) l a b e = absurd cc
one_list past (k ∷ ks) [] l a b e = absurd cc
one_list past (k ∷ ks) (j ∷ js) l a b e =
    let f : decimal k ≡ decimal j = cc in
    let g : map decimal ks ≡ map decimal js = cc in
    let p = dec_vast k j (omega (arith, a.0)) (omega (arith, b.0)) f in
    let q = one_list past ks js l a.1 b.1 g in
    cc
