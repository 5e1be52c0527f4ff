-- sets of skills, and their lists
use Rattle.std.proofs.Common.{◌≡◌, ◌<◌, ◌≤◌, ◌+◌, ◌-◌, ◌*◌, ◌/◌, ◌%◌, ◌^◌, ℕ, zero, suc, List, [], ◌∷◌, ◌++◌, ap, sym, refl, ◌∙◌, subst, arith, Bool, true, false, cond, ◌⊎◌, inl, inr}
use Rattle.std.specs.Prelude.{filter, ◌==◌, All}
use Rattle.std.specs.Int.{bit_at}
use Rattle.std.specs.List.{AllByRecursion, range_with_len}
use Rattle.std.specs.List.Sorted.{IsStrictlyIncreasing}
use Rattle.std.proofs.Math.Nat.{pow-suc, mod-eq_of_lt, mul-div_cancel, pow-le-pow_right}
use Rattle.std.proofs.lemmas.Nat.{mod-pow-add, pow-add, pow_pos}
use Rattle.std.proofs.lemmas.Nat.Bits.{bit_at-lt, bit_at_above}
use Rattle.std.proofs.lemmas.Bool.{cases_lt, eqb-true, eq-eqb}
use Rattle.std.proofs.lemmas.List.Elements.{filter-append, recursion_from_All}
use Rattle.crew_terms.specs.Minutes.{IsListOf}
use Rattle.crew_terms.specs.declared.TheConstants.{SKILLS}
use Rattle.crew_terms.specs.Listed.{list_of, range_suc}
use Rattle.crew_terms.specs.Rising.{rises_tail}
use Rattle.dossier_terms.specs.Dossier.{skills_of, mask_of}
use Rattle.dossier_laws.proofs.Below.{kept_less, kept_rises}

pub skills_known : (mask : ℕ) → All (λ s. s < SKILLS) (skills_of mask)
skills_known mask = kept_less (λ s. bit_at mask s == 1) SKILLS

pub skills_in : (mask : ℕ) → AllByRecursion (λ s. s < SKILLS) (skills_of mask)
skills_in mask = recursion_from_All (λ s. s < SKILLS) (skills_of mask) (skills_known mask)

pub skills_rise : (mask : ℕ) → IsStrictlyIncreasing (skills_of mask)
skills_rise mask = kept_rises (λ s. bit_at mask s == 1) SKILLS

pub skills_listed : (mask : ℕ) → mask < 2 ^ SKILLS → IsListOf (λ s. bit_at mask s ≡ 1) (skills_of mask)
skills_listed mask l = list_of (λ s. bit_at mask s ≡ 1) (λ s. bit_at mask s == 1) SKILLS
    (λ s m e. eqb-true (bit_at mask s) 1 e) (λ s h. (known s h (cases_lt s SKILLS), eq-eqb (bit_at mask s) 1 h))
  where
    known : (s : ℕ) → bit_at mask s ≡ 1 → (s < SKILLS) ⊎ (SKILLS ≤ s) → s < SKILLS
    known s h (inl m) = m
    known s h (inr m) = absurd (let a : bit_at mask s ≡ 0 = bit_at_above mask SKILLS s l m in omega arith)

-- ---- a set is that of its list

mask-append : (xs ys : List ℕ) → mask_of (xs ++ ys) ≡ mask_of xs + mask_of ys
mask-append [] ys = omega arith
mask-append (x ∷ xs) ys = let a = mask-append xs ys in omega arith

one_bit : (mask n : ℕ) → mask_of (filter (λ s. bit_at mask s == 1) (n ∷ [])) ≡ bit_at mask n * 2 ^ n
one_bit mask n = at (bit_at mask n == 1) refl
  where
    at : (b : Bool) → (bit_at mask n == 1) ≡ b → mask_of (cond b (n ∷ []) []) ≡ bit_at mask n * 2 ^ n
    at true e = let a : bit_at mask n ≡ 1 = eqb-true (bit_at mask n) 1 e in omega (arith, ap (λ m. m * 2 ^ n) a)
    at false e =
        let l : bit_at mask n < 2 = bit_at-lt mask n in
        let a : bit_at mask n ≡ 0 = elim (cases_lt (bit_at mask n) 1) [
          | inl k ↦ omega arith
          | inr k ↦ absurd (let t : bit_at mask n ≡ 1 = omega arith in let f : (1 == 1) ≡ false = subst (λ m. (m == 1) ≡ false) t e in cc)
        ] in
        omega (arith, ap (λ m. m * 2 ^ n) a)

mask_to : (mask n : ℕ) → mask_of (filter (λ s. bit_at mask s == 1) (range_with_len 0 n)) ≡ mask % 2 ^ n
mask_to mask zero = omega arith
mask_to mask (suc n) =
    let p : ℕ → Bool = λ s. bit_at mask s == 1 in
    let a = ap (λ ss. mask_of (filter p ss)) (range_suc n) ∙ ap mask_of (filter-append p (range_with_len 0 n) (n ∷ [])) ∙ mask-append (filter p (range_with_len 0 n)) (filter p (n ∷ [])) in
    let b = mask_to mask n in
    let c = one_bit mask n in
    let d : mask % 2 ^ (1 + n) ≡ (mask / 2 ^ n % 2 ^ 1) * 2 ^ n + mask % 2 ^ n = mod-pow-add mask 1 n in
    let e : 1 + n ≡ suc n = omega arith in
    let f : mask % 2 ^ suc n ≡ bit_at mask n * 2 ^ n + mask % 2 ^ n = subst (λ m. mask % 2 ^ m ≡ bit_at mask n * 2 ^ n + mask % 2 ^ n) e d in
    omega arith

pub mask_again : (mask : ℕ) → mask < 2 ^ SKILLS → mask_of (skills_of mask) ≡ mask
mask_again mask l = mask_to mask SKILLS ∙ mod-eq_of_lt l

-- ---- a rising list is that of its set

-- the numbers rise, and all are at least a
abbrev Rises : ℕ → List ℕ → Type 0
Rises a [] = Unit {0}
Rises a (x ∷ xs) = (a ≤ x) × Rises (suc x) xs

rises_after : (x : ℕ) (xs : List ℕ) → IsStrictlyIncreasing (x ∷ xs) → Rises (suc x) xs
rises_after x [] h = tt
rises_after x (y ∷ ys) h = (let a : x < y = h 0 (omega arith) in omega arith, rises_after y ys (rises_tail x (y ∷ ys) h))

rises : (xs : List ℕ) → IsStrictlyIncreasing xs → Rises 0 xs
rises [] h = tt
rises (x ∷ xs) h = (omega arith, rises_after x xs h)

-- a multiple of 2 ^ a
multiple : (a : ℕ) (xs : List ℕ) → Rises a xs → (q : ℕ) × (mask_of xs ≡ q * 2 ^ a)
multiple a [] h = (0, omega arith)
multiple a (x ∷ xs) h =
    let r = multiple (suc x) xs h.1 in
    let e : (x - a) + a ≡ x = omega (arith, h.0) in
    let p : 2 ^ x ≡ 2 ^ (x - a) * 2 ^ a = sym (ap (λ m. 2 ^ m) e) ∙ pow-add 2 (x - a) a in
    let m : mask_of (x ∷ xs) ≡ (1 + 2 * r.0) * 2 ^ x = omega (arith, r.1, ap (λ m. r.0 * m) (pow-suc 2 x)) in
    ((1 + 2 * r.0) * 2 ^ (x - a), m ∙ ap (λ m. (1 + 2 * r.0) * m) p ∙ (let f : (1 + 2 * r.0) * (2 ^ (x - a) * 2 ^ a) ≡ (1 + 2 * r.0) * 2 ^ (x - a) * 2 ^ a = omega arith in f))

-- the least number shows in the set
least_shows : (x : ℕ) (xs ys : List ℕ) → Rises (suc x) xs → Rises (suc x) ys → mask_of (x ∷ xs) ≡ mask_of ys → ⊥
least_shows x xs ys h k e =
    let q = multiple (suc x) xs h in
    let r = multiple (suc x) ys k in
    let f : (1 + 2 * q.0) * 2 ^ x ≡ (2 * r.0) * 2 ^ x = omega (arith, e, q.1, r.1, ap (λ m. q.0 * m) (pow-suc 2 x), ap (λ m. r.0 * m) (pow-suc 2 x)) in
    let g : 1 + 2 * q.0 ≡ 2 * r.0 = sym (mul-div_cancel (1 + 2 * q.0) (pow_pos x)) ∙ ap (λ m. m / 2 ^ x) f ∙ mul-div_cancel (2 * r.0) (pow_pos x) in
    omega arith

same_mask : (a b : ℕ) (xs ys : List ℕ) → Rises a xs → Rises b ys → mask_of xs ≡ mask_of ys → xs ≡ ys
same_mask a b [] [] h k e = refl
same_mask a b [] (y ∷ ys) h k e = absurd (let p = pow_pos y in omega arith)
same_mask a b (x ∷ xs) [] h k e = absurd (let p = pow_pos x in omega arith)
same_mask a b (x ∷ xs) (y ∷ ys) h k e = at (same_mask (suc x) (suc y) xs ys h.1 k.1) (cases_lt x y) (cases_lt y x)
  where
    at : (mask_of xs ≡ mask_of ys → xs ≡ ys) → (x < y) ⊎ (y ≤ x) → (y < x) ⊎ (x ≤ y) → x ∷ xs ≡ y ∷ ys
    at tails (inl l) d = absurd (least_shows x xs (y ∷ ys) h.1 (omega arith, k.1) e)
    at tails (inr l) (inl m) = absurd (least_shows y ys (x ∷ xs) k.1 (omega arith, h.1) (sym e))
    at tails (inr l) (inr m) =
        let s : x ≡ y = omega arith in
        let f : mask_of xs ≡ mask_of ys = omega (arith, ap (λ z. 2 ^ z) s) in
        let g : xs ≡ ys = tails f in
        cc

small_from : (n a : ℕ) (xs : List ℕ) → a ≤ n → Rises a xs → AllByRecursion (λ s. s < n) xs → mask_of xs + 2 ^ a ≤ 2 ^ n
small_from n a [] l h k = let p : 2 ^ a ≤ 2 ^ n = pow-le-pow_right (let two : 0 < 2 = omega arith in two) l in omega arith
small_from n a (x ∷ xs) l h k =
    let r = small_from n (suc x) xs (omega (arith, k.0)) h.1 k.1 in
    let p : 2 ^ a ≤ 2 ^ x = pow-le-pow_right (let two : 0 < 2 = omega arith in two) h.0 in
    omega (arith, r, p, pow-suc 2 x)

pub mask_small : (xs : List ℕ) → IsStrictlyIncreasing xs → AllByRecursion (λ s. s < SKILLS) xs → mask_of xs < 2 ^ SKILLS
mask_small xs h k = let a = small_from SKILLS 0 xs (omega arith) (rises xs h) k in omega arith

pub skills_again : (xs : List ℕ) → IsStrictlyIncreasing xs → AllByRecursion (λ s. s < SKILLS) xs → skills_of (mask_of xs) ≡ xs
skills_again xs h k = same_mask 0 0 (skills_of (mask_of xs)) xs (rises (skills_of (mask_of xs)) (skills_rise (mask_of xs))) (rises xs h) (mask_again (mask_of xs) (mask_small xs h k))
