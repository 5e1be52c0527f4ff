-- the numbers at the end of a line, read one after another
use Rattle.std.proofs.Common.{◌≡◌, ◌≤◌, ◌<◌, ◌+◌, ◌^◌, ◌++◌, ℕ, zero, suc, List, [], ◌∷◌, length, map, take, get_or, ap, subst, sym, refl, ◌∙◌, arith, ◌⊎◌, inl, inr}
use Rattle.std.specs.Prelude.{ℤ, pos, slice_index_or, All}
use Rattle.std.specs.List.{AllByRecursion}
use Rattle.std.specs.List.Sorted.{IsStrictlyIncreasing}
use Rattle.std.proofs.Math.Nat.{pow-succ'}
use Rattle.std.proofs.Math.Pow.{pow_mono}
use Rattle.std.proofs.lemmas.Bool.{cases_lt}
use Rattle.std.proofs.lemmas.List.{length-map, take_more}
use Rattle.dossier_terms.specs.Dossier.{mask_of}
use Rattle.head_check.specs.Numbers.{natural, naturals, AreBelow}

pub below_from : (past : ℕ) (ns : List ℕ) → AllByRecursion (λ n. n < past) ns → AreBelow past (map pos ns)
below_from past [] h k d l = absurd (omega arith)
below_from past (n ∷ ns) h zero d l = (n, refl, h.0)
below_from past (n ∷ ns) h (suc k) d l = below_from past ns h.1 k d (omega arith)

-- the number at a place
pub natural_at : (zs : List ℤ) (n : ℕ) → n < length zs → natural (slice_index_or zs n (pos 0)) ≡ get_or (naturals zs) n 0
natural_at [] n l = absurd (omega arith)
natural_at (z ∷ zs) zero l = refl
natural_at (z ∷ zs) (suc n) l = natural_at zs n (omega arith)

mask_more : (xs : List ℕ) (s : ℕ) → mask_of (xs ++ s ∷ []) ≡ mask_of xs + 2 ^ s
mask_more [] s = omega arith
mask_more (x ∷ xs) s = let e = mask_more xs s in omega arith

-- the skills up to a place rise strictly, and the set is of these; the next one has to be least or more
pub record SkillsSoFar (ss : List ℕ) (n set least : ℕ) : Type 0 where
  pub rising : (k : ℕ) → k + 1 < n → get_or ss k 0 < get_or ss (k + 1) 0
  pub is : set ≡ mask_of (take n ss)
  pub small : set < 2 ^ least
  pub most : least ≤ 64
  pub none : n ≡ 0 → least ≡ 0
  pub last : (k : ℕ) → k + 1 ≡ n → least ≡ get_or ss k 0 + 1

-- a sum with a power that is above it
power_more : (set least skill : ℕ) → set < 2 ^ least → least ≤ skill → set + 2 ^ skill < 2 ^ (skill + 1)
power_more set least skill a b =
    let p = pow_mono b in
    let q = pow-succ' 2 skill in
    let r : skill + 1 ≡ suc skill = omega arith in
    subst (λ n. set + 2 ^ skill < 2 ^ n) (sym r) (omega (arith, p, q))

pub power_fits : (set least skill : ℕ) → set < 2 ^ least → least ≤ skill → skill < 64 → set + 2 ^ skill < 2 ^ 64
power_fits set least skill a b c =
    let p = power_more set least skill a b in
    let r : skill + 1 ≤ 64 = omega arith in
    let q : 2 ^ (skill + 1) ≤ 2 ^ 64 = pow_mono r in omega (arith, p, q)

pub skills_step : (ss : List ℕ) (n set least skill : ℕ) → SkillsSoFar ss n set least → skill ≡ get_or ss n 0 → n < length ss → least ≤ skill → skill < 64
    → SkillsSoFar ss (n + 1) (set + 2 ^ skill) (skill + 1)
skills_step ss n set least skill h e l rise small = record {
  rising = λ k b. rises k b (cases_lt (k + 1) n);
  is = ap (λ x. x + 2 ^ skill) h.is ∙ ap (λ s. mask_of (take n ss) + 2 ^ s) e ∙ sym (mask_more (take n ss) (get_or ss n 0))
      ∙ ap mask_of (sym (take_more ss n 0 l));
  small = power_more set least skill h.small rise;
  most = omega arith;
  none = λ f. absurd (omega arith);
  last = λ k f. let g : k ≡ n = omega arith in ap (λ x. x + 1) (e ∙ ap (λ m. get_or ss m 0) (sym g));
}
  where
    rises : (k : ℕ) → k + 1 < n + 1 → (k + 1 < n) ⊎ (n ≤ k + 1) → get_or ss k 0 < get_or ss (k + 1) 0
    rises k b (inl c) = h.rising k c
    rises k b (inr c) =
        let f : k + 1 ≡ n = omega arith in
        let g = h.last k f in
        subst (λ m. get_or ss k 0 < get_or ss m 0) (sym f) (omega arith)

pub skills_fall : (ss : List ℕ) (n set least : ℕ) → SkillsSoFar ss n set least → n < length ss → get_or ss n 0 < least → IsStrictlyIncreasing ss → ⊥
skills_fall ss zero set least h l low rise = absurd (let e = h.none refl in omega arith)
skills_fall ss (suc n) set least h l low rise =
    let e = h.last n (omega arith) in
    let r : get_or ss n 0 < get_or ss (n + 1) 0 = rise n (omega arith) in
    let f : n + 1 ≡ suc n = omega arith in
    let s : get_or ss n 0 < get_or ss (suc n) 0 = subst (λ m. get_or ss n 0 < get_or ss m 0) f r in
    omega arith

-- a number that is told is the natural one there
pub told_at : (zs : List ℤ) (n t : ℕ) → n < length zs → slice_index_or zs n (pos 0) ≡ pos t → t ≡ get_or (naturals zs) n 0
told_at zs n t l e = ap natural (sym e) ∙ natural_at zs n l

-- and below the bound
pub told_below : (past : ℕ) (zs : List ℤ) (n t : ℕ) → AreBelow past zs → n < length zs → slice_index_or zs n (pos 0) ≡ pos t → t < past
told_below past zs n t h l e = let b = h n (pos 0) l in let f : b.0 ≡ t = ap natural (sym b.1 ∙ e) in let g = b.2 in omega arith

pub below_more : (a b : ℕ) (zs : List ℤ) → a ≤ b → AreBelow a zs → AreBelow b zs
below_more a b zs le h = λ k d l. let x = h k d l in (x.0, x.1, (let y = x.2 in omega arith))

-- one number more is copied
pub pushed : (zs : List ℤ) (n t : ℕ) (copied : List ℕ) → n < length zs → t ≡ get_or (naturals zs) n 0 → copied ≡ take n (naturals zs) → copied ++ t ∷ [] ≡ take (n + 1) (naturals zs)
pushed zs n t copied l e so_far =
    let b : n < length (naturals zs) = (let m = length-map zs natural in omega arith) in
    ap (λ x. x ++ t ∷ []) so_far ∙ ap (λ x. take n (naturals zs) ++ x ∷ []) e ∙ sym (take_more (naturals zs) n 0 b)

pub naturals_below : (most : ℕ) (zs : List ℤ) → AreBelow (most + 1) zs → All (λ n. n ≤ most) (naturals zs)
naturals_below most [] h k d l = absurd (omega arith)
naturals_below most (z ∷ zs) h zero d l =
    let b = h 0 (pos 0) (omega arith) in
    let e : natural z ≡ b.0 = ap natural b.1 in let f = b.2 in omega arith
naturals_below most (z ∷ zs) h (suc k) d l = naturals_below most zs (λ n x m. h (suc n) x (omega arith)) k d (omega arith)
