-- laws of the numbers below another that a test keeps
use Rattle.std.proofs.Common.{◌≡◌, ◌<◌, ◌+◌, ℕ, zero, suc, Bool, true, false, cond, List, [], ◌∷◌, ◌++◌, get_or, ap, ◌∙◌, arith}
use Rattle.std.specs.Prelude.{All, filter, Contains}
use Rattle.std.specs.List.{range_with_len}
use Rattle.std.specs.List.Sorted.{IsStrictlyIncreasing}
use Rattle.std.proofs.lemmas.List.Elements.{All-contains, All-filter, filter_passes}
use Rattle.std.proofs.lemmas.List.{map-id}
use Rattle.std.proofs.lemmas.List.FromFn.{length-range_with_len, get_or-range_with_len, map-range_with_len_more}
use Rattle.std.proofs.lemmas.List.Kept.{IsStrictlyIncreasing-filter}
use Rattle.crew_terms.specs.Minutes.{IsListOf}

-- they are below it
pub all_below : (n : ℕ) → All (λ j. j < n) (range_with_len 0 n)
all_below n k d l =
    let m = length-range_with_len 0 n in
    let e : get_or (range_with_len 0 n) k d ≡ 0 + k = get_or-range_with_len 0 n k d (omega arith) in
    omega arith

-- one more number comes at the end
pub range_more : (n : ℕ) → range_with_len 0 (n + 1) ≡ range_with_len 0 n ++ n ∷ []
range_more n = simp map-id at (map-range_with_len_more (λ (j : ℕ). j) 0 n n (omega arith))

-- and so below the number after n
pub range_suc : (n : ℕ) → range_with_len 0 (suc n) ≡ range_with_len 0 n ++ n ∷ []
range_suc n = let e : suc n ≡ n + 1 = omega arith in ap (range_with_len 0) e ∙ range_more n

-- they rise
pub below_rises : (n : ℕ) → IsStrictlyIncreasing (range_with_len 0 n)
below_rises n k l =
    let m = length-range_with_len 0 n in
    let a : get_or (range_with_len 0 n) k 0 ≡ 0 + k = get_or-range_with_len 0 n k 0 (omega arith) in
    let b : get_or (range_with_len 0 n) (k + 1) 0 ≡ 0 + (k + 1) = get_or-range_with_len 0 n (k + 1) 0 (omega arith) in
    omega arith

-- each stands among them
pub has_below : (n j : ℕ) → j < n → Contains (range_with_len 0 n) j
has_below n j l = (j, rw (length-range_with_len 0 n) l, get_or-range_with_len 0 n j j l ∙ omega arith)

-- what passes the test is kept
pub keeps : (p : ℕ → Bool) (xs : List ℕ) (x : ℕ) → Contains xs x → p x ≡ true → Contains (filter p xs) x
keeps p [] x (k, l, e) t = absurd (omega arith)
keeps p (y ∷ ys) x (zero, l, e) t = rw (ap p e ∙ t) (0, omega arith, e)
keeps p (y ∷ ys) x (suc k, l, e) t = later (p y) (keeps p ys x (k, omega arith, e) t)
  where
    later : (b : Bool) → Contains (filter p ys) x → Contains (cond b (y ∷ filter p ys) (filter p ys)) x
    later true (i, m, f) = (suc i, omega arith, f)
    later false c = c

-- a test that tells the fact of each number gives the list of it, where the fact holds below n alone
pub list_of : (P : ℕ → Type 0) (p : ℕ → Bool) (n : ℕ) → ((j : ℕ) → j < n → p j ≡ true → P j) → ((j : ℕ) → P j → (j < n) × (p j ≡ true))
    → IsListOf P (filter p (range_with_len 0 n))
list_of P p n tells told = record {
  rising = IsStrictlyIncreasing-filter p (range_with_len 0 n) (below_rises n);
  each = λ j. (λ c. tells j (is_below j c) (passes j c), λ h. let a = told j h in keeps p (range_with_len 0 n) j (has_below n j a.0) a.1);
}
  where
    is_below : (j : ℕ) → Contains (filter p (range_with_len 0 n)) j → j < n
    is_below j c = All-contains (λ j. j < n) (filter p (range_with_len 0 n)) j (All-filter p (λ j. j < n) (range_with_len 0 n) (all_below n)) c

    passes : (j : ℕ) → Contains (filter p (range_with_len 0 n)) j → p j ≡ true
    passes j c = All-contains (λ j. p j ≡ true) (filter p (range_with_len 0 n)) j (filter_passes p (range_with_len 0 n)) c
