-- laws of the numbers below another that a test keeps, and of the lists that they give: what comes first, and when there is none
use Rattle.std.proofs.Common.{◌≡◌, ◌≤◌, ◌<◌, ◌+◌, ◌⊎◌, inl, inr, ℕ, zero, suc, Bool, true, false, List, [], ◌∷◌, ◌++◌, get_or, ap, refl, sym, subst, ◌∙◌, arith, None, Some}
use Rattle.std.specs.Prelude.{filter, flat_map, slice_get, Contains, Any}
use Rattle.std.specs.Bool.{Decides}
use Rattle.std.specs.List.{range_with_len, list_any}
use Rattle.std.proofs.lemmas.Bool.{cases_eq, false_from_ne_true}
use Rattle.std.proofs.lemmas.List.Folds.{Any-from_list_any, list_any_at}
use Rattle.std.proofs.lemmas.List.FromFn.{length-range_with_len, get_or-range_with_len}
use Rattle.crew_terms.specs.Listed.{has_below, keeps}

-- x stands first in the list
abbrev pub BeginsWith : List ℕ → ℕ → Type 0
BeginsWith xs x = (rest : List ℕ) × (xs ≡ x ∷ rest)

-- so it does with more behind
pub begins_with_more : (xs ys : List ℕ) (x : ℕ) → BeginsWith xs x → BeginsWith (xs ++ ys) x
begins_with_more xs ys x (rest, e) = (rest ++ ys, ap (λ zs. zs ++ ys) e)

-- and behind nothing
pub begins_after_none : (xs ys : List ℕ) (x : ℕ) → xs ≡ [] → BeginsWith ys x → BeginsWith (xs ++ ys) x
begins_after_none xs ys x none begins = rw none begins

pub first_is : (xs : List ℕ) (x : ℕ) → BeginsWith xs x → slice_get xs 0 ≡ Some x
first_is xs x (rest, e) = ap (λ zs. slice_get zs 0) e

-- a list without a first is empty
pub none_first : (xs : List ℕ) → slice_get xs 0 ≡ None → xs ≡ []
none_first [] e = refl
none_first (x ∷ xs) e = absurd (let f : Some x ≡ None = e in cc)

pub none_in_front : (xs ys : List ℕ) → xs ++ ys ≡ [] → xs ≡ []
none_in_front [] ys e = refl
none_in_front (x ∷ xs) ys e = absurd (let f : x ∷ (xs ++ ys) ≡ [] = e in cc)

pub none_behind : (xs ys : List ℕ) → xs ++ ys ≡ [] → ys ≡ []
none_behind [] ys e = e
none_behind (x ∷ xs) ys e = absurd (let f : x ∷ (xs ++ ys) ≡ [] = e in cc)

-- ---- what a test keeps

-- nothing, where each number fails
pub filter_none : (test : ℕ → Bool) (a n : ℕ) → ((k : ℕ) → a ≤ k → k < a + n → test k ≡ false) → filter test (range_with_len a n) ≡ []
filter_none test a zero fails = refl
filter_none test a (suc n) fails = rw (fails a (omega arith) (omega arith)) (filter_none test (a + 1) n (λ k l m. fails k (omega arith) (omega arith)))

-- the first that passes comes first
pub filter_begins : (test : ℕ → Bool) (a n j : ℕ) → a ≤ j → j < a + n → test j ≡ true → ((k : ℕ) → a ≤ k → k < j → test k ≡ false)
    → BeginsWith (filter test (range_with_len a n)) j
filter_begins test a zero j from until passes fails = absurd (omega arith)
filter_begins test a (suc n) j from until passes fails = by (cases_eq a j) (λ l. filter_begins test (a + 1) n j l (omega arith) passes (λ k m. fails k (omega arith)))
  where
    by : (a ≡ j) ⊎ (a ≡ j → ⊥) → (a + 1 ≤ j → BeginsWith (filter test (range_with_len (a + 1) n)) j) → BeginsWith (filter test (range_with_len a (suc n))) j
    by (inl e) further = rw (ap test e ∙ passes) (filter test (range_with_len (a + 1) n), ap (λ k. k ∷ filter test (range_with_len (a + 1) n)) e)
    by (inr ne) further = rw (fails a (omega arith) (omega arith)) (further (omega arith))

-- where it keeps nothing each number fails
pub none_passes : (test : ℕ → Bool) (n j : ℕ) → filter test (range_with_len 0 n) ≡ [] → j < n → test j ≡ false
none_passes test n j none l = false_from_ne_true (test j) (λ e. nothing (subst (λ xs. Contains xs j) none (keeps test (range_with_len 0 n) j (has_below n j l) e)))
  where
    nothing : Contains [] j → ⊥
    nothing (k, m, e) = absurd (omega arith)

-- some number below n passes: the test tells the fact of each
pub any_decides : (test : ℕ → Bool) (P : ℕ → Type 0) (n : ℕ) → ((k : ℕ) → Decides (test k) (P k)) → Decides (list_any test (range_with_len 0 n)) ((k : ℕ) × (k < n) × P k)
any_decides test P n each = ((λ e. found (Any-from_list_any test (range_with_len 0 n) e)), tells)
  where
    found : Any (λ k. test k ≡ true) (range_with_len 0 n) → (k : ℕ) × (k < n) × P k
    found (at, k, l, is, passes) =
        let m = length-range_with_len 0 n in
        let e : get_or (range_with_len 0 n) at k ≡ 0 + at = get_or-range_with_len 0 n at k (omega arith) in
        (k, omega arith, (each k).0 passes)

    tells : (k : ℕ) × (k < n) × P k → list_any test (range_with_len 0 n) ≡ true
    tells (k, l, holds) =
        let m = length-range_with_len 0 n in
        let e : get_or (range_with_len 0 n) k 0 ≡ k = get_or-range_with_len 0 n k 0 l ∙ omega arith in
        list_any_at test (range_with_len 0 n) k 0 (omega arith) (ap test e ∙ (each k).1 holds)

-- ---- lists, each of a number

-- nothing, where each is empty
pub lists_none : (list : ℕ → List ℕ) (a n : ℕ) → ((k : ℕ) → a ≤ k → k < a + n → list k ≡ []) → flat_map list (range_with_len a n) ≡ []
lists_none list a zero empty = refl
lists_none list a (suc n) empty = rw (empty a (omega arith) (omega arith)) (lists_none list (a + 1) n (λ k l m. empty k (omega arith) (omega arith)))

-- the first of the first that is not empty comes first
pub lists_begin : (list : ℕ → List ℕ) (a n k x : ℕ) → a ≤ k → k < a + n → BeginsWith (list k) x → ((h : ℕ) → a ≤ h → h < k → list h ≡ [])
    → BeginsWith (flat_map list (range_with_len a n)) x
lists_begin list a zero k x from until begins empty = absurd (omega arith)
lists_begin list a (suc n) k x from until begins empty = by (cases_eq a k) (λ l. lists_begin list (a + 1) n k x l (omega arith) begins (λ h m. empty h (omega arith)))
  where
    by : (a ≡ k) ⊎ (a ≡ k → ⊥) → (a + 1 ≤ k → BeginsWith (flat_map list (range_with_len (a + 1) n)) x) → BeginsWith (flat_map list (range_with_len a (suc n))) x
    by (inl e) further = begins_with_more (list a) (flat_map list (range_with_len (a + 1) n)) x (subst (λ h. BeginsWith (list h) x) (sym e) begins)
    by (inr ne) further = begins_after_none (list a) (flat_map list (range_with_len (a + 1) n)) x (empty a (omega arith) (omega arith)) (further (omega arith))

-- where there is nothing each is empty
pub each_empty : (list : ℕ → List ℕ) (a n : ℕ) → flat_map list (range_with_len a n) ≡ [] → (k : ℕ) → a ≤ k → k < a + n → list k ≡ []
each_empty list a zero none k from until = absurd (omega arith)
each_empty list a (suc n) none k from until = by (cases_eq a k) (λ l. each_empty list (a + 1) n (none_behind (list a) (flat_map list (range_with_len (a + 1) n)) none) k l (omega arith))
  where
    by : (a ≡ k) ⊎ (a ≡ k → ⊥) → (a + 1 ≤ k → list k ≡ []) → list k ≡ []
    by (inl e) further = ap list (sym e) ∙ none_in_front (list a) (flat_map list (range_with_len (a + 1) n)) none
    by (inr ne) further = further (omega arith)
