-- prices that are read task by task
use Rattle.std.proofs.Common.{◌≡◌, ◌≢◌, ◌≤◌, ◌<◌, ◌+◌, ℕ, zero, suc, List, [], ◌∷◌, ◌++◌, length, get_or, ap, sym, subst, ◌∙◌, arith, ◌⊎◌, inl, inr, length-append}
use Rattle.std.specs.Prelude.{ℤ, pos}
use Rattle.std.specs.List.{AllByRecursion}
use Rattle.std.proofs.lemmas.Int.{ints}
use Rattle.std.proofs.lemmas.Bool.{cases_lt, cases_eq}
use Rattle.std.proofs.lemmas.List.{get_or_append_left, get_or_past, get_or_push}
use Rattle.crew_terms.specs.Instance.{Instance, task_of}
use Rattle.crew_terms.specs.Leaf.{IsPrice}
use Rattle.dossier_terms.specs.Ranges.{AreNumbers}
use Rattle.squeeze_terms.specs.MinutePrices.{MinutePrices, AreMinutePrices, price_at, price_count, prices_of}
use Rattle.sheet_laws.specs.Priced.{ArePriced}

is_price : (vs : List ℤ) → AllByRecursion IsPrice vs → (x : ℕ) → IsPrice (get_or vs x (pos 0))
is_price [] h x = subst IsPrice (sym (get_or_past [] x (pos 0) (omega arith))) (record { least = omega (arith, ints); most = omega (arith, ints) })
is_price (v ∷ vs) h zero = h.0
is_price (v ∷ vs) h (suc x) = is_price vs h.1 x

-- before the first task
pub none_priced : (i : Instance) → ArePriced i []
none_priced i = record { counts = λ j l. absurd (omega arith); range = λ j x. is_price [] tt x }

-- one more task
pub one_priced : (i : Instance) (p : MinutePrices) (vs : List ℤ) → ArePriced i p → AreNumbers IsPrice (price_count (task_of i (length p))) vs → ArePriced i (p ++ vs ∷ [])
one_priced i p vs h fits = record { counts = counts; range = range }
  where
    counts : (j : ℕ) → j < length (p ++ vs ∷ []) → length (prices_of (p ++ vs ∷ []) j) ≡ price_count (task_of i j)
    counts j l = by (cases_lt j (length p))
      where
        by : (j < length p) ⊎ (length p ≤ j) → length (prices_of (p ++ vs ∷ []) j) ≡ price_count (task_of i j)
        by (inl m) = ap length (get_or_append_left p (vs ∷ []) [] j m) ∙ h.counts j m
        by (inr m) =
            let n = length-append p (vs ∷ []) in
            let e : j ≡ length p = omega arith in
            ap length (get_or_push p vs [] j (sym e)) ∙ fits.count ∙ ap (λ h. price_count (task_of i h)) (sym e)

    range : (j x : ℕ) → IsPrice (price_at (p ++ vs ∷ []) j x)
    range j x = by (cases_lt j (length p)) (cases_eq j (length p))
      where
        by : (j < length p) ⊎ (length p ≤ j) → (j ≡ length p) ⊎ (j ≡ length p → ⊥) → IsPrice (price_at (p ++ vs ∷ []) j x)
        by (inl m) e = subst (λ row. IsPrice (get_or row x (pos 0))) (sym (get_or_append_left p (vs ∷ []) [] j m)) (h.range j x)
        by (inr m) (inl e) = subst (λ row. IsPrice (get_or row x (pos 0))) (sym (get_or_push p vs [] j (sym e))) (is_price vs fits.each x)
        by (inr m) (inr ne) =
            let d : j ≢ length p = ne in
            let n = length-append p (vs ∷ []) in
            subst (λ row. IsPrice (get_or row x (pos 0))) (sym (get_or_past (p ++ vs ∷ []) j [] (omega arith))) (is_price [] tt x)

-- all of them
pub all_priced : (i : Instance) (p : MinutePrices) → ArePriced i p → length p ≡ length i.tasks → AreMinutePrices i p
all_priced i p h all = record { tasks = all; counts = λ j l. h.counts j (omega arith); range = h.range }
