-- laws of what a route earns, task by task
use Rattle.std.proofs.Common.{◌≡◌, ◌<◌, ◌+◌, ◌∙◌, ◌⊎◌, inl, inr, ℕ, suc, Bool, true, false, cond, List, [], ◌∷◌, refl, ap, sym, arith, eqb}
use Rattle.std.specs.Prelude.{ℤ, pos, ◌+ℤ◌, ◌*ℤ◌}
use Rattle.std.proofs.lemmas.Bool.{eq-eqb, ne_eqb, cases_Bool}
use Rattle.std.proofs.lemmas.Int.{ints}
use Rattle.std.proofs.lemmas.List.Sums.{sum_by-cons}
use Rattle.std.proofs.Math.IntN.{suc_ℤ-*ℤ, zero-*ℤ}
use Rattle.crew_terms.specs.Leaf.{Prices, earned, reward, rewards}
use Rattle.crew_terms.specs.Limits.{Limits, IsRoute, GoesOn, tasks_in}
use Rattle.crew_terms.specs.Total.{total}
use Rattle.crew_terms.specs.Totals.{total-one, total-plus, total-same, total-zero}
use Rattle.crew_terms.specs.declared.Visit.{Visit}
use Rattle.share_terms.specs.Shares.{visits_to}

-- all visits are to one of so many tasks
abbrev pub AreKnown : ℕ → List Visit → Type 0
AreKnown tasks [] = Unit {0}
AreKnown tasks (v ∷ vs) = (v.task < tasks) × AreKnown tasks vs

known_on : (n : Limits) (k : ℕ) (v : Visit) (vs : List Visit) → GoesOn n k v vs → AreKnown (tasks_in n) vs
known_on n k v [] h = tt
known_on n k v (w ∷ ws) h = (h.1.known, known_on n k w ws h.2)

-- those of a route are
pub known_route : (n : Limits) (k : ℕ) (vs : List Visit) → IsRoute n k vs → AreKnown (tasks_in n) vs
known_route n k [] h = tt
known_route n k (v ∷ vs) h = (h.0.known, known_on n k v vs h.1)

visits-cons : (v : Visit) (vs : List Visit) (j : ℕ) → visits_to j (v ∷ vs) ≡ cond (eqb v.task j) 1 0 + visits_to j vs
visits-cons v vs j = sum_by-cons (λ (w : Visit). cond (eqb w.task j) 1 0) v vs

-- one time more
once_more : (m : ℕ) (z : ℤ) → pos (suc m) *ℤ z ≡ z +ℤ (pos m *ℤ z)
once_more m z = let s = suc_ℤ-*ℤ (pos m) z in omega (arith, ints)

-- the rewards of visits are the rewards of the tasks, each times the visits to it
pub rewards_total : (p : Prices) (k tasks : ℕ) (vs : List Visit) → AreKnown tasks vs
    → rewards (earned p k) vs ≡ total tasks (λ j. pos (visits_to j vs) *ℤ reward p k j)
rewards_total p k tasks [] h = sym (total-zero tasks (λ j. pos 0 *ℤ reward p k j) (λ j b. zero-*ℤ (reward p k j)))
rewards_total p k tasks (v ∷ vs) h =
    let rest = rewards_total p k tasks vs h.1 in
    let each = total-same tasks (λ j. pos (visits_to j (v ∷ vs)) *ℤ reward p k j)
    (λ j. cond (eqb v.task j) (reward p k j) (pos 0) +ℤ (pos (visits_to j vs) *ℤ reward p k j)) (λ j b. at j (cases_Bool (eqb v.task j))) in
    let plus = total-plus tasks (λ j. cond (eqb v.task j) (reward p k j) (pos 0)) (λ j. pos (visits_to j vs) *ℤ reward p k j) in
    let one = total-one tasks (λ j. cond (eqb v.task j) (reward p k j) (pos 0)) v.task h.0
    (λ j b ne. ap (λ t. cond t (reward p k j) (pos 0)) (ne_eqb v.task j (λ e. ne (sym e)))) in
    let same = ap (λ t. cond t (reward p k v.task) (pos 0)) (eq-eqb v.task v.task refl) in
    omega (arith, ints)
  where
    more : (j : ℕ) (t : Bool) → cond t 1 0 + visits_to j vs ≡ cond t (suc (visits_to j vs)) (visits_to j vs)
    more j true = omega arith
    more j false = omega arith

    at : (j : ℕ) → (eqb v.task j ≡ true) ⊎ (eqb v.task j ≡ false)
        → pos (visits_to j (v ∷ vs)) *ℤ reward p k j ≡ cond (eqb v.task j) (reward p k j) (pos 0) +ℤ (pos (visits_to j vs) *ℤ reward p k j)
    at j (inl e) =
        ap (λ m. pos m *ℤ reward p k j) (visits-cons v vs j ∙ more j (eqb v.task j) ∙ ap (λ t. cond t (suc (visits_to j vs)) (visits_to j vs)) e)
        ∙ once_more (visits_to j vs) (reward p k j) ∙ ap (λ t. cond t (reward p k j) (pos 0) +ℤ (pos (visits_to j vs) *ℤ reward p k j)) (sym e)
    at j (inr e) =
        let none : pos (visits_to j vs) *ℤ reward p k j ≡ pos 0 +ℤ (pos (visits_to j vs) *ℤ reward p k j) = omega (arith, ints) in
        ap (λ m. pos m *ℤ reward p k j) (visits-cons v vs j ∙ more j (eqb v.task j) ∙ ap (λ t. cond t (suc (visits_to j vs)) (visits_to j vs)) e)
        ∙ none ∙ ap (λ t. cond t (reward p k j) (pos 0) +ℤ (pos (visits_to j vs) *ℤ reward p k j)) (sym e)
