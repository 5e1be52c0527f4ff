-- prices of a run's optimum that are rounded
use Rattle.std.proofs.Common.{◌≡◌, ◌<◌, ◌+◌, ◌⊎◌, inl, inr, ◌≢◌, ℕ, zero, suc, ℤ, pos, List, [], ◌∷◌, length, get_or, set, sym, ap, subst, refl, ◌∙◌, arith}
use Rattle.std.specs.Prelude.{Contains}
use Rattle.std.proofs.lemmas.Bool.{cases_eq}
use Rattle.std.proofs.lemmas.List.{append-nil, get_or-set_same, get_or-set_other}
use Rattle.std.proofs.lemmas.List.Elements.{All-contains, All-contains_itself, All-filter, All-get_or, Contains-append_cases, Contains-get_or}
use Rattle.crew_num.specs.declared.Overflow.{Overflow}
use Rattle.crew_terms.specs.Leaf.{IsOnRequired, Prices, pi_of, rho_of, zero_prices}
use Rattle.crew_terms.specs.Limits.{Limits, Route, tasks_in, teams_in}
use Rattle.crew_terms.specs.ZeroPrices.{zero_rho}
use Rattle.potentials.specs.Prices.{ArePrices, with_rho}
use Rattle.search_terms.specs.Earned.{AreLegalOf, AreRounded, RunOverflows}
use Rattle.search_terms.specs.Opening.{OpensWith, basics, openers, opens, places}
use Rattle.search_terms.specs.Overflows.{OverflowAt}
use Rattle.search_terms.specs.Rows.{Rows}
use Rattle.search_terms.specs.declared.Place.{Place}
use Rattle.search_terms.specs.declared.Place.TheVariants.{Missed, Shortage, Value}
use Rattle.master_run.specs.State.{RunState, routes_of}
use Rattle.master_run.specs.Along.{IsOver}
use Rattle.master_run.specs.Rounding.{AreTasksRounded, IsPairRounded, IsRoundedAt, KeepsRounded}

-- an overflow at the run's optimum is one of the run
pub overflow_here : (n : Limits) (columns : List Route) (r : RunState) (f : Overflow) → IsOver n columns r → OverflowAt n r.master.rows [] f
    → RunOverflows n r.pivots columns f
overflow_here n columns r f over at = record {
  front = routes_of columns r.ids;
  back = [];
  legal = subst (AreLegalOf n columns) (sym (append-nil (routes_of columns r.ids))) over.legal;
  made = over.at.along.made;
  few = let e = over.at.along.count in let s = over.at.some in omega arith;
  rows = r.master.rows;
  run = over.at.along.follows.run;
  overflow = at;
}

-- ---- which places opening rows open with

opens_among : (n : Limits) (h : ℕ) (p : Place) → OpensWith n h p → Contains (places n) p ⊎ (Value ≡ p)
opens_among n h p opens_with = by (Contains-append_cases (basics (places n)) (Value ∷ []) p
    (subst (Contains (openers (places n))) opens_with.is (Contains-get_or (openers (places n)) h Value opens_with.known)))
  where
    by : Contains (basics (places n)) p ⊎ Contains (Value ∷ []) p → Contains (places n) p ⊎ (Value ≡ p)
    by (inl has) = inl (All-contains (Contains (places n)) (basics (places n)) p (All-filter opens (Contains (places n)) (places n) (All-contains_itself (places n))) has)
    by (inr (zero, known, at)) = inr at
    by (inr (suc k, known, at)) = absurd (omega arith)

shortage_in : (n : Limits) (h j : ℕ) → OpensWith n h (Shortage j) → Contains (places n) (Shortage j)
shortage_in n h j opens_with = elim (opens_among n h (Shortage j) opens_with) [ inl has ↦ has | inr e ↦ cc ]

missed_in : (n : Limits) (h k j : ℕ) → OpensWith n h (Missed k j) → Contains (places n) (Missed k j)
missed_in n h k j opens_with = elim (opens_among n h (Missed k j) opens_with) [ inl has ↦ has | inr e ↦ cc ]

-- a pair that isn't required has no row
pub free_pair : (n : Limits) (t : Rows) (p : Prices) (k j : ℕ) → (Contains (places n) (Missed k j) → ⊥) → IsPairRounded n t p k j
free_pair n t p k j none h opens_with = absurd (none (missed_in n h k j opens_with))

-- the prices of all tasks and the extras of all pairs are rounded
pub all_rounded : (n : Limits) (t : Rows) (some all : Prices) → ((j : ℕ) → Contains (places n) (Shortage j) → j < tasks_in n)
    → ((k j : ℕ) → Contains (places n) (Missed k j) → (k < teams_in n) × (j < tasks_in n))
    → AreTasksRounded n t some (tasks_in n) → KeepsRounded n t some all → IsOnRequired n all
    → ((k j : ℕ) → k < teams_in n → j < tasks_in n → IsPairRounded n t all k j) → AreRounded n t all
all_rounded n t some all tasks pairs rounds keeps priced extras = record {
  priced = priced;
  tasks = λ h j opens_with. ap (λ l. get_or l j (pos 0)) keeps.tasks ∙ rounds j (tasks j (shortage_in n h j opens_with)) h opens_with;
  pairs = λ h k j opens_with. let (team, task) = pairs k j (missed_in n h k j opens_with) in extras k j team task h opens_with;
}

-- one more task
pub task_set : (n : Limits) (t : Rows) (p : Prices) (j : ℕ) (v : ℤ) → j < length p.pi → AreTasksRounded n t p j → IsRoundedAt n t (Shortage j) v
    → AreTasksRounded n t (record p { pi = set p.pi j v }) (j + 1)
task_set n t p j v known rounds here i below = by (cases_eq i j)
  where
    by : (i ≡ j) ⊎ (i ≡ j → ⊥) → IsRoundedAt n t (Shortage i) (pi_of (record p { pi = set p.pi j v }) i)
    by (inl e) = subst (λ a. IsRoundedAt n t (Shortage a) (pi_of (record p { pi = set p.pi j v }) a)) (sym e)
        (λ h opens_with. get_or-set_same p.pi j v (pos 0) known ∙ here h opens_with)
    by (inr ne) = λ h opens_with. get_or-set_other p.pi j i v (pos 0) ne ∙ rounds i (let d : i ≢ j = ne in omega arith) h opens_with

-- ---- one extra is set

module _ (p : Prices) (k j : ℕ) (v : ℤ) where
  rho_same : k < length p.rho → j < length (get_or p.rho k []) → rho_of (with_rho p k j v) k j ≡ v
  rho_same team task = ap (λ (r : List ℤ). get_or r j (pos 0)) (get_or-set_same p.rho k (set (get_or p.rho k []) j v) [] team)
      ∙ get_or-set_same (get_or p.rho k []) j v (pos 0) task

  rho_other : k < length p.rho → (g h : ℕ) → ((g ≡ k) × (h ≡ j) → ⊥) → rho_of (with_rho p k j v) g h ≡ rho_of p g h
  rho_other team g h ne = by (cases_eq g k)
    where
      by : (g ≡ k) ⊎ (g ≡ k → ⊥) → rho_of (with_rho p k j v) g h ≡ rho_of p g h
      by (inr other) = ap (λ (r : List ℤ). get_or r h (pos 0)) (get_or-set_other p.rho k g (set (get_or p.rho k []) j v) [] other)
      by (inl e) = ap (λ i. rho_of (with_rho p k j v) i h) e
          ∙ ap (λ (r : List ℤ). get_or r h (pos 0)) (get_or-set_same p.rho k (set (get_or p.rho k []) j v) [] team)
          ∙ get_or-set_other (get_or p.rho k []) j h v (pos 0) (λ f. ne (e, f)) ∙ ap (λ i. rho_of p i h) (sym e)

  module _ (n : Limits) (t : Rows) (is : ArePrices p) (team : k < length p.rho) (task : j < length p.pi) (rounds : IsRoundedAt n t (Missed k j) v) where
    at : rho_of (with_rho p k j v) k j ≡ v
    at = rho_same team (let e = All-get_or (λ (r : List ℤ). length r ≡ length p.pi) p.rho k [] team is.columns in omega arith)

    pub pair_set : IsPairRounded n t (with_rho p k j v) k j
    pair_set h opens_with = at ∙ rounds h opens_with

    pub pairs_kept : KeepsRounded n t p (with_rho p k j v)
    pairs_kept = record { tasks = refl; pairs = λ g i was. by g i was (cases_eq g k) (cases_eq i j) }
      where
        by : (g i : ℕ) → IsPairRounded n t p g i → (g ≡ k) ⊎ (g ≡ k → ⊥) → (i ≡ j) ⊎ (i ≡ j → ⊥) → IsPairRounded n t (with_rho p k j v) g i
        by g i was (inl e) (inl f) = subst (λ a. IsPairRounded n t (with_rho p k j v) a i) (sym e)
            (subst (λ b. IsPairRounded n t (with_rho p k j v) k b) (sym f) pair_set)
        by g i was (inl e) (inr ne) = λ h opens_with. rho_other team g i (λ b. ne b.1) ∙ was h opens_with
        by g i was (inr ne) other = λ h opens_with. rho_other team g i (λ b. ne b.0) ∙ was h opens_with

pub kept_all : (n : Limits) (t : Rows) (p : Prices) → KeepsRounded n t p p
kept_all n t p = record { tasks = refl; pairs = λ k j was. was }

pub kept_then : (n : Limits) (t : Rows) (a b c : Prices) → KeepsRounded n t a b → KeepsRounded n t b c → KeepsRounded n t a c
kept_then n t a b c h g = record { tasks = g.tasks ∙ h.tasks; pairs = λ k j was. g.pairs k j (h.pairs k j was) }

-- ---- prices that are all 0

pub zero_on_required : (n : Limits) (p : Prices) → p ≡ zero_prices n → IsOnRequired n p
zero_on_required n p is = subst (IsOnRequired n) (sym is) (λ k j ne. zero_rho n k j)
