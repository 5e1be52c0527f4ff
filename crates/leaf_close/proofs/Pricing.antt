-- prices that are set one after the other
use Rattle.std.proofs.Common.{◌≡◌, ◌≤◌, ◌<◌, ◌+◌, ◌⊎◌, inl, inr, ℕ, ℤ, pos, true, false, cond, eqb, List, [], length, get_or, set, refl, sym, ap, subst, arith, ◌∙◌}
use Rattle.std.proofs.lemmas.Bool.{cases_eq, eq-eqb, ne_eqb}
use Rattle.std.proofs.lemmas.List.{get_or-set_same, get_or-set_other, length-replicate, length-set}
use Rattle.std.proofs.lemmas.List.Elements.{All-get_or}
use Rattle.crew_terms.specs.Leaf.{Prices, pi_of, rho_of}
use Rattle.crew_terms.specs.Limits.{Limits, IsLimits, is_required, pair_of, tasks_in, teams_in}
use Rattle.crew_terms.specs.declared.Pair.{Pair}
use Rattle.crew_terms.specs.declared.Pair.TheVariants.{Free, Forbidden, Required}
use Rattle.crew_terms.specs.Leaf.{zero_prices}
use Rattle.crew_terms.specs.ZeroPrices.{zero_pi, zero_rho}
use Rattle.crew_terms.specs.Nodes.{required_is}
use Rattle.potentials.specs.Prices.{ArePrices, ArePricesOf, with_rho}
use Rattle.search_terms.specs.Closing.{ArePricedBy, StuckPrices, all_cost}
use Rattle.leaf_close.proofs.Doing.{known_task, known_team}

-- ---- one price of a pair is set

module _ (p : Prices) (k j : ℕ) (v : ℤ) where
  rho_same : k < length p.rho → j < length (get_or p.rho k []) → rho_of (with_rho p k j v) k j ≡ v
  rho_same team task = ap (λ (r : List ℤ). get_or r j (pos 0)) (get_or-set_same p.rho k (set (get_or p.rho k []) j v) [] team) ∙ get_or-set_same (get_or p.rho k []) j v (pos 0) task

  rho_other : k < length p.rho → (g h : ℕ) → ((g ≡ k) × (h ≡ j) → ⊥) → rho_of (with_rho p k j v) g h ≡ rho_of p g h
  rho_other team g h ne = by (cases_eq g k)
    where
      by : (g ≡ k) ⊎ (g ≡ k → ⊥) → rho_of (with_rho p k j v) g h ≡ rho_of p g h
      by (inr other) = ap (λ (r : List ℤ). get_or r h (pos 0)) (get_or-set_other p.rho k g (set (get_or p.rho k []) j v) [] other)
      by (inl e) = ap (λ i. rho_of (with_rho p k j v) i h) e
          ∙ ap (λ (r : List ℤ). get_or r h (pos 0)) (get_or-set_same p.rho k (set (get_or p.rho k []) j v) [] team)
          ∙ get_or-set_other (get_or p.rho k []) j h v (pos 0) (λ f. ne (e, f)) ∙ ap (λ i. rho_of p i h) (sym e)

-- the pairs of which a fact holds have the price, all others have none
pub record ArePairs (p : Prices) (v : ℤ) (Holds : ℕ → ℕ → Type 0) : Type 0 where
  pub inside : (g h : ℕ) → Holds g h → rho_of p g h ≡ v
  pub outside : (g h : ℕ) → (Holds g h → ⊥) → rho_of p g h ≡ pos 0

pub no_pairs : (n : Limits) (p : Prices) (v : ℤ) (Holds : ℕ → ℕ → Type 0) → p.rho ≡ (zero_prices n).rho → ((g h : ℕ) → Holds g h → ⊥) → ArePairs p v Holds
no_pairs n p v Holds e none = record {
  inside = λ g h x. absurd (none g h x);
  outside = λ g h x. ap (λ (rows : List (List ℤ)). get_or (get_or rows g []) h (pos 0)) e ∙ zero_rho n g h;
}

pub pairs_set : (p : Prices) (k j : ℕ) (v : ℤ) (Old New : ℕ → ℕ → Type 0) → ArePrices p → k < length p.rho → j < length p.pi → ArePairs p v Old
    → New k j → ((g h : ℕ) → Old g h → New g h) → ((g h : ℕ) → New g h → Old g h ⊎ ((g ≡ k) × (h ≡ j))) → ArePairs (with_rho p k j v) v New
pairs_set p k j v Old New is team task are here still only = record {
  inside = λ g h x. by g h (only g h x) (cases_eq g k) (cases_eq h j);
  outside = λ g h x. rho_other p k j v team g h (λ e. x (subst (λ i. New i h) (sym e.0) (subst (New k) (sym e.1) here))) ∙ are.outside g h (λ o. x (still g h o));
}
  where
    at : rho_of (with_rho p k j v) k j ≡ v
    at = rho_same p k j v team (let e = All-get_or (λ (r : List ℤ). length r ≡ length p.pi) p.rho k [] team is.columns in omega arith)

    set_at : (g h : ℕ) → (g ≡ k) → (h ≡ j) → rho_of (with_rho p k j v) g h ≡ v
    set_at g h e f = ap (λ i. rho_of (with_rho p k j v) i h) e ∙ ap (rho_of (with_rho p k j v) k) f ∙ at

    by : (g h : ℕ) → Old g h ⊎ ((g ≡ k) × (h ≡ j)) → (g ≡ k) ⊎ (g ≡ k → ⊥) → (h ≡ j) ⊎ (h ≡ j → ⊥) → rho_of (with_rho p k j v) g h ≡ v
    by g h (inr e) x y = set_at g h e.0 e.1
    by g h (inl o) (inl e) (inl f) = set_at g h e f
    by g h (inl o) (inl e) (inr ne) = rho_other p k j v team g h (λ b. ne b.1) ∙ are.inside g h o
    by g h (inl o) (inr ne) y = rho_other p k j v team g h (λ b. ne b.0) ∙ are.inside g h o

pub pairs_same : (p : Prices) (v : ℤ) (Old New : ℕ → ℕ → Type 0) → ArePairs p v Old → ((g h : ℕ) → Old g h → New g h) → ((g h : ℕ) → New g h → Old g h) → ArePairs p v New
pairs_same p v Old New are still only = record { inside = λ g h x. are.inside g h (only g h x); outside = λ g h x. are.outside g h (λ o. x (still g h o)) }

pub still_shaped : (n : Limits) (p : Prices) (k j : ℕ) (v : ℤ) → ArePricesOf n p → ArePricesOf n (with_rho p k j v)
still_shaped n p k j v is = record { tasks = is.tasks; teams = length-set p.rho k (set (get_or p.rho k []) j v) ∙ is.teams }

-- ---- the required pairs of a team, and of a task

-- the required pairs of team k with the first m tasks
pub record IsOfTeam (n : Limits) (k m g h : ℕ) : Type 0 where
  pub team : g ≡ k
  pub below : h < m
  pub required : pair_of n g h ≡ Required

-- the required pairs of the first m teams with task j
pub record IsOfTask (n : Limits) (j m g h : ℕ) : Type 0 where
  pub task : h ≡ j
  pub below : g < m
  pub required : pair_of n g h ≡ Required

pub tell : (x : Pair) → (x ≡ Required) ⊎ ((x ≡ Required → ⊥) × (is_required x ≡ false))
tell Free = inr ((λ e. let f : Free ≡ Required = e in cc), refl)
tell Forbidden = inr ((λ e. let f : Forbidden ≡ Required = e in cc), refl)
tell Required = inl refl

module _ (n : Limits) (p : Prices) (v : ℤ) (is : ArePrices p) (shape : ArePricesOf n p) (k j : ℕ) (team : k < teams_in n) (task : j < tasks_in n) where
  pub team_set : is_required (pair_of n k j) ≡ true → ArePairs p v (IsOfTeam n k j) → ArePairs (with_rho p k j v) v (IsOfTeam n k (j + 1))
  team_set e are =
      pairs_set p k j v (IsOfTeam n k j) (IsOfTeam n k (j + 1)) is (let s = shape.teams in omega arith) (let s = shape.tasks in omega arith) are
      (record { team = refl; below = omega arith; required = required_is (pair_of n k j) e })
      (λ g h o. record { team = o.team; below = (let b = o.below in omega arith); required = o.required })
      (λ g h o. split g h o (cases_eq h j))
    where
      split : (g h : ℕ) → IsOfTeam n k (j + 1) g h → (h ≡ j) ⊎ (h ≡ j → ⊥) → IsOfTeam n k j g h ⊎ ((g ≡ k) × (h ≡ j))
      split g h o (inl f) = inr (o.team, f)
      split g h o (inr ne) = inl (record { team = o.team; below = (let b = o.below in omega arith); required = o.required })

  pub team_skip : is_required (pair_of n k j) ≡ false → ArePairs p v (IsOfTeam n k j) → ArePairs p v (IsOfTeam n k (j + 1))
  team_skip e are =
      pairs_same p v (IsOfTeam n k j) (IsOfTeam n k (j + 1)) are
      (λ g h o. record { team = o.team; below = (let b = o.below in omega arith); required = o.required })
      (λ g h o. by g h o (cases_eq h j))
    where
      by : (g h : ℕ) → IsOfTeam n k (j + 1) g h → (h ≡ j) ⊎ (h ≡ j → ⊥) → IsOfTeam n k j g h
      by g h o (inr ne) = record { team = o.team; below = (let b = o.below in omega arith); required = o.required }
      by g h o (inl f) =
          let same = sym (ap (λ i. pair_of n i h) o.team ∙ ap (pair_of n k) f) ∙ o.required in
          absurd (let c : false ≡ true = sym e ∙ ap is_required same in cc)

  pub task_set : is_required (pair_of n k j) ≡ true → ArePairs p v (IsOfTask n j k) → ArePairs (with_rho p k j v) v (IsOfTask n j (k + 1))
  task_set e are =
      pairs_set p k j v (IsOfTask n j k) (IsOfTask n j (k + 1)) is (let s = shape.teams in omega arith) (let s = shape.tasks in omega arith) are
      (record { task = refl; below = omega arith; required = required_is (pair_of n k j) e })
      (λ g h o. record { task = o.task; below = (let b = o.below in omega arith); required = o.required })
      (λ g h o. split g h o (cases_eq g k))
    where
      split : (g h : ℕ) → IsOfTask n j (k + 1) g h → (g ≡ k) ⊎ (g ≡ k → ⊥) → IsOfTask n j k g h ⊎ ((g ≡ k) × (h ≡ j))
      split g h o (inl f) = inr (f, o.task)
      split g h o (inr ne) = inl (record { task = o.task; below = (let b = o.below in omega arith); required = o.required })

  pub task_skip : is_required (pair_of n k j) ≡ false → ArePairs p v (IsOfTask n j k) → ArePairs p v (IsOfTask n j (k + 1))
  task_skip e are =
      pairs_same p v (IsOfTask n j k) (IsOfTask n j (k + 1)) are
      (λ g h o. record { task = o.task; below = (let b = o.below in omega arith); required = o.required })
      (λ g h o. by g h o (cases_eq g k))
    where
      by : (g h : ℕ) → IsOfTask n j (k + 1) g h → (g ≡ k) ⊎ (g ≡ k → ⊥) → IsOfTask n j k g h
      by g h o (inr ne) = record { task = o.task; below = (let b = o.below in omega arith); required = o.required }
      by g h o (inl f) =
          let same = sym (ap (λ i. pair_of n i h) f ∙ ap (pair_of n k) o.task) ∙ o.required in
          absurd (let c : false ≡ true = sym e ∙ ap is_required same in cc)

-- ---- all of them

pub stuck_priced : (n : Limits) (p : Prices) (k m : ℕ) → IsLimits n → tasks_in n ≤ m → ((j : ℕ) → pi_of p j ≡ pos 0) → ArePairs p (pos (all_cost n)) (IsOfTeam n k m) → StuckPrices n k p
stuck_priced n p k m is all tasks are = record { tasks = λ j l. tasks j; pairs = λ g h. by g h (tell (pair_of n g h)) (cases_eq g k) }
  where
    cost : ℤ
    cost = pos (all_cost n)

    by : (g h : ℕ) → (pair_of n g h ≡ Required) ⊎ ((pair_of n g h ≡ Required → ⊥) × (is_required (pair_of n g h) ≡ false)) → (g ≡ k) ⊎ (g ≡ k → ⊥)
        → rho_of p g h ≡ cond (is_required (pair_of n g h)) (cond (eqb g k) (pos (all_cost n)) (pos 0)) (pos 0)
    by g h (inl e) (inl f) =
        are.inside g h (record { team = f; below = (let l = known_task n is g h e in omega arith); required = e })
        ∙ sym (ap (λ b. cond b (cond (eqb g k) (pos (all_cost n)) (pos 0)) (pos 0)) (ap is_required e) ∙ ap (λ b. cond b (pos (all_cost n)) (pos 0)) (eq-eqb g k f))
    by g h (inl e) (inr ne) =
        are.outside g h (λ o. ne o.team)
        ∙ sym (ap (λ b. cond b (cond (eqb g k) (pos (all_cost n)) (pos 0)) (pos 0)) (ap is_required e) ∙ ap (λ b. cond b (pos (all_cost n)) (pos 0)) (ne_eqb g k ne))
    by g h (inr x) y =
        are.outside g h (λ o. x.0 o.required) ∙ sym (ap (λ b. cond b (cond (eqb g k) (pos (all_cost n)) (pos 0)) (pos 0)) x.1)

pub crowded_priced : (n : Limits) (p : Prices) (j m : ℕ) (task : ℕ → ℤ) → IsLimits n → teams_in n ≤ m → ((h : ℕ) → h < tasks_in n → pi_of p h ≡ task h) → ArePairs p (pos (all_cost n)) (IsOfTask n j m)
    → ArePricedBy n p task (λ g h. cond (eqb h j) (pos (all_cost n)) (pos 0))
crowded_priced n p j m task is all tasks are = record { tasks = tasks; pairs = λ g h. by g h (tell (pair_of n g h)) (cases_eq h j) }
  where
    by : (g h : ℕ) → (pair_of n g h ≡ Required) ⊎ ((pair_of n g h ≡ Required → ⊥) × (is_required (pair_of n g h) ≡ false)) → (h ≡ j) ⊎ (h ≡ j → ⊥)
        → rho_of p g h ≡ cond (is_required (pair_of n g h)) (cond (eqb h j) (pos (all_cost n)) (pos 0)) (pos 0)
    by g h (inl e) (inl f) =
        are.inside g h (record { task = f; below = (let l = known_team n is g h e in omega arith); required = e })
        ∙ sym (ap (λ b. cond b (cond (eqb h j) (pos (all_cost n)) (pos 0)) (pos 0)) (ap is_required e) ∙ ap (λ b. cond b (pos (all_cost n)) (pos 0)) (eq-eqb h j f))
    by g h (inl e) (inr ne) =
        are.outside g h (λ o. ne o.task)
        ∙ sym (ap (λ b. cond b (cond (eqb h j) (pos (all_cost n)) (pos 0)) (pos 0)) (ap is_required e) ∙ ap (λ b. cond b (pos (all_cost n)) (pos 0)) (ne_eqb h j ne))
    by g h (inr x) y =
        are.outside g h (λ o. x.0 o.required) ∙ sym (ap (λ b. cond b (cond (eqb h j) (pos (all_cost n)) (pos 0)) (pos 0)) x.1)

-- a price of a task is set in zeros
pub one_task : (n : Limits) (j : ℕ) (v : ℤ) → j < tasks_in n → (h : ℕ) → get_or (set (zero_prices n).pi j v) h (pos 0) ≡ cond (eqb h j) v (pos 0)
one_task n j v l h = by (cases_eq h j)
  where
    by : (h ≡ j) ⊎ (h ≡ j → ⊥) → get_or (set (zero_prices n).pi j v) h (pos 0) ≡ cond (eqb h j) v (pos 0)
    by (inl e) =
        ap (λ i. get_or (set (zero_prices n).pi j v) i (pos 0)) e ∙ get_or-set_same (zero_prices n).pi j v (pos 0) (let s = length-replicate (tasks_in n) (pos 0) in omega arith)
        ∙ sym (ap (λ b. cond b v (pos 0)) (eq-eqb h j e))
    by (inr ne) = get_or-set_other (zero_prices n).pi j h v (pos 0) ne ∙ zero_pi n h ∙ sym (ap (λ b. cond b v (pos 0)) (ne_eqb h j ne))
