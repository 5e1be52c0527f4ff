-- at an optimum each team's worth is the greater of 0 and the best reward among its routes
use Rattle.std.proofs.Common.{◌≡◌, ◌≢◌, ◌≤◌, ◌<◌, ◌+◌, ◌∙◌, ℕ, suc, zero, List, [], ◌∷◌, length, get_or, refl, ap, sym, arith, Bool, true, false, cond, ◌⊎◌, inl, inr}
use Rattle.std.specs.Prelude.{ℤ, pos, ◌+ℤ◌, ◌-ℤ◌, ◌*ℤ◌, ◌≤ℤ◌, ◌<ℤ◌}
use Rattle.std.specs.Int.{int_min, int_max}
use Rattle.std.proofs.Math.Dec.{eqb}
use Rattle.std.proofs.lemmas.Bool.Decides.{eqb_tells}
use Rattle.std.proofs.lemmas.Int.{ints, clamps, by_lt_z}
use Rattle.std.proofs.lemmas.List.Sums.{sum_by-cons}
use Rattle.std.proofs.Math.IntN.{*ℤ_comm, *ℤ-zero, zero-*ℤ}
use Rattle.crew_terms.specs.Limits.{Limits, tasks_in, teams_in, pair_of, is_required, has_required, IsRoute, GoesOn, Route}
use Rattle.crew_terms.specs.Leaf.{Prices, pi_of, rho_of, worth_of, reward, rewards, task_price, earned}
use Rattle.crew_terms.specs.Total.{total}
use Rattle.crew_terms.specs.declared.Pair.{Pair}
use Rattle.crew_terms.specs.declared.Pair.TheVariants.{Free, Forbidden, Required}
use Rattle.crew_terms.specs.declared.Visit.{Visit}
use Rattle.search_terms.specs.declared.Place.TheVariants.{Unused}
use Rattle.search_terms.specs.Rows.{Row, Rows, number, last, value_row}
use Rattle.search_terms.specs.Opening.{places, visit_number, one_if}
use Rattle.search_terms.specs.Duals.{AreDuals, best_reward, term_over, extras}
use Rattle.share_terms.specs.Shares.{IsRouteIn, visits_to}
use Rattle.crew_num.specs.Ring.{scale_sum}
use Rattle.crew_terms.specs.Totals.{total-same, total-zero, total-one, total-plus}
use Rattle.crew_terms.specs.Greater.{max_left, max_right}
use Rattle.master_laws.proofs.Apart.{not_same, same}
use Rattle.master_laws.proofs.Duals.{no_route}
use Rattle.master_laws.proofs.ByKind.{at_required}
use Rattle.master_laws.proofs.Optimum.{Optimum, said, by_prices, cond_zero, times_zero, times_one, worth_low, unused_number, price_free, value_by_prices}
use Rattle.master_laws.proofs.Basic.{IsBasicSolution}
use Rattle.master_laws.proofs.Stands.{opens_row, unused_stands}
use Rattle.master_laws.proofs.Known.{amount-none}
use Rattle.master_laws.proofs.Summed.{IsSummed}
use Rattle.master_laws.proofs.Amounts.{team_sum, unused_at, picks_unused}
use Rattle.search_terms.specs.declared.TheConstants.{RIGHT, VALUE}
use Rattle.master_laws.specs.Rewards.{best_low}

-- a variable of positive reduced cost is 0
pub slack : (n : Limits) (routes : List Route) (t : Rows) (p : Prices) (ws : List ℤ) (whole : ℤ) (x : ℕ → ℤ) (j : ℕ) → Optimum n routes t p ws → IsBasicSolution t whole x
    → VALUE < j → number (value_row t) j <ℤ pos 0 → x j ≡ pos 0
slack n routes t p ws whole x j o s above negative = s.idle j above (λ h lt e.
    let end : last t < length t.rows = omega (arith, o.basic.some) in
    let in_h : h < length t.rows = omega arith in
    let ne : h ≢ last t = omega arith in
    let z = o.basic.alone h (last t) in_h end ne in
    let f = ap (number (value_row t)) e in
    absurd (omega (arith, ints)))

-- ---- the rewards of a route, by tasks
abbrev Inside : Limits → List Visit → Type 0
Inside n [] = Unit {0}
Inside n (v ∷ vs) = (v.task < tasks_in n) × Inside n vs

goes_inside : (n : Limits) (k : ℕ) (v : Visit) (vs : List Visit) → GoesOn n k v vs → Inside n vs
goes_inside n k v [] g = tt
goes_inside n k v (w ∷ ws) g = (g.1.known, goes_inside n k w ws g.2)

route_inside : (n : Limits) (k : ℕ) (vs : List Visit) → IsRoute n k vs → Inside n vs
route_inside n k [] r = tt
route_inside n k (v ∷ vs) r = (r.0.known, goes_inside n k v vs r.1)

rewards_by_task : (n : Limits) (p : Prices) (k : ℕ) (vs : List Visit) → Inside n vs → rewards (earned p k) vs ≡ total (tasks_in n) (λ j. reward p k j *ℤ pos (visits_to j vs))
rewards_by_task n p k [] i = sym (total-zero (tasks_in n) (λ j. reward p k j *ℤ pos 0) (λ j _. *ℤ-zero (reward p k j)))
rewards_by_task n p k (v ∷ vs) i =
    let one : ℕ → ℕ = λ j. cond (eqb v.task j) 1 0 in
    let a = rewards_by_task n p k vs i.1 in
    let b = total-same (tasks_in n) (λ j. reward p k j *ℤ pos (visits_to j (v ∷ vs))) (λ j. (reward p k j *ℤ pos (one j)) +ℤ (reward p k j *ℤ pos (visits_to j vs)))
    (λ j _. ap (λ z. reward p k j *ℤ pos z) (sum_by-cons (λ (w : Visit). cond (eqb w.task j) 1 0) v vs) ∙ scale_sum (reward p k j) (pos (one j)) (pos (visits_to j vs))) in
    let c = total-plus (tasks_in n) (λ j. reward p k j *ℤ pos (one j)) (λ j. reward p k j *ℤ pos (visits_to j vs)) in
    let d = total-one (tasks_in n) (λ j. reward p k j *ℤ pos (one j)) v.task i.0
    (λ j _ ne. times_zero (reward p k j) (pos (one j)) (ap (λ t. pos (cond t 1 0)) (not_same v.task j (λ q. ne (sym q))))) in
    let e = ap (λ t. reward p k v.task *ℤ pos (cond t 1 0)) (same v.task) ∙ times_one (reward p k v.task) in
    omega (arith, ints)

required_times : (n : Limits) (value : Row) (p : Prices) (k j : ℕ) (z : ℤ) → AreDuals n value p → cond (is_required (pair_of n k j)) (rho_of p k j *ℤ z) (pos 0) ≡ rho_of p k j *ℤ z
required_times n value p k j z d = by_pair (pair_of n k j) refl
  where
    by_pair : (q : Pair) → pair_of n k j ≡ q → cond (is_required q) (rho_of p k j *ℤ z) (pos 0) ≡ rho_of p k j *ℤ z
    by_pair Free e = sym (ap (λ y. y *ℤ z) (d.priced k j (λ f. let g : Free ≡ Required = sym e ∙ f in absurd (cc))) ∙ zero-*ℤ z)
    by_pair Forbidden e = sym (ap (λ y. y *ℤ z) (d.priced k j (λ f. let g : Forbidden ≡ Required = sym e ∙ f in absurd (cc))) ∙ zero-*ℤ z)
    by_pair Required e = refl

-- the number of a route in the value's row: its rewards, less its team's worth
pub route_by_prices : (n : Limits) (value : Row) (p : Prices) (ws : List ℤ) (r : Route) → AreDuals n value p → IsRouteIn n r
    → by_prices n p ws (visit_number r) ≡ rewards (earned p r.team) r.visits -ℤ worth_of ws r.team
route_by_prices n value p ws r d legal =
    let k = r.team in
    let v : ℕ → ℤ = λ j. pos (visits_to j r.visits) in
    let a = total-one (teams_in n) (λ h. (pos 0 -ℤ worth_of ws h) *ℤ one_if (eqb h k)) k legal.team
    (λ h _ ne. times_zero (pos 0 -ℤ worth_of ws h) (one_if (eqb h k)) (ap one_if (not_same h k ne))) in
    let b = ap (λ t. (pos 0 -ℤ worth_of ws k) *ℤ one_if t) (same k) ∙ times_one (pos 0 -ℤ worth_of ws k) in
    let c = total-same (tasks_in n) (at_required n (λ b. said p ws b *ℤ visit_number r b)) (λ j. rho_of p k j *ℤ v j) (λ j _.
    total-one (teams_in n) (λ h. cond (is_required (pair_of n h j)) (rho_of p h j *ℤ cond (eqb h k) (v j) (pos 0)) (pos 0)) k legal.team
    (λ h _ ne. cond_zero (is_required (pair_of n h j)) (rho_of p h j *ℤ cond (eqb h k) (v j) (pos 0)) (times_zero (rho_of p h j) (cond (eqb h k) (v j) (pos 0)) (ap (λ t. cond t (v j) (pos 0)) (not_same h k ne))))
    ∙ ap (λ t. cond (is_required (pair_of n k j)) (rho_of p k j *ℤ cond t (v j) (pos 0)) (pos 0)) (same k)
    ∙ required_times n value p k j (v j) d) in
    let e = total-plus (tasks_in n) (λ j. pi_of p j *ℤ v j) (λ j. rho_of p k j *ℤ v j) in
    let f = total-same (tasks_in n) (λ j. reward p k j *ℤ v j) (λ j. (pi_of p j *ℤ v j) +ℤ (rho_of p k j *ℤ v j)) (λ j _. plus_times (pi_of p j) (rho_of p k j) (v j)) in
    let g = rewards_by_task n p k r.visits (route_inside n k r.visits legal.route) in
    omega (arith, ints)
  where
    plus_times : (a b x : ℤ) → (a +ℤ b) *ℤ x ≡ (a *ℤ x) +ℤ (b *ℤ x)
    plus_times a b x =
        let d = scale_sum x a b in
        let e = *ℤ_comm (a +ℤ b) x in
        let f = *ℤ_comm a x in
        let g = *ℤ_comm b x in
        omega (arith, ints)

abbrev pub AllLegal : Limits → List Route → Type 0
AllLegal n routes = (i : ℕ) → i < length routes → IsRouteIn n (get_or routes i no_route)

-- ---- the best reward

int_max_most : (a b w : ℤ) → a ≤ℤ w → b ≤ℤ w → int_max a b ≤ℤ w
int_max_most a b w p q = omega (arith, ints, clamps)

best_has : (p : Prices) (rs : List Route) (k i : ℕ) → i < length rs → (get_or rs i no_route).team ≡ k → rewards (earned p k) (get_or rs i no_route).visits ≤ℤ best_reward p rs k
best_has p [] k i lt e = absurd (omega arith)
best_has p (r ∷ rs) k zero lt e = by_test (eqb_tells k r.team)
  where
    by_test : ((eqb k r.team ≡ true) × (k ≡ r.team)) ⊎ ((eqb k r.team ≡ false) × (k ≢ r.team))
        → rewards (earned p k) r.visits ≤ℤ cond (eqb k r.team) (int_max (rewards (earned p k) r.visits) (best_reward p rs k)) (best_reward p rs k)
    by_test (inl q) = rw q.0 (max_left (rewards (earned p k) r.visits) (best_reward p rs k))
    by_test (inr q) = absurd (q.1 (sym e))
best_has p (r ∷ rs) k (suc i) lt e = by_test (eqb k r.team) (best_has p rs k i (omega arith) e)
  where
    by_test : (t : Bool) → rewards (earned p k) (get_or rs i no_route).visits ≤ℤ best_reward p rs k
        → rewards (earned p k) (get_or rs i no_route).visits ≤ℤ cond t (int_max (rewards (earned p k) r.visits) (best_reward p rs k)) (best_reward p rs k)
    by_test true h = let e = max_right (rewards (earned p k) r.visits) (best_reward p rs k) in omega (arith, ints)
    by_test false h = h

best_most : (p : Prices) (rs : List Route) (k : ℕ) (w : ℤ) → pos 0 ≤ℤ w → ((i : ℕ) → i < length rs → (get_or rs i no_route).team ≡ k → rewards (earned p k) (get_or rs i no_route).visits ≤ℤ w) → best_reward p rs k ≤ℤ w
best_most p [] k w low h = low
best_most p (r ∷ rs) k w low h = by_test (eqb_tells k r.team) (best_most p rs k w low (λ i lt e. h (suc i) (omega arith) e))
  where
    by_test : ((eqb k r.team ≡ true) × (k ≡ r.team)) ⊎ ((eqb k r.team ≡ false) × (k ≢ r.team)) → best_reward p rs k ≤ℤ w
        → cond (eqb k r.team) (int_max (rewards (earned p k) r.visits) (best_reward p rs k)) (best_reward p rs k) ≤ℤ w
    by_test (inl q) rest = rw q.0 (int_max_most (rewards (earned p k) r.visits) (best_reward p rs k) w (h 0 (omega arith) (sym q.1)) rest)
    by_test (inr q) rest = rw q.0 rest

-- ---- the worth of a team is the best of its routes
pub route_low : (n : Limits) (routes : List Route) (t : Rows) (p : Prices) (ws : List ℤ) (i : ℕ) → Optimum n routes t p ws → AreDuals n (value_row t) p → IsRouteIn n (get_or routes i no_route) → i < length routes
    → number (value_row t) (length (places n) + i) ≡ rewards (earned p (get_or routes i no_route).team) (get_or routes i no_route).visits -ℤ worth_of ws (get_or routes i no_route).team
route_low n routes t p ws i o d legal lt = o.entries i lt ∙ route_by_prices n (value_row t) p ws (get_or routes i no_route) d legal

worth_least : (n : Limits) (routes : List Route) (t : Rows) (p : Prices) (ws : List ℤ) (k : ℕ) → Optimum n routes t p ws → AreDuals n (value_row t) p → AllLegal n routes → k < teams_in n
    → best_reward p routes k ≤ℤ worth_of ws k
worth_least n routes t p ws k o d legal lt =
    best_most p routes k (worth_of ws k) (worth_low n routes t p ws k o lt) (λ i in_i e.
    let two : 2 ≤ length (places n) = omega arith in
    let f = route_low n routes t p ws i o d (legal i in_i) in_i in
    let g = o.low (length (places n) + i) (omega arith) (omega arith) in
    let h = ap (λ q. rewards (earned p q) (get_or routes i no_route).visits) e in
    let w = ap (worth_of ws) e in
    omega (arith, ints))

worth_most : (n : Limits) (routes : List Route) (t : Rows) (p : Prices) (ws : List ℤ) (whole : ℤ) (x : ℕ → ℤ) (k : ℕ) → Optimum n routes t p ws → AreDuals n (value_row t) p → AllLegal n routes
    → IsSummed n routes t → IsBasicSolution t whole x → k < teams_in n → worth_of ws k ≤ℤ best_reward p routes k
worth_most n routes t p ws whole x k o d legal summed s lt = by_lt_z (best_reward p routes k) (worth_of ws k)
    (λ less.
    let low = best_low p routes k in
    let row = opens_row n (Unused k) (unused_stands n k lt) refl in
    let e = team_sum n routes t x whole k summed s.solves s.right row in
    let a = amount-none n x (unused_at k) (Unused k) (picks_unused k) (λ at.
    let f = unused_number n routes t p ws k o lt at in
    slack n routes t p ws whole x at.at o s at.variable (omega (arith, ints))) in
    let b = total-zero (length routes) (λ i. one_if (eqb k (get_or routes i no_route).team) *ℤ x (length (places n) + i)) (λ i in_i. none i in_i less (eqb_tells k (get_or routes i no_route).team)) in
    let up = s.up in
    absurd (omega (arith, ints)))
    (λ le. le)
  where
    none : (i : ℕ) → i < length routes → best_reward p routes k <ℤ worth_of ws k
        → ((eqb k (get_or routes i no_route).team ≡ true) × (k ≡ (get_or routes i no_route).team)) ⊎ ((eqb k (get_or routes i no_route).team ≡ false) × (k ≢ (get_or routes i no_route).team))
        → one_if (eqb k (get_or routes i no_route).team) *ℤ x (length (places n) + i) ≡ pos 0
    none i in_i less (inl q) =
        let two : 2 ≤ length (places n) = omega arith in
        let f = route_low n routes t p ws i o d (legal i in_i) in_i in
        let g = best_has p routes k i in_i (sym q.1) in
        let h = ap (λ c. rewards (earned p c) (get_or routes i no_route).visits) q.1 in
        let w = ap (worth_of ws) q.1 in
        let z = slack n routes t p ws whole x (length (places n) + i) o s (omega arith) (omega (arith, ints)) in
        times_zero (one_if (eqb k (get_or routes i no_route).team)) (x (length (places n) + i)) z
    none i in_i less (inr q) = ap (λ b. one_if b *ℤ x (length (places n) + i)) q.0 ∙ zero-*ℤ (x (length (places n) + i))

pub worth_is_best : (n : Limits) (routes : List Route) (t : Rows) (p : Prices) (ws : List ℤ) (whole : ℤ) (x : ℕ → ℤ) (k : ℕ) → Optimum n routes t p ws → AreDuals n (value_row t) p → AllLegal n routes
    → IsSummed n routes t → IsBasicSolution t whole x → k < teams_in n → worth_of ws k ≡ best_reward p routes k
worth_is_best n routes t p ws whole x k o d legal summed s lt =
    let a = worth_least n routes t p ws k o d legal lt in
    let b = worth_most n routes t p ws whole x k o d legal summed s lt in
    omega (arith, ints)

-- ---- the terms
int_min_right : (a b : ℤ) → b ≤ℤ a → int_min a b ≡ b
int_min_right a b h = omega (arith, ints, clamps)

term_is : (n : Limits) (routes : List Route) (t : Rows) (p : Prices) (ws : List ℤ) (j : ℕ) → Optimum n routes t p ws → j < tasks_in n → term_over n (number (value_row t) VALUE) p j ≡ task_price n p j
term_is n routes t p ws j o lt = by_test (has_required n j) refl
  where
    by_test : (b : Bool) → has_required n j ≡ b → cond b (task_price n p j) (int_min (number (value_row t) VALUE) (task_price n p j)) ≡ task_price n p j
    by_test true e = refl
    by_test false e = int_min_right (number (value_row t) VALUE) (task_price n p j) (price_free n routes t p ws j o lt e)

-- the value: terms and extras, less for each team the best reward among its routes
pub value_by_duals : (n : Limits) (routes : List Route) (t : Rows) (p : Prices) (ws : List ℤ) (whole : ℤ) (x : ℕ → ℤ) → Optimum n routes t p ws → AreDuals n (value_row t) p → AllLegal n routes
    → IsSummed n routes t → IsBasicSolution t whole x
    → number (value_row t) RIGHT ≡ (total (tasks_in n) (term_over n (number (value_row t) VALUE) p) +ℤ extras n p) -ℤ total (teams_in n) (best_reward p routes)
value_by_duals n routes t p ws whole x o d legal summed s =
    let a = value_by_prices n routes t p ws o d in
    let b = total-same (tasks_in n) (term_over n (number (value_row t) VALUE) p) (task_price n p) (λ j lt. term_is n routes t p ws j o lt) in
    let c = total-same (teams_in n) (worth_of ws) (best_reward p routes) (λ k lt. worth_is_best n routes t p ws whole x k o d legal summed s lt) in
    omega (arith, ints)
