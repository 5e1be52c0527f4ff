-- the bound of rounded prices, against the value of the rows
use Rattle.std.proofs.Common.{◌≡◌, ◌≢◌, ◌<◌, ◌∙◌, ◌⊎◌, ◌↔◌, inl, inr, ℕ, zero, suc, List, [], ◌∷◌, Bool, true, false, cond, refl, ap, sym, subst, arith}
use Rattle.std.specs.Prelude.{ℤ, pos, ◌+ℤ◌, ◌-ℤ◌, ◌*ℤ◌, ◌≤ℤ◌, ◌<ℤ◌, All, Contains, filter, int_lt}
use Rattle.std.specs.Int.{int_max}
use Rattle.std.proofs.Math.Dec.{eqb}
use Rattle.std.proofs.lemmas.Bool.{eq-eqb, eqb-true}
use Rattle.std.proofs.lemmas.Int.{by_lt_z, clamps, ints}
use Rattle.std.proofs.Math.IntN.{*ℤ-zero}
use Rattle.std.proofs.lemmas.List.{get_or_default}
use Rattle.std.proofs.lemmas.List.Elements.{All-head, All-tail, Contains-append_left, Contains-append_right}
use Rattle.crew_terms.specs.Leaf.{Prices, IsOnRequired, bound_of, pi_of, reward, rewards, rho_of, term, worth_of, earned}
use Rattle.crew_terms.specs.Limits.{GoesOn, IsRoute, Limits, Route, has_required, is_required, pair_of, tasks_in, teams_in}
use Rattle.crew_terms.specs.Total.{total}
use Rattle.crew_terms.specs.Totals.{total-plus, total-same}
use Rattle.crew_terms.specs.declared.Pair.{Pair}
use Rattle.crew_terms.specs.declared.Pair.TheVariants.{Free, Forbidden, Required}
use Rattle.crew_terms.specs.declared.TheConstants.{D}
use Rattle.crew_terms.specs.declared.Visit.{Visit}
use Rattle.search_terms.specs.declared.Place.{Place}
use Rattle.search_terms.specs.declared.Place.TheVariants.{Missed, Shortage, Value}
use Rattle.search_terms.specs.declared.TheConstants.{VALUE}
use Rattle.search_terms.specs.Duals.{AreDuals, AreUpToPenalty, best_reward, extras, term_over}
use Rattle.search_terms.specs.Earned.{AreRounded, BeatsRoutes, rounded}
use Rattle.search_terms.specs.Opening.{OpensWith, basics, openers, opens, places, teams_for}
use Rattle.search_terms.specs.Rows.{Rows, number, value_row}
use Rattle.share_terms.specs.Shares.{IsRouteIn}
use Rattle.master_laws.specs.Loss.{rounding_loss}
use Rattle.crew_num.specs.Ring.{scale_diff, scale_sum}
use Rattle.master_laws.specs.Rewards.{best_low}
use Rattle.master_laws.proofs.Rounding.{IsNear, near, term_near, times_low}

-- ---- the row of a place that opens one
filtered : (ps : List Place) (p : Place) → Contains ps p → opens p ≡ true → Contains (filter opens ps) p
filtered [] p c e = absurd (omega (arith, c.1))
filtered (q ∷ ps) p (zero, lt, is) e = by_test (opens q) (ap opens is ∙ e)
  where
    by_test : (b : Bool) → b ≡ true → Contains (cond b (q ∷ filter opens ps) (filter opens ps)) p
    by_test true t = (0, omega arith, is)
    by_test false t = absurd (cc)
filtered (q ∷ ps) p (suc k, lt, is) e = by_test (opens q) (filtered ps p (k, omega arith, is) e)
  where
    by_test : (b : Bool) → Contains (filter opens ps) p → Contains (cond b (q ∷ filter opens ps) (filter opens ps)) p
    by_test true c = Contains-append_right (q ∷ []) (filter opens ps) p c
    by_test false c = c

row_of : (n : Limits) (p : Place) → Contains (places n) p → opens p ≡ true → (h : ℕ) × OpensWith n h p
row_of n p has e =
    let c = Contains-append_left (basics (places n)) (Value ∷ []) p (filtered (places n) p has e) in
    (c.0, record { known = c.1; is = get_or_default (openers (places n)) c.0 Value p c.1 ∙ c.2 })

-- ---- prices that are rounded down, of tasks and of required pairs
pub record AreNear (n : Limits) (w : ℤ) (prices duals : Prices) : Type 0 where
  pub up : pos 0 <ℤ w
  pub tasks : (j : ℕ) → j < tasks_in n → IsNear w (pi_of prices j) (pi_of duals j)
  pub pairs : (k j : ℕ) → k < teams_in n → j < tasks_in n → pair_of n k j ≡ Required → IsNear w (rho_of prices k j) (rho_of duals k j)
  pub priced : IsOnRequired n prices
  pub unpriced : IsOnRequired n duals

pub are_near : ((n : Limits) (j : ℕ) → Contains (places n) (Shortage j) ↔ (j < tasks_in n))
    → ((n : Limits) (k j : ℕ) → Contains (places n) (Missed k j) ↔ ((k < teams_in n) × (j < tasks_in n) × (pair_of n k j ≡ Required)))
    → (n : Limits) (t : Rows) (prices duals : Prices) → pos 0 <ℤ number (value_row t) VALUE → AreRounded n t prices → AreDuals n (value_row t) duals
    → AreUpToPenalty n (value_row t) duals → AreNear n (number (value_row t) VALUE) prices duals
are_near of_tasks of_pairs n t prices duals up r d u =
    let w = number (value_row t) VALUE in
    record {
      up = up;
      tasks = λ j lt.
          let h = row_of n (Shortage j) ((of_tasks n j).1 lt) refl in
          let e = r.tasks h.0 j h.1 ∙ ap (λ z. rounded z w) (sym (d.tasks h.0 j h.1)) in
          subst (λ p. IsNear w p (pi_of duals j)) (sym e) (near w (pi_of duals j) up (u.tasks j lt));
      pairs = λ k j in_k in_j required.
          let h = row_of n (Missed k j) ((of_pairs n k j).1 (in_k, in_j, required)) refl in
          let e = r.pairs h.0 k j h.1 ∙ ap (λ z. rounded z w) (sym (d.pairs h.0 k j h.1)) in
          subst (λ p. IsNear w p (rho_of duals k j)) (sym e) (near w (rho_of duals k j) up (u.pairs k j in_k in_j));
      priced = r.priced;
      unpriced = d.priced;
    }

-- the extra of any pair
pair_low : (n : Limits) (w : ℤ) (p d : Prices) (k j : ℕ) → AreNear n w p d → k < teams_in n → j < tasks_in n → (w *ℤ rho_of p k j) ≤ℤ (pos D *ℤ rho_of d k j)
pair_low n w p d k j a in_k in_j = by_pair (pair_of n k j) refl
  where
    none : pair_of n k j ≢ Required → (w *ℤ rho_of p k j) ≤ℤ (pos D *ℤ rho_of d k j)
    none ne =
        let e = ap (λ z. w *ℤ z) (a.priced k j ne) ∙ *ℤ-zero w in
        let f = a.unpriced k j ne in
        omega (arith, ints)

    by_pair : (q : Pair) → pair_of n k j ≡ q → (w *ℤ rho_of p k j) ≤ℤ (pos D *ℤ rho_of d k j)
    by_pair Free e = none (λ f. let g : Free ≡ Required = sym e ∙ f in absurd (cc))
    by_pair Forbidden e = none (λ f. let g : Forbidden ≡ Required = sym e ∙ f in absurd (cc))
    by_pair Required e = (a.pairs k j in_k in_j e).low

pair_high : (n : Limits) (w : ℤ) (p d : Prices) (k j : ℕ) → AreNear n w p d → k < teams_in n → j < tasks_in n
    → (pos D *ℤ rho_of d k j) ≤ℤ (w *ℤ (rho_of p k j +ℤ cond (is_required (pair_of n k j)) (pos 1) (pos 0)))
pair_high n w p d k j a in_k in_j = by_pair (pair_of n k j) refl
  where
    none : pair_of n k j ≢ Required → (pos D *ℤ rho_of d k j) ≤ℤ (w *ℤ (rho_of p k j +ℤ pos 0))
    none ne =
        let s = scale_sum w (rho_of p k j) (pos 0) in
        let e = ap (λ z. w *ℤ z) (a.priced k j ne) ∙ *ℤ-zero w in
        let z = *ℤ-zero w in
        let f = a.unpriced k j ne in
        omega (arith, ints)

    by_pair : (q : Pair) → pair_of n k j ≡ q → (pos D *ℤ rho_of d k j) ≤ℤ (w *ℤ (rho_of p k j +ℤ cond (is_required q) (pos 1) (pos 0)))
    by_pair Free e = none (λ f. let g : Free ≡ Required = sym e ∙ f in absurd (cc))
    by_pair Forbidden e = none (λ f. let g : Forbidden ≡ Required = sym e ∙ f in absurd (cc))
    by_pair Required e =
        let h = (a.pairs k j in_k in_j e).high in
        let s = scale_sum w (rho_of p k j) (pos 1) in
        let u : w *ℤ pos 1 ≡ w = omega (arith, ints) in
        omega (arith, ints)

-- ---- the rewards of routes
abbrev Known : Limits → List Visit → Type 0
Known n [] = Unit {0}
Known n (v ∷ vs) = (v.task < tasks_in n) × Known n vs

goes_known : (n : Limits) (k : ℕ) (v : Visit) (vs : List Visit) → GoesOn n k v vs → Known n vs
goes_known n k v [] g = tt
goes_known n k v (w ∷ ws) g = (g.1.known, goes_known n k w ws g.2)

route_known : (n : Limits) (k : ℕ) (vs : List Visit) → IsRoute n k vs → Known n vs
route_known n k [] r = tt
route_known n k (v ∷ vs) r = (r.0.known, goes_known n k v vs r.1)

rewards_low : (n : Limits) (w : ℤ) (p d : Prices) (k : ℕ) (vs : List Visit) → AreNear n w p d → k < teams_in n → Known n vs → (w *ℤ rewards (earned p k) vs) ≤ℤ (pos D *ℤ rewards (earned d k) vs)
rewards_low n w p d k [] a in_k i = let z = *ℤ-zero w in omega (arith, ints)
rewards_low n w p d k (v ∷ vs) a in_k i =
    let again = rewards_low n w p d k vs a in_k i.1 in
    let t = (a.tasks v.task i.0).low in
    let q = pair_low n w p d k v.task a in_k i.0 in
    let s = scale_sum w (pi_of p v.task) (rho_of p k v.task) in
    let u = scale_sum w (reward p k v.task) (rewards (earned p k) vs) in
    omega (arith, ints)

best_near : (n : Limits) (w : ℤ) (p d : Prices) (k : ℕ) (rs : List Route) → AreNear n w p d → k < teams_in n → All (IsRouteIn n) rs
    → (w *ℤ best_reward p rs k) ≤ℤ (pos D *ℤ best_reward d rs k)
best_near n w p d k [] a in_k legal = let z = *ℤ-zero w in omega (arith, ints)
best_near n w p d k (r ∷ rs) a in_k legal = by_test (eqb k r.team) refl (best_near n w p d k rs a in_k (All-tail (IsRouteIn n) r rs legal))
  where
    l : pos 0 ≤ℤ w
    l = let up = a.up in omega (arith, ints)

    by_max : (x y : ℤ) → ((int_max x y ≡ x) ⊎ (int_max x y ≡ y)) → (u v : ℤ) → (w *ℤ x) ≤ℤ (pos D *ℤ u) → (w *ℤ y) ≤ℤ (pos D *ℤ v) → (w *ℤ int_max x y) ≤ℤ (pos D *ℤ int_max u v)
    by_max x y (inl e) u v h k = let f = ap (λ z. w *ℤ z) e in let g : u ≤ℤ int_max u v = omega (arith, ints, clamps) in omega (arith, ints)
    by_max x y (inr e) u v h k = let f = ap (λ z. w *ℤ z) e in let g : v ≤ℤ int_max u v = omega (arith, ints, clamps) in omega (arith, ints)

    which : (x y : ℤ) → (int_max x y ≡ x) ⊎ (int_max x y ≡ y)
    which x y = by_lt (int_lt y x)
      where
        by_lt : (t : Bool) → (cond t x y ≡ x) ⊎ (cond t x y ≡ y)
        by_lt true = inl refl
        by_lt false = inr refl

    by_test : (b : Bool) → eqb k r.team ≡ b → (w *ℤ best_reward p rs k) ≤ℤ (pos D *ℤ best_reward d rs k)
        → (w *ℤ cond b (int_max (rewards (earned p k) r.visits) (best_reward p rs k)) (best_reward p rs k)) ≤ℤ (pos D *ℤ cond b (int_max (rewards (earned d k) r.visits) (best_reward d rs k)) (best_reward d rs k))
    by_test true e again =
        let is = All-head (IsRouteIn n) r rs legal in
        let route = subst (λ i. IsRoute n i r.visits) (sym (eqb-true k r.team e)) is.route in
        by_max (rewards (earned p k) r.visits) (best_reward p rs k) (which (rewards (earned p k) r.visits) (best_reward p rs k)) (rewards (earned d k) r.visits) (best_reward d rs k)
        (rewards_low n w p d k r.visits a in_k (route_known n k r.visits route)) again
    by_test false e again = again

held_low : (p : Prices) (rs : List Route) (k : ℕ) (r : Route) → Contains rs r → r.team ≡ k → rewards (earned p k) r.visits ≤ℤ best_reward p rs k
held_low p [] k r c e = absurd (omega (arith, c.1))
held_low p (q ∷ rs) k r (zero, lt, is) e =
    let t = eq-eqb k q.team (sym e ∙ sym (ap (λ (x : Route). x.team) is)) in
    let a = ap (λ (x : Route). rewards (earned p k) x.visits) is in
    let b = ap (λ u. cond u (int_max (rewards (earned p k) q.visits) (best_reward p rs k)) (best_reward p rs k)) t in
    let m : rewards (earned p k) q.visits ≤ℤ int_max (rewards (earned p k) q.visits) (best_reward p rs k) = max_left (rewards (earned p k) q.visits) (best_reward p rs k) in
    omega (arith, ints)
  where
    max_left : (a b : ℤ) → a ≤ℤ int_max a b
    max_left a b = omega (arith, ints, clamps)
held_low p (q ∷ rs) k r (suc i, lt, is) e = by_test (eqb k q.team) (held_low p rs k r (i, omega arith, is) e)
  where
    max_right : (a b c : ℤ) → c ≤ℤ b → c ≤ℤ int_max a b
    max_right a b c h = omega (arith, ints, clamps)

    by_test : (b : Bool) → rewards (earned p k) r.visits ≤ℤ best_reward p rs k → rewards (earned p k) r.visits ≤ℤ cond b (int_max (rewards (earned p k) q.visits) (best_reward p rs k)) (best_reward p rs k)
    by_test true h = max_right (rewards (earned p k) q.visits) (best_reward p rs k) (rewards (earned p k) r.visits) h
    by_test false h = h

-- a worth that doesn't beat the routes is at most their best reward
worth_low : (p : Prices) (rs : List Route) (k : ℕ) (worth : ℤ) → (BeatsRoutes rs k p worth → ⊥) → worth ≤ℤ best_reward p rs k
worth_low p rs k worth unbeaten = by_lt_z (best_reward p rs k) worth
    (λ less.
    let low = best_low p rs k in
    absurd (unbeaten (record {
      some = omega (arith, ints);
      more = λ r has e. let h = held_low p rs k r has e in omega (arith, ints);
    })))
    (λ h. h)

-- ---- sums
sum_le : (n : ℕ) (f g : ℕ → ℤ) (c e : ℤ) → ((i : ℕ) → i < n → (c *ℤ f i) ≤ℤ (e *ℤ g i)) → (c *ℤ total n f) ≤ℤ (e *ℤ total n g)
sum_le zero f g c e h = let a = *ℤ-zero c in let b = *ℤ-zero e in omega (arith, ints)
sum_le (suc n) f g c e h =
    let again = sum_le n f g c e (λ i lt. h i (omega arith)) in
    let last = h n (omega arith) in
    let a = scale_sum c (total n f) (f n) in
    let b = scale_sum e (total n g) (g n) in
    omega (arith, ints)

terms_near : (n : Limits) (w : ℤ) (p d : Prices) → AreNear n w p d
    → (pos D *ℤ total (tasks_in n) (term_over n w d)) ≤ℤ (w *ℤ total (tasks_in n) (λ j. term n p j +ℤ pos (teams_for n j)))
terms_near n w p d a = sum_le (tasks_in n) (term_over n w d) (λ j. term n p j +ℤ pos (teams_for n j)) (pos D) w (λ j lt.
    let h = term_near (has_required n j) (teams_for n j) w (pi_of p j) (pi_of d j) a.up (a.tasks j lt) in
    let s = scale_sum w (term n p j) (pos (teams_for n j)) in
    omega (arith, ints))

abbrev unit_at : Limits → ℕ → ℕ → ℤ
unit_at n k j = cond (is_required (pair_of n k j)) (pos 1) (pos 0)

extras_near : (n : Limits) (w : ℤ) (p d : Prices) → AreNear n w p d
    → (pos D *ℤ extras n d) ≤ℤ (w *ℤ total (teams_in n) (λ k. total (tasks_in n) (λ j. rho_of p k j +ℤ unit_at n k j)))
extras_near n w p d a = sum_le (teams_in n) (λ k. total (tasks_in n) (λ j. rho_of d k j)) (λ k. total (tasks_in n) (λ j. rho_of p k j +ℤ unit_at n k j)) (pos D) w
    (λ k in_k. sum_le (tasks_in n) (λ j. rho_of d k j) (λ j. rho_of p k j +ℤ unit_at n k j) (pos D) w (λ j in_j. pair_high n w p d k j a in_k in_j))

worths_near : (n : Limits) (w : ℤ) (p d : Prices) (routes : List Route) (worths : List ℤ) → AreNear n w p d → All (IsRouteIn n) routes
    → ((k : ℕ) → k < teams_in n → BeatsRoutes routes k p (worth_of worths k) → ⊥)
    → (w *ℤ total (teams_in n) (worth_of worths)) ≤ℤ (pos D *ℤ total (teams_in n) (best_reward d routes))
worths_near n w p d routes worths a legal unbeaten = sum_le (teams_in n) (worth_of worths) (best_reward d routes) w (pos D) (λ k lt.
    let h = worth_low p routes k (worth_of worths k) (unbeaten k lt) in
    let l : pos 0 ≤ℤ w = let up = a.up in omega (arith, ints) in
    let m = times_low w (worth_of worths k) (best_reward p routes k) l h in
    let b = best_near n w p d k routes a lt legal in
    omega (arith, ints))

pub loses_little : (n : Limits) (w value : ℤ) (p d : Prices) (routes : List Route) (worths : List ℤ) → AreNear n w p d → All (IsRouteIn n) routes
    → ((k : ℕ) → k < teams_in n → BeatsRoutes routes k p (worth_of worths k) → ⊥)
    → value ≡ (total (tasks_in n) (term_over n w d) +ℤ extras n d) -ℤ total (teams_in n) (best_reward d routes)
    → (pos D *ℤ value) ≤ℤ (w *ℤ (bound_of n p worths +ℤ rounding_loss n))
loses_little n w value p d routes worths a legal unbeaten is =
    let terms = total (tasks_in n) (term n p) in
    let teams = total (tasks_in n) (λ j. pos (teams_for n j)) in
    let pairs = total (teams_in n) (λ k. total (tasks_in n) (λ j. rho_of p k j)) in
    let units = total (teams_in n) (λ k. total (tasks_in n) (unit_at n k)) in
    let costs = total (teams_in n) (worth_of worths) in
    let t = terms_near n w p d a in
    let x = extras_near n w p d a in
    let b = worths_near n w p d routes worths a legal unbeaten in
    let tp = total-plus (tasks_in n) (term n p) (λ j. pos (teams_for n j)) in
    let xp = total-same (teams_in n) (λ k. total (tasks_in n) (λ j. rho_of p k j +ℤ unit_at n k j)) (λ k. total (tasks_in n) (λ j. rho_of p k j) +ℤ total (tasks_in n) (unit_at n k))
    (λ k _. total-plus (tasks_in n) (λ j. rho_of p k j) (unit_at n k))
    ∙ total-plus (teams_in n) (λ k. total (tasks_in n) (λ j. rho_of p k j)) (λ k. total (tasks_in n) (unit_at n k)) in
    let e1 = ap (λ z. w *ℤ z) tp ∙ scale_sum w terms teams in
    let e2 = ap (λ z. w *ℤ z) xp ∙ scale_sum w pairs units in
    let v = ap (λ z. pos D *ℤ z) is in
    let v1 = scale_diff (pos D) (total (tasks_in n) (term_over n w d) +ℤ extras n d) (total (teams_in n) (best_reward d routes)) in
    let v2 = scale_sum (pos D) (total (tasks_in n) (term_over n w d)) (extras n d) in
    let r1 = scale_sum w ((terms +ℤ pairs) -ℤ costs) (teams +ℤ units) in
    let r2 = scale_diff w (terms +ℤ pairs) costs in
    let r3 = scale_sum w terms pairs in
    let r4 = scale_sum w teams units in
    omega (arith, ints)
