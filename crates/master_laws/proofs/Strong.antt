-- the choice of an optimum, and its value
use Rattle.std.proofs.Common.{◌≡◌, ◌≤◌, ◌<◌, ◌+◌, ◌-◌, ◌*◌, ◌&&◌, ◌∙◌, ℕ, suc, zero, List, [], ◌∷◌, length, get_or, refl, ap, sym, arith, Bool, true, false, cond, map, ◌⊎◌, inl, inr}
use Rattle.std.specs.Prelude.{ℤ, pos, negsuc, ◌+ℤ◌, ◌-ℤ◌, ◌*ℤ◌, ◌≤ℤ◌, ◌<ℤ◌, All}
use Rattle.std.proofs.Math.Dec.{eqb}
use Rattle.std.proofs.lemmas.Bool.{cases_lt}
use Rattle.std.proofs.lemmas.Int.{ints, by_lt_z}
use Rattle.std.proofs.lemmas.List.{get_or_past}
use Rattle.std.proofs.lemmas.List.FromFn.{length-map-range_with_len, get_or-map-range_with_len}
use Rattle.std.proofs.Math.IntN.{*ℤ_comm, *ℤ-zero, zero-*ℤ}
use Rattle.crew_terms.specs.Limits.{Limits, tasks_in, teams_in, pair_of, is_required, has_required, Route}
use Rattle.crew_terms.specs.Leaf.{Prices, pi_of, rho_of, task_price}
use Rattle.crew_terms.specs.Total.{total}
use Rattle.search_terms.specs.declared.Place.{Place}
use Rattle.search_terms.specs.declared.Place.TheVariants.{Unused, Unassigned, Shortage, Excess, Missed, Repeated}
use Rattle.search_terms.specs.Rows.{Rows, number, last, value_row}
use Rattle.search_terms.specs.Opening.{places, one_if, teams_for}
use Rattle.share_terms.specs.Shares.{Share, FractionalChoice, IsRouteIn, IsFractional, choice_value, shares_of, parts_of, weighed_visits, distance, task_gap, pair_gap, unassigned_of, visits_to}
use Rattle.crew_num.specs.Ring.{assoc, swap, scale_sum, scale_diff, positive, not_negative, times_up_to, cancel_up_to, cancel_positive, sum_times, difference_times}
use Rattle.crew_terms.specs.Totals.{total-same}
use Rattle.master_laws.proofs.Totals.{total-scale}
use Rattle.master_laws.proofs.Bounded.{total-not_negative}
use Rattle.master_laws.proofs.Costs.{IsCosted}
use Rattle.master_laws.proofs.Duals.{no_route}
use Rattle.master_laws.proofs.Optimum.{Optimum, unassigned_number, shortage_number, excess_number, missed_number, repeated_number}
use Rattle.master_laws.proofs.Basic.{IsBasicSolution}
use Rattle.master_laws.proofs.Stands.{Stands, opens_row, unused_stands, shortage_stands, missed_stands}
use Rattle.master_laws.proofs.Known.{stands_known, amount, amount-none, amount-low, Picks}
use Rattle.master_laws.proofs.Summed.{IsSummed}
use Rattle.master_laws.proofs.Amounts.{taken, unused_at, open_at, short_at, over_at, miss_at, again_at, picks_unused, picks_open, picks_short, picks_over, picks_miss, picks_again, team_sum, task_sum, pair_sum, value_sum, off_task, off_pair}
use Rattle.master_laws.proofs.Slack.{slack}
use Rattle.master_laws.proofs.Choice.{AreAll, open_parts, open_same, shares_total, team_total, taken_same, gap_is, cancel_equal_right}
use Rattle.share_terms.specs.declared.TheConstants.{BIG_M}
use Rattle.search_terms.specs.declared.TheConstants.{RIGHT, VALUE}
use Rattle.master_laws.proofs.Below.{below}
use Rattle.search_terms.specs.BasicChoice.{choice_of, route_shares}

-- an optimum, its basic solution x in parts of w, and the shares in parts of q
pub record Solved (n : Limits) (routes : List Route) (t : Rows) (p : Prices) (ws : List ℤ) (w : ℤ) (x : ℕ → ℤ) (q : ℕ) (parts : ℕ → ℕ) : Type 0 where
  pub o : Optimum n routes t p ws
  pub s : IsBasicSolution t w x
  pub summed : IsSummed n routes t
  pub costed : IsCosted n t
  pub legal : All (IsRouteIn n) routes
  pub all : AreAll n routes (pos q) w parts x
  pub some : 1 ≤ q

module _ (n : Limits) (routes : List Route) (t : Rows) (p : Prices) (ws : List ℤ) (w : ℤ) (x : ℕ → ℤ) (q : ℕ) (parts : ℕ → ℕ) where
  none_of : (a : Place → ℤ) (v : Place) → Solved n routes t p ws w x q parts → Picks a v → ((s : Stands n v) → number (value_row t) s.at <ℤ pos 0) → amount n x a ≡ pos 0
  none_of a v c picks h = amount-none n x a v picks (λ s. slack n routes t p ws w x s.at c.o c.s s.variable (h s))

  up_at : (a : Place → ℤ) (v : Place) → Solved n routes t p ws w x q parts → Picks a v → pos 0 ≤ℤ a v → pos 0 ≤ℤ amount n x a
  up_at a v c picks h = amount-low n x a (λ p. by_case p (picks p)) c.s.low
    where
      by_case : (p : Place) → (a p ≡ pos 0) ⊎ (p ≡ v) → pos 0 ≤ℤ a p
      by_case p (inl e) = omega (arith, ints)
      by_case p (inr e) = let f = ap a e in omega (arith, ints)

  one_low : (b : Bool) → pos 0 ≤ℤ one_if b
  one_low true = omega (arith, ints)
  one_low false = omega (arith, ints)

  fine : Solved n routes t p ws w x q parts → pos 0 <ℤ (number (value_row t) VALUE *ℤ pos BIG_M)
  fine c = positive (number (value_row t) VALUE) (pos BIG_M) c.o.up (omega (arith, ints))

  -- a task has a shortage or an excess
  task_either : (j : ℕ) → Solved n routes t p ws w x q parts → j < tasks_in n → (amount n x (short_at j) ≡ pos 0) ⊎ (amount n x (over_at j) ≡ pos 0)
  task_either j c lt =
      let up = fine c in
      by_lt_z (pos 0 -ℤ (number (value_row t) VALUE *ℤ pos BIG_M)) (pi_of p j)
      (λ less. inr (none_of (over_at j) (Excess j) c (picks_over j) (λ s. let e = excess_number n routes t p ws j c.o lt s in omega (arith, ints))))
      (λ le. inl (none_of (short_at j) (Shortage j) c (picks_short j) (λ s. let e = shortage_number n routes t p ws j c.o lt s in omega (arith, ints))))

  pair_either : (k j : ℕ) → Solved n routes t p ws w x q parts → k < teams_in n → j < tasks_in n → is_required (pair_of n k j) ≡ true → (amount n x (miss_at k j) ≡ pos 0) ⊎ (amount n x (again_at k j) ≡ pos 0)
  pair_either k j c team task required =
      let up = fine c in
      by_lt_z (pos 0 -ℤ (number (value_row t) VALUE *ℤ pos BIG_M)) (rho_of p k j)
      (λ less. inr (none_of (again_at k j) (Repeated k j) c (picks_again k j) (λ s. let e = repeated_number n routes t p ws k j c.o team task required s in omega (arith, ints))))
      (λ le. inl (none_of (miss_at k j) (Missed k j) c (picks_miss k j) (λ s. let e = missed_number n routes t p ws k j c.o team task required s in omega (arith, ints))))

  taken_up : (v : Place) (a : ℕ → ℤ) → Solved n routes t p ws w x q parts → ((i : ℕ) → pos 0 ≤ℤ a i) → pos 0 ≤ℤ total (length routes) (λ i. a i *ℤ x (length (places n) + i))
  taken_up v a c up =
      let two : 2 ≤ length (places n) = omega arith in
      total-not_negative (length routes) (λ i. a i *ℤ x (length (places n) + i)) (λ i lt. not_negative (a i) (x (length (places n) + i)) (up i) (c.s.low (length (places n) + i) (omega arith)))

  the_task_sum : (j : ℕ) → Solved n routes t p ws w x q parts → j < tasks_in n
      → (((pos (teams_for n j) *ℤ amount n x (open_at j)) +ℤ amount n x (short_at j)) -ℤ amount n x (over_at j)) +ℤ taken n routes x (Shortage j) ≡ pos (teams_for n j) *ℤ w
  the_task_sum j c lt = task_sum n routes t x w j c.summed c.s.solves c.s.right (opens_row n (Shortage j) (shortage_stands n j lt) refl)

  -- at most the whole task is unassigned
  open_most : (j : ℕ) → Solved n routes t p ws w x q parts → j < tasks_in n → amount n x (open_at j) ≤ℤ w
  open_most j c lt =
      let wp = c.s.up in
      by_lt_z (task_price n p j) (number (value_row t) VALUE)
      (λ less. let z = none_of (open_at j) (Unassigned j) c (picks_open j) (λ s. let e = unassigned_number n routes t p ws j c.o lt s in omega (arith, ints)) in omega (arith, ints))
      (λ le.
      let r = pos (teams_for n j) in
      let up = fine c in
      let qp = c.o.up in
      let prices = signs r (pi_of p j) (let rp : pos 0 ≤ℤ r = omega (arith, ints) in rp) (omega (arith, ints)) in
      let rp = prices.0 in
      let pp = prices.1 in
      let e = none_of (over_at j) (Excess j) c (picks_over j) (λ s. let e = excess_number n routes t p ws j c.o lt s in omega (arith, ints)) in
      let f = the_task_sum j c lt in
      let g = taken_up (Shortage j) (λ i. pos (visits_to j (get_or routes i no_route).visits)) c (λ i. omega (arith, ints)) in
      let h = up_at (short_at j) (Shortage j) c (picks_short j) (one_low (eqb j j)) in
      cancel_up_to r (amount n x (open_at j)) w rp (omega (arith, ints)))
    where
      signs : (r z : ℤ) → pos 0 ≤ℤ r → pos 0 <ℤ (r *ℤ z) → (pos 0 <ℤ r) × (pos 0 <ℤ z)
      signs (pos zero) z low h = let e = zero-*ℤ z in absurd (omega (arith, ints))
      signs (pos (suc r)) z low h = let up : pos 0 <ℤ pos (suc r) = omega (arith, ints) in (up, cancel_positive (pos (suc r)) z up h)
      signs (negsuc r) z low h = absurd (omega (arith, ints))

  -- ---- the choice's numbers
  choice : FractionalChoice
  choice = choice_of n routes q parts

  unassigned_is : (j : ℕ) → j < tasks_in n → unassigned_of choice j ≡ open_parts n parts j
  unfolding choice
  unassigned_is j lt = get_or-map-range_with_len (open_parts n parts) 0 (tasks_in n) j j 0 lt (omega arith)

  unassigned_past : (j : ℕ) → tasks_in n ≤ j → unassigned_of choice j ≡ 0
  unfolding choice
  unassigned_past j le = get_or_past (map (open_parts n parts) (below (tasks_in n))) j 0 (let e = length-map-range_with_len (open_parts n parts) 0 (tasks_in n) in omega arith)

  open_is : (j : ℕ) → Solved n routes t p ws w x q parts → j < tasks_in n → pos (unassigned_of choice j) *ℤ w ≡ pos q *ℤ amount n x (open_at j)
  open_is j c lt = ap (λ k. pos k *ℤ w) (unassigned_is j lt) ∙ open_same n routes (pos q) w parts x j c.all

  below_whole : (m : ℕ) (z : ℤ) → Solved n routes t p ws w x q parts → pos m *ℤ w ≡ pos q *ℤ z → z ≤ℤ w → m ≤ q
  below_whole m z c e le =
      let low : pos 0 <ℤ pos q = omega (arith, ints, c.some) in
      let f = times_up_to (pos q) z w low le in
      let g = *ℤ_comm w (pos m) in
      let h = *ℤ_comm w (pos q) in
      let i = cancel_up_to w (pos m) (pos q) c.s.up (omega (arith, ints)) in
      omega (arith, ints)

  unassigned_most : (j : ℕ) → Solved n routes t p ws w x q parts → unassigned_of choice j ≤ q
  unassigned_most j c = by_case (cases_lt j (tasks_in n))
    where
      by_case : (j < tasks_in n) ⊎ (tasks_in n ≤ j) → unassigned_of choice j ≤ q
      by_case (inl lt) = below_whole (unassigned_of choice j) (amount n x (open_at j)) c (open_is j c lt) (open_most j c lt)
      by_case (inr le) = let e = unassigned_past j le in omega arith

  visits_same : (j : ℕ) → Solved n routes t p ws w x q parts → pos (weighed_visits choice.shares j) *ℤ w ≡ pos q *ℤ taken n routes x (Shortage j)
  unfolding choice
  visits_same j c =
      ap (λ z. z *ℤ w) (shares_total parts (λ (s : Share). s.parts * visits_to j s.route.visits) (λ (r : Route). visits_to j r.visits) (λ r m. refl) routes (length (places n)))
      ∙ taken_same n routes (pos q) w parts x (λ i. pos (visits_to j (get_or routes i no_route).visits)) c.all

  pair_same : (k j : ℕ) → Solved n routes t p ws w x q parts → pos (weighed_visits (shares_of choice.shares k) j) *ℤ w ≡ pos q *ℤ taken n routes x (Missed k j)
  unfolding choice
  pair_same k j c =
      ap (λ z. z *ℤ w) (team_total k parts (λ (s : Share). s.parts * visits_to j s.route.visits) (λ (r : Route). visits_to j r.visits) (λ r m. refl) routes (length (places n)))
      ∙ taken_same n routes (pos q) w parts x (λ i. cond (eqb k (get_or routes i no_route).team) (pos (visits_to j (get_or routes i no_route).visits)) (pos 0)) c.all

  team_same : (k : ℕ) → Solved n routes t p ws w x q parts → pos (parts_of (shares_of choice.shares k)) *ℤ w ≡ pos q *ℤ taken n routes x (Unused k)
  unfolding choice
  team_same k c =
      ap (λ z. z *ℤ w) (team_total k parts (λ (s : Share). s.parts) (λ (r : Route). 1) (λ r m. omega arith) routes (length (places n)))
      ∙ taken_same n routes (pos q) w parts x (λ i. one_if (eqb k (get_or routes i no_route).team)) c.all

  team_most : (k : ℕ) → Solved n routes t p ws w x q parts → k < teams_in n → parts_of (shares_of choice.shares k) ≤ q
  team_most k c lt =
      let e = team_sum n routes t x w k c.summed c.s.solves c.s.right (opens_row n (Unused k) (unused_stands n k lt) refl) in
      let f = up_at (unused_at k) (Unused k) c (picks_unused k) (one_low (eqb k k)) in
      below_whole (parts_of (shares_of choice.shares k)) (taken n routes x (Unused k)) c (team_same k c) (omega (arith, ints))

  -- a task with a required pair is assigned
  unassigned_none : (j : ℕ) → Solved n routes t p ws w x q parts → has_required n j ≡ true → unassigned_of choice j ≡ 0
  unassigned_none j c required = by_case (cases_lt j (tasks_in n))
    where
      by_case : (j < tasks_in n) ⊎ (tasks_in n ≤ j) → unassigned_of choice j ≡ 0
      by_case (inl lt) =
          let z = amount-none n x (open_at j) (Unassigned j) (picks_open j) (λ s. let f = (stands_known n (Unassigned j) s).free in absurd (cc)) in
          let e = open_is j c lt ∙ ap (λ y. pos q *ℤ y) z ∙ *ℤ-zero (pos q) in
          let f = cancel_equal_right (pos (unassigned_of choice j)) (pos 0) w c.s.up (e ∙ sym (zero-*ℤ w)) in
          omega (arith, ints)
      by_case (inr le) = unassigned_past j le

  legal_shares : (rs : List Route) (at : ℕ) → All (IsRouteIn n) rs → All (λ (s : Share). IsRouteIn n s.route) (route_shares parts at rs)
  legal_shares [] at h = λ k d lt. absurd (omega arith)
  legal_shares (r ∷ rs) at h = by_test (eqb (parts at) 0) (legal_shares rs (suc at) (λ k d lt. h (suc k) d (omega arith)))
    where
      by_test : (b : Bool) → All (λ (s : Share). IsRouteIn n s.route) (route_shares parts (suc at) rs)
          → All (λ (s : Share). IsRouteIn n s.route) (cond b (route_shares parts (suc at) rs) (record { route = r; parts = parts at } ∷ route_shares parts (suc at) rs))
      by_test true rest = rest
      by_test false rest = at_each
        where
          at_each : All (λ (s : Share). IsRouteIn n s.route) (record { route = r; parts = parts at } ∷ route_shares parts (suc at) rs)
          at_each zero d lt = h 0 r (omega arith)
          at_each (suc k) d lt = rest k d (omega arith)

  pub fractional : Solved n routes t p ws w x q parts → IsFractional n (choice_of n routes q parts)
  unfolding choice
  fractional c = record {
    some = c.some;
    routes = legal_shares routes (length (places n)) c.legal;
    most = λ k lt. team_most k c lt;
    tasks = length-map-range_with_len (open_parts n parts) 0 (tasks_in n);
    unassigned = λ j. unassigned_most j c;
    required = λ j e. unassigned_none j c e;
  }

  -- ---- the value
  task_gap_is : (j : ℕ) → Solved n routes t p ws w x q parts → j < tasks_in n → task_gap n choice j *ℤ w ≡ pos q *ℤ off_task n x j
  unfolding choice
  task_gap_is j c lt =
      let r = pos (teams_for n j) in
      let u = unassigned_of choice j in
      let z = amount n x (open_at j) in
      let s = amount n x (short_at j) in
      let e = amount n x (over_at j) in
      let v = taken n routes x (Shortage j) in
      let low : pos 0 ≤ℤ pos q = omega (arith, ints) in
      let less = unassigned_most j c in
      let a = teams_for n j * (q - u) in
      let b = weighed_visits choice.shares j in
      let d : pos (q - u) ≡ pos q -ℤ pos u = omega (arith, ints) in
      let a1 : pos a *ℤ w ≡ r *ℤ (pos (q - u) *ℤ w) = assoc r (pos (q - u)) w in
      let a2 = ap (λ y. r *ℤ (y *ℤ w)) d in
      let a3 = ap (λ y. r *ℤ y) (difference_times (pos q) (pos u) w) in
      let a4 = ap (λ y. r *ℤ ((pos q *ℤ w) -ℤ y)) (open_is j c lt) in
      let a5 = ap (λ y. r *ℤ y) (sym (scale_diff (pos q) w z)) in
      let a6 = swap r (pos q) (w -ℤ z) in
      let f = the_task_sum j c lt in
      let g = scale_diff r w z in
      let k : r *ℤ (w -ℤ z) ≡ (s -ℤ e) +ℤ v = omega (arith, ints) in
      let a7 = ap (λ y. pos q *ℤ y) k in
      let a8 = scale_sum (pos q) (s -ℤ e) v in
      let a9 = scale_diff (pos q) s e in
      let left = a1 ∙ a2 ∙ a3 ∙ a4 ∙ a5 ∙ a6 ∙ a7 in
      let right = visits_same j c in
      gap_is a b (pos q) w s e c.s.up low (up_at (short_at j) (Shortage j) c (picks_short j) (one_low (eqb j j))) (up_at (over_at j) (Excess j) c (picks_over j) (one_low (eqb j j)))
      (task_either j c lt) (omega (arith, ints))

  pair_gap_is : (k j : ℕ) → Solved n routes t p ws w x q parts → k < teams_in n → j < tasks_in n → pair_gap n choice k j *ℤ w ≡ pos q *ℤ off_pair n x k j
  unfolding choice
  pair_gap_is k j c team task = by_test (is_required (pair_of n k j)) refl
    where
      by_test : (b : Bool) → is_required (pair_of n k j) ≡ b → cond b (pos (distance q (weighed_visits (shares_of choice.shares k) j))) (pos 0) *ℤ w ≡ pos q *ℤ off_pair n x k j
      by_test true required =
          let s = amount n x (miss_at k j) in
          let e = amount n x (again_at k j) in
          let v = taken n routes x (Missed k j) in
          let low : pos 0 ≤ℤ pos q = omega (arith, ints) in
          let f = pair_sum n routes t x w k j c.summed c.s.solves c.s.right (opens_row n (Missed k j) (missed_stands n k j team task required) refl) in
          let g : v +ℤ s ≡ w +ℤ e = omega (arith, ints) in
          let h = ap (λ y. pos q *ℤ y) g in
          let i = scale_sum (pos q) v s in
          let l = scale_sum (pos q) w e in
          let m = pair_same k j c in
          gap_is q (weighed_visits (shares_of choice.shares k) j) (pos q) w s e c.s.up low (up_at (miss_at k j) (Missed k j) c (picks_miss k j) (one_low (eqb k k && eqb j j)))
          (up_at (again_at k j) (Repeated k j) c (picks_again k j) (one_low (eqb k k && eqb j j))) (pair_either k j c team task required) (omega (arith, ints))
      by_test false free =
          let a = amount-none n x (miss_at k j) (Missed k j) (picks_miss k j) (λ s. let f = (stands_known n (Missed k j) s).required in absurd (cc)) in
          let b = amount-none n x (again_at k j) (Repeated k j) (picks_again k j) (λ s. let f = (stands_known n (Repeated k j) s).required in absurd (cc)) in
          let d : off_pair n x k j ≡ pos 0 = omega (arith, ints) in
          zero-*ℤ w ∙ sym (ap (λ y. pos q *ℤ y) d ∙ *ℤ-zero (pos q))

  total_same : (m : ℕ) (f g : ℕ → ℤ) → ((i : ℕ) → i < m → f i *ℤ w ≡ pos q *ℤ g i) → total m f *ℤ w ≡ pos q *ℤ total m g
  total_same m f g h =
      *ℤ_comm (total m f) w ∙ total-scale m w f ∙ total-same m (λ i. w *ℤ f i) (λ i. pos q *ℤ g i) (λ i lt. *ℤ_comm w (f i) ∙ h i lt) ∙ sym (total-scale m (pos q) g)

  times_same : (c y z : ℤ) → y *ℤ w ≡ pos q *ℤ z → (c *ℤ y) *ℤ w ≡ pos q *ℤ (c *ℤ z)
  times_same c y z e = assoc c y w ∙ ap (λ a. c *ℤ a) e ∙ swap c (pos q) z

  plus_same : (a b y z : ℤ) → a *ℤ w ≡ pos q *ℤ y → b *ℤ w ≡ pos q *ℤ z → (a +ℤ b) *ℤ w ≡ pos q *ℤ (y +ℤ z)
  plus_same a b y z e f =
      let g = sum_times a b w in
      let h = scale_sum (pos q) y z in
      omega (arith, ints)

  value_is : Solved n routes t p ws w x q parts → choice_value n choice *ℤ w ≡ pos q *ℤ x VALUE
  unfolding choice
  value_is c =
      let T = tasks_in n in
      let K = teams_in n in
      let a : ℕ → ℤ = λ j. pos (unassigned_of choice j) in
      let b : ℕ → ℤ = λ k. total T (pair_gap n choice k) in
      let d : ℕ → ℤ = λ k. total T (off_pair n x k) in
      let one = total_same T a (λ j. amount n x (open_at j)) (λ j lt. open_is j c lt) in
      let two = times_same (pos BIG_M) (total T (task_gap n choice)) (total T (off_task n x)) (total_same T (task_gap n choice) (off_task n x) (λ j lt. task_gap_is j c lt)) in
      let three = times_same (pos BIG_M) (total K b) (total K d) (total_same K b d (λ k team. total_same T (pair_gap n choice k) (off_pair n x k) (λ j task. pair_gap_is k j c team task))) in
      let four = plus_same (pos BIG_M *ℤ total T (task_gap n choice)) (pos BIG_M *ℤ total K b) (pos BIG_M *ℤ total T (off_task n x)) (pos BIG_M *ℤ total K d) two three in
      plus_same (total T a) ((pos BIG_M *ℤ total T (task_gap n choice)) +ℤ (pos BIG_M *ℤ total K b)) (total T (λ j. amount n x (open_at j)))
      ((pos BIG_M *ℤ total T (off_task n x)) +ℤ (pos BIG_M *ℤ total K d)) one four
      ∙ ap (λ y. pos q *ℤ y) (sym (value_sum n t x c.costed c.s.solves))

  -- the value is the right side of the value's row, over its basic entry
  pub choice_value_is : Solved n routes t p ws w x q parts → number (value_row t) VALUE *ℤ choice_value n (choice_of n routes q parts) ≡ number (value_row t) RIGHT *ℤ pos q
  unfolding choice
  choice_value_is c =
      let qv = number (value_row t) VALUE in
      let r = number (value_row t) RIGHT in
      let v = choice_value n choice in
      let end : last t < length t.rows = omega (arith, c.o.basic.some) in
      let e = ap (λ k. number (value_row t) k *ℤ x k) (sym c.o.basic.value) ∙ c.s.is (last t) end in
      let left = assoc qv v w ∙ ap (λ y. qv *ℤ y) (value_is c) ∙ swap qv (pos q) (x VALUE) ∙ ap (λ y. pos q *ℤ y) e ∙ swap (pos q) r w ∙ sym (assoc r (pos q) w) in
      cancel_equal_right (qv *ℤ v) (r *ℤ pos q) w c.s.up left
