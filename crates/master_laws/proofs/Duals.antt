-- where no reduced cost is negative, no entered route earns more than its team's worth
use Rattle.std.proofs.Common.{◌≡◌, ◌≤◌, ◌<◌, ◌+◌, ℕ, List, [], ◌∷◌, ◌++◌, length, get_or, ap, sym, arith, ◌∙◌, length-append, ◌⊎◌, inl, inr}
use Rattle.std.specs.Prelude.{ℤ, pos, ◌+ℤ◌, ◌-ℤ◌, ◌*ℤ◌, ◌≤ℤ◌}
use Rattle.std.proofs.Math.Seq.{get_or-append_seam}
use Rattle.std.proofs.lemmas.List.{get_or_append_left}
use Rattle.std.proofs.lemmas.Int.{ints, by_lt_z}
use Rattle.std.proofs.Math.IntN.{*ℤ_comm}
use Rattle.crew_terms.specs.Limits.{Limits, Route}
use Rattle.crew_terms.specs.Total.{total}
use Rattle.search_terms.specs.Rows.{Row, Rows, number, row_of, last, value_row, width, AreBasic}
use Rattle.search_terms.specs.Pivot.{IsPivot, IsReplaced, IsOptimal}
use Rattle.search_terms.specs.Opening.{places, basic_at, openers, opener, opening, opening_basis, entered, entry, times, cost, route_number, visit_number, dual, dual_sum}
use Rattle.search_terms.specs.MasterRun.{MasterRun}
use Rattle.search_terms.specs.MasterRun.MasterRun.{Opens, Pivots, Enters}
use Rattle.crew_num.specs.Ring.{assoc, scale_sum}
use Rattle.crew_terms.specs.Totals.{total-same, total-plus, lt_or_last}
use Rattle.master_laws.proofs.Totals.{total-scale, total-minus}
use Rattle.master_laws.proofs.Solutions.{by_row, spread}
use Rattle.master_laws.proofs.Entering.{AreWithin, row_entered, number_entered, count_entered}
use Rattle.master_laws.proofs.Unique.{cancel_same}
use Rattle.master_laws.proofs.Runs.{of_run}
use Rattle.master_laws.proofs.Positions.{count, openers_count, opener_basic, opener_last, basic_position, last_position}
use Rattle.master_laws.proofs.Costs.{opening_within, visit_row}
use Rattle.search_terms.specs.declared.TheConstants.{VALUE}
use Rattle.master_laws.specs.Opening.{wide_opening}

entry_same : (n : Limits) (r : Route) (a b : Row) → ((h : ℕ) → h < length (openers (places n)) → times (places n) a h ≡ times (places n) b h) → entry (places n) r a ≡ entry (places n) r b
entry_same n r a b e = total-same (length (openers (places n))) (λ h. times (places n) a h *ℤ route_number (places n) r (opener (places n) h)) (λ h. times (places n) b h *ℤ route_number (places n) r (opener (places n) h))
    (λ h below. ap (λ z. z *ℤ route_number (places n) r (opener (places n) h)) (e h below))

entry_replaced : (n : Limits) (r : Route) (pivot : Row) (v : ℕ) (row new : Row) (c : IsReplaced pivot v row new) → AreWithin n (length row)
    → pos c.factor *ℤ entry (places n) r new ≡ (number pivot v *ℤ entry (places n) r row) -ℤ (number row v *ℤ entry (places n) r pivot)
entry_replaced n r pivot v row new c known =
    let m = length (openers (places n)) in
    let a : ℕ → ℤ = λ h. route_number (places n) r (opener (places n) h) in
    let f : ℕ → ℤ = λ h. times (places n) new h *ℤ a h in
    let g : ℕ → ℤ = λ h. times (places n) row h *ℤ a h in
    let q : ℕ → ℤ = λ h. times (places n) pivot h *ℤ a h in
    let one = total-scale m (pos c.factor) f in
    let two = total-same m (λ h. pos c.factor *ℤ f h) (λ h. (number pivot v *ℤ g h) -ℤ (number row v *ℤ q h))
    (λ h below. spread (pos c.factor) (times (places n) new h) (number pivot v) (times (places n) row h) (number row v) (times (places n) pivot h) (a h) (c.each (get_or (opening_basis (places n)) h 0) (known.each h below))) in
    let three = total-minus m (λ h. number pivot v *ℤ g h) (λ h. number row v *ℤ q h) in
    let four = total-scale m (number pivot v) g in
    let five = total-scale m (number row v) q in
    omega (arith, ints)

abbrev pub no_route : Route
no_route = record { team = 0; visits = [] }

-- the number of each entered route is what the row says of the opening rows
pub record HasEntries (n : Limits) (routes : List Route) (t : Rows) : Type 0 where
  pub each : (i h : ℕ) → i < length routes → h < length t.rows → number (row_of t h) (length (places n) + i) ≡ entry (places n) (get_or routes i no_route) (row_of t h)

entries_pivot : (n : Limits) (routes : List Route) (t next : Rows) → AreBasic t → width t ≡ length (places n) + length routes
    → HasEntries n routes t → IsPivot t next → HasEntries n routes next
entries_pivot n routes t next b wide e p = record {
  each = λ i h known below.
      let in' : h < length t.rows = omega (arith, p.pivot.count) in
      let r = get_or routes i no_route in
      let j = length (places n) + i in
      let pivot = row_of t p.h in
      let in_p : p.h < length t.rows = omega (arith, p.leaves.bounds.known) in
      by_row t next p.v p.h h (number (row_of next h) j ≡ entry (places n) r (row_of next h)) p.pivot in'
      (λ same _. ap (λ row. number row j) same ∙ e.each i h known in' ∙ ap (entry (places n) r) (sym same))
      (λ c ne.
      let long = b.widths h in' in
      let one = c.each j (omega arith) in
      let two = entry_replaced n r pivot p.v (row_of t h) (row_of next h) c (opening_within n (length (row_of t h)) (omega arith)) in
      let three = ap (λ z. number pivot p.v *ℤ z) (e.each i h known in') in
      let four = ap (λ z. number (row_of t h) p.v *ℤ z) (e.each i p.h known in_p) in
      cancel_same c.factor (number (row_of next h) j) (entry (places n) r (row_of next h)) c.some (omega (arith, ints)));
}

entries_entered : (n : Limits) (routes : List Route) (r : Route) (t : Rows) → AreBasic t → width t ≡ length (places n) + length routes
    → HasEntries n routes t → HasEntries n (routes ++ r ∷ []) (entered (places n) r t)
entries_entered n routes r t b wide e = record {
  each = λ i h known below.
      let in' : h < length t.rows = omega (arith, count_entered n r t) in
      let row = row_of t h in
      let new = row_of (entered (places n) r t) h in
      let long = b.widths h in' in
      let w = opening_within n (length row) (omega arith) in
      let same : (q : Route) → entry (places n) q new ≡ entry (places n) q row = λ q. entry_same n q new row (λ k lt. number_entered n r t h (get_or (opening_basis (places n)) k 0) in' (w.each k lt)) in
      by_case i h new same (lt_or_last (length routes) i (omega (arith, length-append routes (r ∷ [])))) in';
}
  where
    by_case : (i h : ℕ) (new : Row) → ((q : Route) → entry (places n) q (row_of (entered (places n) r t) h) ≡ entry (places n) q (row_of t h)) → (i < length routes) ⊎ (i ≡ length routes) → h < length t.rows
        → number (row_of (entered (places n) r t) h) (length (places n) + i) ≡ entry (places n) (get_or (routes ++ r ∷ []) i no_route) (row_of (entered (places n) r t) h)
    by_case i h new same (inl lt) in' =
        number_entered n r t h (length (places n) + i) in' (omega (arith, b.widths h in')) ∙ e.each i h lt in'
        ∙ sym (same (get_or routes i no_route)) ∙ ap (λ q. entry (places n) q (row_of (entered (places n) r t) h)) (sym (get_or_append_left routes (r ∷ []) no_route i lt))
    by_case i h new same (inr q) in' =
        let long : length (places n) + i ≡ length (row_of t h) = omega (arith, b.widths h in') in
        let last : get_or (routes ++ r ∷ []) i no_route ≡ r = ap (λ k. get_or (routes ++ r ∷ []) k no_route) q ∙ get_or-append_seam routes r [] no_route in
        ap (number (row_of (entered (places n) r t) h)) long ∙ ap (λ row. number row (length (row_of t h))) (row_entered n r t h in')
        ∙ get_or-append_seam (row_of t h) (entry (places n) r (row_of t h)) [] (pos 0)
        ∙ sym (same r) ∙ ap (λ q. entry (places n) q (row_of (entered (places n) r t) h)) (sym last)

pub entries_run : (n : Limits) (may : Rows → Type 0) (routes : List Route) (made : ℕ) (t : Rows) → AreBasic (opening n)
    → MasterRun n may routes made t → HasEntries n routes t
entries_run n may _ _ _ b Opens = record { each = λ i h known below. absurd (omega arith) }
entries_run n may _ _ _ b (Pivots {routes} {made} {t} {next} run p) =
    let o = of_run n may routes made t (opening_within n (width (opening n)) (omega (arith, wide_opening n))) b run in
    entries_pivot n routes t next o.basic (o.wide ∙ ap (λ k. k + length routes) (wide_opening n)) (entries_run n may routes made t b run) p
entries_run n may _ _ _ b (Enters {routes} {made} {t} r run m) =
    let o = of_run n may routes made t (opening_within n (width (opening n)) (omega (arith, wide_opening n))) b run in
    entries_entered n routes r t o.basic (o.wide ∙ ap (λ k. k + length routes) (wide_opening n)) (entries_run n may routes made t b run)

-- what a route earns by the duals is its number in the value's row
pub earned_is_entry : (n : Limits) (value : Row) (r : Route) → dual_sum (places n) value r ≡ entry (places n) r value
earned_is_entry n value r =
    let m = count n in
    let q = number value VALUE in
    let a : ℕ → ℤ = λ h. visit_number r (basic_at (places n) h) in
    let c : ℕ → ℤ = λ h. cost (basic_at (places n) h) in
    let f : ℕ → ℤ = λ h. times (places n) value h *ℤ route_number (places n) r (opener (places n) h) in
    let one = total-same m (λ h. dual (places n) value h *ℤ a h) (λ h. (times (places n) value h *ℤ a h) +ℤ (q *ℤ (c h *ℤ a h))) (λ h below.
    let e = ap (λ b. times (places n) value h +ℤ (q *ℤ cost b)) (opener_basic n h below) in
    ap (λ z. z *ℤ a h) e ∙ opened (times (places n) value h) q (c h) (a h)) in
    let two = total-plus m (λ h. times (places n) value h *ℤ a h) (λ h. q *ℤ (c h *ℤ a h)) in
    let three = total-scale m q (λ h. c h *ℤ a h) in
    let four = total-same m f (λ h. times (places n) value h *ℤ a h) (λ h below. ap (λ z. times (places n) value h *ℤ z)
    (ap (route_number (places n) r) (opener_basic n h below) ∙ visit_row n r (basic_at (places n) h) (basic_position n h below).passes)) in
    let five = ap (λ k. total k f) (openers_count n) in
    let six = ap (λ k. number value k *ℤ route_number (places n) r (opener (places n) m)) (last_position n) ∙ ap (λ b. q *ℤ route_number (places n) r b) (opener_last n) in
    omega (arith, ints)
  where
    opened : (x q c a : ℤ) → (x +ℤ (q *ℤ c)) *ℤ a ≡ (x *ℤ a) +ℤ (q *ℤ (c *ℤ a))
    opened x q c a =
        let d = scale_sum a x (q *ℤ c) in
        let e = *ℤ_comm (x +ℤ (q *ℤ c)) a in
        let f = *ℤ_comm a x in
        let g = *ℤ_comm a (q *ℤ c) in
        let h = assoc q c a in
        omega (arith, ints)

-- where no variable has a negative reduced cost, no entered route earns more than nothing
pub optimal_duals : (n : Limits) (may : Rows → Type 0) (routes : List Route) (made : ℕ) (t : Rows) → AreBasic (opening n)
    → MasterRun n may routes made t → IsOptimal t → (i : ℕ) → i < length routes → dual_sum (places n) (value_row t) (get_or routes i no_route) ≤ℤ pos 0
optimal_duals n may routes made t b run o i known =
    let s = of_run n may routes made t (opening_within n (width (opening n)) (omega (arith, wide_opening n))) b run in
    let e = (entries_run n may routes made t b run).each i (last t) known (omega (arith, s.basic.some)) in
    let f = earned_is_entry n (value_row t) (get_or routes i no_route) in
    let j = length (places n) + i in
    by_lt_z (pos 0) (number (value_row t) j)
    (λ p. let high : j < width t = omega (arith, s.wide, wide_opening n) in
    let low : VALUE < j = let two : 2 ≤ length (places n) = omega arith in omega arith in
    absurd (o j (record { variable = low; known = high; positive = p })))
    (λ p. omega (arith, ints))
