-- each number of an opening variable is what its row says of the opening rows, and in the value's row what the duals say
use Rattle.std.proofs.Common.{◌≡◌, ◌<◌, ℕ, suc, List, length, get_or, ap, sym, arith, ◌∙◌}
use Rattle.std.specs.Prelude.{ℤ, pos, ◌+ℤ◌, ◌-ℤ◌, ◌*ℤ◌}
use Rattle.std.proofs.lemmas.Int.{ints}
use Rattle.std.proofs.Math.IntN.{*ℤ_comm, zero-*ℤ}
use Rattle.crew_terms.specs.Limits.{Limits, Route}
use Rattle.crew_terms.specs.Total.{total}
use Rattle.search_terms.specs.declared.Place.{Place}
use Rattle.search_terms.specs.Rows.{Row, Rows, number, row_of, last, value_row, width, AreBasic}
use Rattle.search_terms.specs.Pivot.{IsReplaced}
use Rattle.search_terms.specs.Opening.{places, place_at, basic_at, openers, opener, opening, opening_basis, opening_number, basic_number, entered, times, cost, cost_sum, dual}
use Rattle.search_terms.specs.MasterRun.{MasterRun}
use Rattle.search_terms.specs.MasterRun.MasterRun.{Opens, Pivots, Enters}
use Rattle.crew_num.specs.Ring.{assoc, scale_sum, scale_diff}
use Rattle.crew_terms.specs.Totals.{total-same, total-plus, total-one}
use Rattle.master_laws.proofs.Totals.{total-scale, total-minus}
use Rattle.master_laws.proofs.Solutions.{by_row, spread}
use Rattle.master_laws.proofs.Entering.{AreWithin, number_entered, count_entered}
use Rattle.master_laws.proofs.Unique.{cancel_same}
use Rattle.master_laws.proofs.Runs.{of_run}
use Rattle.master_laws.proofs.Positions.{count, openers_count, opener_basic, opener_last, basic_position, last_position, rows_count, opening_at, basic_row}
use Rattle.master_laws.proofs.Costs.{opening_within}
use Rattle.master_laws.proofs.Opened.{basic_opening, own_one}
use Rattle.search_terms.specs.declared.TheConstants.{VALUE}
use Rattle.master_laws.specs.Opening.{wide_opening}

-- the sum of what the opening rows have, each as often as the row has it
abbrev pub combined : Limits → (ℕ → ℤ) → Row → ℤ
combined n a row = total (length (openers (places n))) (λ h. times (places n) row h *ℤ a h)

pub combined_replaced : (n : Limits) (a : ℕ → ℤ) (pivot : Row) (v : ℕ) (row new : Row) (c : IsReplaced pivot v row new) → AreWithin n (length row)
    → pos c.factor *ℤ combined n a new ≡ (number pivot v *ℤ combined n a row) -ℤ (number row v *ℤ combined n a pivot)
combined_replaced n a pivot v row new c known =
    let m = length (openers (places n)) in
    let f : ℕ → ℤ = λ h. times (places n) new h *ℤ a h in
    let g : ℕ → ℤ = λ h. times (places n) row h *ℤ a h in
    let q : ℕ → ℤ = λ h. times (places n) pivot h *ℤ a h in
    let one = total-scale m (pos c.factor) f in
    let two = total-same m (λ h. pos c.factor *ℤ f h) (λ h. (number pivot v *ℤ g h) -ℤ (number row v *ℤ q h))
    (λ h below. spread (pos c.factor) (times (places n) new h) (number pivot v) (times (places n) row h) (number row v) (times (places n) pivot h) (a h) (c.each (get_or (opening_basis (places n)) h 0) (known.each h below))) in
    let three = total-minus m (λ h. number pivot v *ℤ g h) (λ h. number row v *ℤ q h) in
    let four = total-scale m (number pivot v) g in
    let five = total-scale m (number row v) q in
    omega (arith, ints)

-- an opening row says of itself alone
pub combined_opening : (n : Limits) (a : ℕ → ℤ) (h : ℕ) → h < suc (count n) → combined n a (row_of (opening n) h) ≡ a h
combined_opening n a h below =
    let b = basic_opening n in
    let rows = rows_count n in
    let in_h : h < length (opening n).rows = omega arith in
    let e = total-one (length (openers (places n))) (λ i. times (places n) (row_of (opening n) h) i *ℤ a i) h (omega (arith, openers_count n))
    (λ i in_i ne. ap (λ z. z *ℤ a i) (b.alone i h (omega (arith, openers_count n)) in_h ne) ∙ zero-*ℤ (a i)) in
    let f = ap (λ z. z *ℤ a h) (own_one n h below) in
    let g : pos 1 *ℤ a h ≡ a h = omega (arith, ints) in
    e ∙ f ∙ g

-- what the opening rows have at place j
abbrev pub column : Limits → ℕ → ℕ → ℤ
column n j h = opening_number n (opener (places n) h) (place_at (places n) j)

pub record HasNumbers (n : Limits) (t : Rows) : Type 0 where
  pub each : (h j : ℕ) → h < length t.rows → j < length (places n) → number (row_of t h) j ≡ combined n (column n j) (row_of t h)

pub numbers_run : (n : Limits) (may : Rows → Type 0) (routes : List Route) (made : ℕ) (t : Rows) → AreBasic (opening n)
    → MasterRun n may routes made t → HasNumbers n t
numbers_run n may _ _ _ b Opens = record {
  each = λ h j below known.
      let lt : h < suc (count n) = omega (arith, rows_count n) in
      opening_at n h j lt known ∙ sym (combined_opening n (column n j) h lt);
}
numbers_run n may _ _ _ b (Pivots {routes} {made} {t} {next} run p) =
    let o = of_run n may routes made t (opening_within n (width (opening n)) (omega (arith, wide_opening n))) b run in
    let e = numbers_run n may routes made t b run in
    record {
      each = λ h j below known.
          let in' : h < length t.rows = omega (arith, p.pivot.count) in
          let pivot = row_of t p.h in
          let in_p : p.h < length t.rows = omega (arith, p.leaves.bounds.known) in
          by_row t next p.v p.h h (number (row_of next h) j ≡ combined n (column n j) (row_of next h)) p.pivot in'
          (λ same _. ap (λ row. number row j) same ∙ e.each h j in' known ∙ ap (combined n (column n j)) (sym same))
          (λ c ne.
          let long = o.basic.widths h in' in
          let wide = o.wide in
          let one = c.each j (omega (arith, wide_opening n)) in
          let two = combined_replaced n (column n j) pivot p.v (row_of t h) (row_of next h) c (opening_within n (length (row_of t h)) (omega (arith, wide_opening n))) in
          let three = ap (λ z. number pivot p.v *ℤ z) (e.each h j in' known) in
          let four = ap (λ z. number (row_of t h) p.v *ℤ z) (e.each p.h j in_p known) in
          cancel_same c.factor (number (row_of next h) j) (combined n (column n j) (row_of next h)) c.some (omega (arith, ints)));
    }
numbers_run n may _ _ _ b (Enters {routes} {made} {t} r run m) =
    let o = of_run n may routes made t (opening_within n (width (opening n)) (omega (arith, wide_opening n))) b run in
    let e = numbers_run n may routes made t b run in
    record {
      each = λ h j below known.
          let in' : h < length t.rows = omega (arith, count_entered n r t) in
          let row = row_of t h in
          let long = o.basic.widths h in' in
          let wide = o.wide in
          let w = opening_within n (length row) (omega (arith, wide_opening n)) in
          number_entered n r t h j in' (omega (arith, wide_opening n)) ∙ e.each h j in' known
          ∙ total-same (length (openers (places n))) (λ i. times (places n) row i *ℤ column n j i) (λ i. times (places n) (row_of (entered (places n) r t) h) i *ℤ column n j i)
          (λ i lt. ap (λ z. z *ℤ column n j i) (sym (number_entered n r t h (get_or (opening_basis (places n)) i 0) in' (w.each i lt))));
    }

-- the sum of the duals, each times what its row has
abbrev pub by_duals : Limits → Row → (Place → ℤ) → ℤ
by_duals n value a = total (count n) (λ h. dual (places n) value h *ℤ a (basic_at (places n) h))

-- the number of an opening variable in the value's row: by the duals, less its cost
pub value_number : (n : Limits) (may : Rows → Type 0) (routes : List Route) (made : ℕ) (t : Rows) (j : ℕ) → AreBasic (opening n)
    → MasterRun n may routes made t → j < length (places n)
    → number (value_row t) j ≡ by_duals n (value_row t) (λ b. basic_number n b (place_at (places n) j)) -ℤ (number (value_row t) VALUE *ℤ cost (place_at (places n) j))
value_number n may routes made t j b run known =
    let s = of_run n may routes made t (opening_within n (width (opening n)) (omega (arith, wide_opening n))) b run in
    let e = (numbers_run n may routes made t b run).each (last t) j (omega (arith, s.basic.some)) known in
    let p = place_at (places n) j in
    let value = value_row t in
    let m = count n in
    let q = number value VALUE in
    let a : ℕ → ℤ = λ h. basic_number n (basic_at (places n) h) p in
    let c : ℕ → ℤ = λ h. cost (basic_at (places n) h) in
    let f : ℕ → ℤ = λ h. times (places n) value h *ℤ column n j h in
    let one = total-same m (λ h. dual (places n) value h *ℤ a h) (λ h. (times (places n) value h *ℤ a h) +ℤ (q *ℤ (c h *ℤ a h))) (λ h below.
    let e = ap (λ b. times (places n) value h +ℤ (q *ℤ cost b)) (opener_basic n h below) in
    ap (λ z. z *ℤ a h) e ∙ opened (times (places n) value h) q (c h) (a h)) in
    let two = total-plus m (λ h. times (places n) value h *ℤ a h) (λ h. q *ℤ (c h *ℤ a h)) in
    let three = total-scale m q (λ h. c h *ℤ a h) in
    let four = total-same m f (λ h. times (places n) value h *ℤ a h) (λ h below. ap (λ z. times (places n) value h *ℤ z)
    (ap (λ b. opening_number n b p) (opener_basic n h below) ∙ basic_row n (basic_at (places n) h) p (basic_position n h below).passes)) in
    let five = ap (λ k. total k f) (openers_count n) in
    let six = ap (λ k. number value k *ℤ column n j m) (last_position n) ∙ ap (λ b. q *ℤ opening_number n b p) (opener_last n) in
    let seven = scale_diff q (cost_sum (places n) (λ b. basic_number n b p)) (cost p) in
    omega (arith, ints)
  where
    opened : (x q c a : ℤ) → (x +ℤ (q *ℤ c)) *ℤ a ≡ (x *ℤ a) +ℤ (q *ℤ (c *ℤ a))
    opened x q c a =
        let d = scale_sum a x (q *ℤ c) in
        let e = *ℤ_comm (x +ℤ (q *ℤ c)) a in
        let f = *ℤ_comm a x in
        let g = *ℤ_comm a (q *ℤ c) in
        let h = assoc q c a in
        omega (arith, ints)
