-- the costs of a vector that solves the rows of a run, less its value, are 0
use Rattle.std.proofs.Common.{◌≡◌, ◌≤◌, ◌<◌, ℕ, List, length, get_or, refl, ap, sym, arith, ◌∙◌, subst, ◌⊎◌, inl, inr, true, map}
use Rattle.std.specs.Prelude.{ℤ, pos, negsuc, ◌+ℤ◌, ◌-ℤ◌, ◌*ℤ◌}
use Rattle.std.proofs.lemmas.Int.{ints}
use Rattle.std.proofs.Math.IntN.{*ℤ_comm, *ℤ-zero, *ℤ-one}
use Rattle.std.proofs.lemmas.List.{get_or-map, length-map}
use Rattle.crew_terms.specs.Limits.{Limits, Route}
use Rattle.crew_terms.specs.Total.{total}
use Rattle.search_terms.specs.declared.Place.{Place}
use Rattle.search_terms.specs.declared.Place.TheVariants.{Right, Value, Unused, Unassigned, Shortage, Excess, Missed, Repeated}
use Rattle.search_terms.specs.Rows.{Row, Rows, number, row_of, width, product, IsSolution, AreBasic}
use Rattle.search_terms.specs.Opening.{places, openers, opener, basic_at, place_at, opening_basis, opening, basic_number, cost, cost_sum, route_number, visit_number, entered, opens}
use Rattle.search_terms.specs.MasterRun.{MasterRun}
use Rattle.search_terms.specs.MasterRun.MasterRun.{Opens, Pivots, Enters}
use Rattle.crew_num.specs.Ring.{minus_times, swap, scale_diff}
use Rattle.crew_terms.specs.Totals.{total-same, total-zero, total-swap, lt_or_last}
use Rattle.master_laws.specs.Opening.{wide_opening}
use Rattle.master_laws.proofs.Totals.{total-scale, total-minus}
use Rattle.master_laws.proofs.Solutions.{solves_before}
use Rattle.master_laws.proofs.Entering.{AreWithin, folded, stand_in, solves_folded, product_plus, product_scaled, product_spread}
use Rattle.master_laws.proofs.Runs.{of_run}
use Rattle.master_laws.proofs.Positions.{count, openers_count, opener_basic, opener_last, basic_position, last_position, rows_count, opening_width, basic_at_number, last_number}
use Rattle.master_laws.proofs.Unique.{basic_run}

-- the sum of the costs at the opening places
abbrev pub costs : Limits → (ℕ → ℤ) → ℤ
costs n x = total (length (places n)) (λ j. cost (place_at (places n) j) *ℤ x j)

pub record IsCosted (n : Limits) (t : Rows) : Type 0 where
  pub zero_sum : (x : ℕ → ℤ) → IsSolution t x → costs n x ≡ pos 0

pub basic_product : (n : Limits) (x : ℕ → ℤ) (h : ℕ) → IsSolution (opening n) x → h < count n
    → total (length (places n)) (λ j. basic_number n (basic_at (places n) h) (place_at (places n) j) *ℤ x j) ≡ pos 0
basic_product n x h s below =
    let w = length (places n) in
    let f : ℕ → ℤ = λ j. number (row_of (opening n) h) j *ℤ x j in
    let e = ap (λ k. total k f) (opening_width n h (omega arith)) in
    let g = total-same w f (λ j. basic_number n (basic_at (places n) h) (place_at (places n) j) *ℤ x j) (λ j known. ap (λ z. z *ℤ x j) (basic_at_number n h j below known)) in
    sym g ∙ sym e ∙ s h (omega (arith, rows_count n))

inner : (x c a : ℤ) → x *ℤ (c *ℤ a) ≡ c *ℤ (a *ℤ x)
inner x c a = swap x c a ∙ ap (λ z. c *ℤ z) (*ℤ_comm x a)

weighted : (n : Limits) (x : ℕ → ℤ) → IsSolution (opening n) x
    → total (length (places n)) (λ j. cost_sum (places n) (λ b. basic_number n b (place_at (places n) j)) *ℤ x j) ≡ pos 0
weighted n x s =
    let w = length (places n) in
    let c : ℕ → ℤ = λ h. cost (basic_at (places n) h) in
    let a : ℕ → ℕ → ℤ = λ h j. basic_number n (basic_at (places n) h) (place_at (places n) j) in
    let one = total-same w (λ j. total (count n) (λ h. c h *ℤ a h j) *ℤ x j) (λ j. total (count n) (λ h. c h *ℤ (a h j *ℤ x j)))
    (λ j known. *ℤ_comm (total (count n) (λ h. c h *ℤ a h j)) (x j) ∙ total-scale (count n) (x j) (λ h. c h *ℤ a h j)
    ∙ total-same (count n) (λ h. x j *ℤ (c h *ℤ a h j)) (λ h. c h *ℤ (a h j *ℤ x j)) (λ h below. inner (x j) (c h) (a h j))) in
    let two = total-swap w (count n) (λ j h. c h *ℤ (a h j *ℤ x j)) in
    let three = total-zero (count n) (λ h. total w (λ j. c h *ℤ (a h j *ℤ x j)))
    (λ h below. sym (total-scale w (c h) (λ j. a h j *ℤ x j)) ∙ ap (λ z. c h *ℤ z) (basic_product n x h s below) ∙ *ℤ-zero (c h)) in
    one ∙ two ∙ three

pub costed_opening : (n : Limits) → IsCosted n (opening n)
costed_opening n = record {
  zero_sum = λ x s.
      let w = length (places n) in
      let f : ℕ → ℤ = λ j. number (row_of (opening n) (count n)) j *ℤ x j in
      let k : ℕ → ℤ = λ j. cost_sum (places n) (λ b. basic_number n b (place_at (places n) j)) in
      let c : ℕ → ℤ = λ j. cost (place_at (places n) j) in
      let e = ap (λ k. total k f) (opening_width n (count n) (omega arith)) in
      let g = total-same w f (λ j. (k j *ℤ x j) -ℤ (c j *ℤ x j))
      (λ j known. ap (λ z. z *ℤ x j) (last_number n j known) ∙ minus_right (k j) (c j) (x j)) in
      let h = total-minus w (λ j. k j *ℤ x j) (λ j. c j *ℤ x j) in
      let z = s (count n) (omega (arith, rows_count n)) in
      let y = weighted n x s in
      omega (arith, ints);
}
  where
    minus_right : (a b x : ℤ) → (a -ℤ b) *ℤ x ≡ (a *ℤ x) -ℤ (b *ℤ x)
    minus_right a b x =
        let d = scale_diff x a b in
        let e = *ℤ_comm (a -ℤ b) x in
        let f = *ℤ_comm a x in
        let g = *ℤ_comm b x in
        omega (arith, ints)

cost_row : Limits → Row
cost_row n = map cost (places n)

costs_are : (n : Limits) (x : ℕ → ℤ) → costs n x ≡ product (cost_row n) x
unfolding cost_row
costs_are n x =
    let f : ℕ → ℤ = λ j. number (map cost (places n)) j *ℤ x j in
    let e = ap (λ k. total k f) (length-map (places n) cost) in
    let g = total-same (length (places n)) f (λ j. cost (place_at (places n) j) *ℤ x j) (λ j known. ap (λ z. z *ℤ x j) (get_or-map cost (places n) j Right (pos 0) known)) in
    sym g ∙ sym e

cost_number : (n : Limits) (j : ℕ) → j < length (places n) → number (cost_row n) j ≡ cost (place_at (places n) j)
unfolding cost_row
cost_number n j known = get_or-map cost (places n) j Right (pos 0) known

cost_width : (n : Limits) → length (cost_row n) ≡ length (places n)
unfolding cost_row
cost_width n = length-map (places n) cost

pub visit_row : (n : Limits) (r : Route) (b : Place) → opens b ≡ true → route_number (places n) r b ≡ visit_number r b
visit_row n r Value e = absurd (cc)
visit_row n r Right e = refl
visit_row n r (Unused k) e = refl
visit_row n r (Unassigned k) e = refl
visit_row n r (Shortage k) e = refl
visit_row n r (Excess k) e = refl
visit_row n r (Missed k j) e = refl
visit_row n r (Repeated k j) e = refl

pub opening_within : (n : Limits) (w : ℕ) → length (places n) ≤ w → AreWithin n w
opening_within n w le = record { each = λ h below. by_case h (lt_or_last (count n) h (omega (arith, openers_count n))) }
  where
    by_case : (h : ℕ) → (h < count n) ⊎ (h ≡ count n) → get_or (opening_basis (places n)) h 0 < w
    by_case h (inl lt) = omega (arith, (basic_position n h lt).known)
    by_case h (inr e) =
        let f : get_or (opening_basis (places n)) h 0 ≡ 1 = ap (λ k. get_or (opening_basis (places n)) k 0) e ∙ last_position n in
        let two : 2 ≤ length (places n) = omega arith in
        omega arith

-- what a route stands in for costs as much as the value that it takes
stand_in_costs : (n : Limits) (r : Route) → costs n (stand_in n r) ≡ pos 0
stand_in_costs n r =
    let b : ℕ → ℕ = λ h. get_or (opening_basis (places n)) h 0 in
    let a : ℕ → ℤ = λ h. route_number (places n) r (opener (places n) h) in
    let f : ℕ → ℤ = λ h. number (cost_row n) (b h) *ℤ a h in
    let within = opening_within n (length (places n)) (omega arith) in
    let one = product_spread (cost_row n) (length (openers (places n))) b a (λ h below. subst (λ k. b h < k) (sym (cost_width n)) (within.each h below)) in
    let two = ap (λ k. total k f) (openers_count n) in
    let three = total-same (count n) f (λ h. cost (basic_at (places n) h) *ℤ visit_number r (basic_at (places n) h)) (λ h below.
    let p = basic_position n h below in
    let x = cost_number n (b h) p.known ∙ ap cost p.is in
    let y = ap (route_number (places n) r) (opener_basic n h below) ∙ visit_row n r (basic_at (places n) h) p.passes in
    ap (λ z. z *ℤ a h) x ∙ ap (λ z. cost (basic_at (places n) h) *ℤ z) y) in
    let low : 1 < length (places n) = omega arith in
    let x = ap (number (cost_row n)) (last_position n) ∙ cost_number n 1 low in
    let y = ap (route_number (places n) r) (opener_last n) in
    let four = ap (λ z. z *ℤ a (count n)) x ∙ ap (λ z. negsuc 0 *ℤ z) y in
    let five = less_one (cost_sum (places n) (visit_number r)) in
    costs_are n (stand_in n r) ∙ one ∙ two ∙ omega (arith, ints)
  where
    less_one : (z : ℤ) → z +ℤ (negsuc 0 *ℤ z) ≡ pos 0
    less_one z = let e = minus_times (pos 1) z in let f = *ℤ_comm (pos 1) z in omega (arith, ints, *ℤ-one z)

pub costed_entered : (n : Limits) (r : Route) (t : Rows) → length (places n) ≤ width t → AreBasic t → IsCosted n t → IsCosted n (entered (places n) r t)
costed_entered n r t le b c = record {
  zero_sum = λ x s.
      let w = width t in
      let u = stand_in n r in
      let e = c.zero_sum (folded n r w x) (solves_folded n r t w x (opening_within n w le) b refl s) in
      let f = costs_are n (folded n r w x) in
      let g = product_plus (cost_row n) x (λ j. x w *ℤ u j) in
      let h = product_scaled (cost_row n) (x w) u in
      let i = ap (λ z. x w *ℤ z) (sym (costs_are n u) ∙ stand_in_costs n r) in
      let j = *ℤ-zero (x w) in
      costs_are n x ∙ omega (arith, ints);
}

pub costed_run : (n : Limits) (may : Rows → Type 0) (routes : List Route) (made : ℕ) (t : Rows) → AreBasic (opening n)
    → MasterRun n may routes made t → IsCosted n t
costed_run n may _ _ _ b Opens = costed_opening n
costed_run n may _ _ _ b (Pivots {routes} {made} {t} {next} run p) =
    let basic = basic_run n may routes made t b run in
    let c = costed_run n may routes made t b run in
    record { zero_sum = λ x s. c.zero_sum x (solves_before t next x basic p s) }
costed_run n may _ _ _ b (Enters {routes} {made} {t} r run m) =
    let o = of_run n may routes made t (opening_within n (width (opening n)) (omega (arith, wide_opening n))) b run in
    costed_entered n r t (omega (arith, o.wide, wide_opening n)) o.basic (costed_run n may routes made t b run)
