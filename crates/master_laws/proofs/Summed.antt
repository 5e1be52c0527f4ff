-- a vector that solves rows of a run solves the sums of the teams, the tasks and the required pairs
use Rattle.std.proofs.Common.{◌≡◌, ◌<◌, ◌+◌, ℕ, suc, List, [], ◌∷◌, ◌++◌, length, get_or, refl, ap, sym, arith, ◌∙◌, length-append}
use Rattle.std.specs.Prelude.{ℤ, pos, ◌+ℤ◌, ◌*ℤ◌}
use Rattle.std.proofs.Math.Seq.{get_or-append_seam}
use Rattle.std.proofs.lemmas.List.{get_or_append_left}
use Rattle.std.proofs.lemmas.Int.{ints}
use Rattle.std.proofs.Math.IntN.{*ℤ_comm, *ℤ-zero}
use Rattle.crew_terms.specs.Limits.{Limits, Route}
use Rattle.crew_terms.specs.Total.{total}
use Rattle.search_terms.specs.Rows.{Rows, number, row_of, width, product, IsSolution, AreBasic}
use Rattle.search_terms.specs.Opening.{places, openers, opener, basic_at, place_at, opening, opening_basis, basic_number, route_number, visit_number}
use Rattle.search_terms.specs.MasterRun.{MasterRun}
use Rattle.search_terms.specs.MasterRun.MasterRun.{Opens, Pivots, Enters}
use Rattle.crew_terms.specs.Totals.{total-same, total-zero}
use Rattle.master_laws.specs.Opening.{wide_opening}
use Rattle.master_laws.proofs.Solutions.{solves_before}
use Rattle.master_laws.proofs.Entering.{folded, stand_in, solves_folded, product_plus, product_scaled, product_spread, spike, spike-other}
use Rattle.master_laws.proofs.Runs.{of_run}
use Rattle.master_laws.proofs.Positions.{count, opener_basic, basic_position, opening_width, basic_at_number}
use Rattle.master_laws.proofs.Costs.{opening_within, basic_product, visit_row}
use Rattle.master_laws.proofs.Duals.{no_route}
use Rattle.master_laws.proofs.Numbers.{combined_opening}

-- what the opening row h says of the opening variables
abbrev pub of_places : Limits → (ℕ → ℤ) → ℕ → ℤ
of_places n x h = total (length (places n)) (λ j. basic_number n (basic_at (places n) h) (place_at (places n) j) *ℤ x j)

-- and of the routes
abbrev pub of_routes : Limits → List Route → (ℕ → ℤ) → ℕ → ℤ
of_routes n routes x h = total (length routes) (λ i. visit_number (get_or routes i no_route) (basic_at (places n) h) *ℤ x (length (places n) + i))

pub record IsSummed (n : Limits) (routes : List Route) (t : Rows) : Type 0 where
  pub each : (x : ℕ → ℤ) → IsSolution t x → (h : ℕ) → h < count n → of_places n x h +ℤ of_routes n routes x h ≡ pos 0

opening_product : (n : Limits) (x : ℕ → ℤ) (h : ℕ) → h < count n → product (row_of (opening n) h) x ≡ of_places n x h
opening_product n x h below =
    let w = length (places n) in
    let f : ℕ → ℤ = λ j. number (row_of (opening n) h) j *ℤ x j in
    let e = ap (λ k. total k f) (opening_width n h (omega arith)) in
    let g = total-same w f (λ j. basic_number n (basic_at (places n) h) (place_at (places n) j) *ℤ x j) (λ j known. ap (λ z. z *ℤ x j) (basic_at_number n h j below known)) in
    e ∙ g

stand_in_row : (n : Limits) (r : Route) (h : ℕ) → h < count n → product (row_of (opening n) h) (stand_in n r) ≡ visit_number r (basic_at (places n) h)
stand_in_row n r h below =
    let w = opening_within n (length (row_of (opening n) h)) (let q = opening_width n h (omega arith) in omega arith) in
    let a : ℕ → ℤ = λ i. route_number (places n) r (opener (places n) i) in
    product_spread (row_of (opening n) h) (length (openers (places n))) (λ i. get_or (opening_basis (places n)) i 0) a w.each
    ∙ combined_opening n a h (omega arith)
    ∙ ap (route_number (places n) r) (opener_basic n h below) ∙ visit_row n r (basic_at (places n) h) (basic_position n h below).passes

-- the route's stand-in has nothing at routes
stand_in_behind : (n : Limits) (r : Route) (i : ℕ) → stand_in n r (length (places n) + i) ≡ pos 0
stand_in_behind n r i =
    let w = opening_within n (length (places n)) (omega arith) in
    total-zero (length (openers (places n))) (λ h. spike (get_or (opening_basis (places n)) h 0) (route_number (places n) r (opener (places n) h)) (length (places n) + i))
    (λ h below. spike-other (get_or (opening_basis (places n)) h 0) (route_number (places n) r (opener (places n) h)) (length (places n) + i)
    (let lt = w.each h below in omega arith))

routes_folded : (n : Limits) (routes : List Route) (r : Route) (w : ℕ) (x : ℕ → ℤ) (h : ℕ) → w ≡ length (places n) + length routes
    → of_routes n (routes ++ r ∷ []) x h ≡ of_routes n routes (folded n r w x) h +ℤ (visit_number r (basic_at (places n) h) *ℤ x w)
routes_folded n routes r w x h e =
    let b = basic_at (places n) h in
    let l = length routes in
    let f : ℕ → ℤ = λ i. visit_number (get_or (routes ++ r ∷ []) i no_route) b *ℤ x (length (places n) + i) in
    let a : length (routes ++ r ∷ []) ≡ suc l = length-append routes (r ∷ []) ∙ omega arith in
    let c = ap (λ k. total k f) a in
    let d = total-same l f (λ i. visit_number (get_or routes i no_route) b *ℤ folded n r w x (length (places n) + i)) (λ i lt.
    let one = ap (λ q. visit_number q b *ℤ x (length (places n) + i)) (get_or_append_left routes (r ∷ []) no_route i lt) in
    let two : folded n r w x (length (places n) + i) ≡ x (length (places n) + i) =
    let z = ap (λ z. x w *ℤ z) (stand_in_behind n r i) ∙ *ℤ-zero (x w) in omega (arith, ints) in
    one ∙ ap (λ z. visit_number (get_or routes i no_route) b *ℤ z) (sym two)) in
    let g = ap (λ q. visit_number q b *ℤ x (length (places n) + l)) (get_or-append_seam routes r [] no_route) ∙ ap (λ k. visit_number r b *ℤ x k) (sym e) in
    omega (arith, ints)

pub summed_run : (n : Limits) (may : Rows → Type 0) (routes : List Route) (made : ℕ) (t : Rows) → AreBasic (opening n)
    → MasterRun n may routes made t → IsSummed n routes t
summed_run n may _ _ _ b Opens = record { each = λ x s h below. let e = basic_product n x h s below in omega (arith, ints) }
summed_run n may _ _ _ b (Pivots {routes} {made} {t} {next} run p) =
    let o = of_run n may routes made t (opening_within n (width (opening n)) (omega (arith, wide_opening n))) b run in
    let s = summed_run n may routes made t b run in
    record { each = λ x solves h below. s.each x (solves_before t next x o.basic p solves) h below }
summed_run n may _ _ _ b (Enters {routes} {made} {t} r run m) =
    let o = of_run n may routes made t (opening_within n (width (opening n)) (omega (arith, wide_opening n))) b run in
    let s = summed_run n may routes made t b run in
    let w = width t in
    let wide = o.wide in
    record {
      each = λ x solves h below.
          let y = folded n r w x in
          let row = row_of (opening n) h in
          let e = s.each y (solves_folded n r t w x (opening_within n w (omega (arith, wide_opening n))) o.basic refl solves) h below in
          let f = opening_product n y h below in
          let g = product_plus row x (λ j. x w *ℤ stand_in n r j) in
          let i = product_scaled row (x w) (stand_in n r) in
          let j = ap (λ z. x w *ℤ z) (stand_in_row n r h below) in
          let k = opening_product n x h below in
          let l = routes_folded n routes r w x h (omega (arith, wide_opening n)) in
          let c = *ℤ_comm (x w) (visit_number r (basic_at (places n) h)) in
          omega (arith, ints);
    }
