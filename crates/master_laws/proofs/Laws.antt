-- the laws on runs, as the contracts say them
use Rattle.std.proofs.Common.{◌≡◌, ◌<◌, ℕ, List, length, get_or, ap, arith, ◌∙◌, subst, Contains}
use Rattle.std.specs.Prelude.{pos, ◌≤ℤ◌, ◌+ℤ◌, ◌*ℤ◌}
use Rattle.std.proofs.lemmas.List.{get_or_default}
use Rattle.crew_terms.specs.Limits.{Limits, Route}
use Rattle.search_terms.specs.Rows.{Rows, AreFeasible, HaveSameSolutions, value_row, width, number, last, row_of}
use Rattle.search_terms.specs.Opening.{dual_sum, opening, places, with_routes, openers, opener, opening_basis, entered, dual, times, cost}
use Rattle.search_terms.specs.Pivot.{IsBounding, IsImproving, IsOptimal}
use Rattle.search_terms.specs.MasterRun.{IsMasterRun, IsRunOver}
use Rattle.master_laws.proofs.Runs.{feasible_run, of_run}
use Rattle.master_laws.proofs.Unique.{basic_run, one_run}
use Rattle.master_laws.proofs.Costs.{costed_run, opening_within}
use Rattle.master_laws.proofs.Bounded.{some_row_bounds}
use Rattle.master_laws.proofs.Duals.{optimal_duals}
use Rattle.master_laws.proofs.Basic.{value_right}
use Rattle.master_laws.proofs.Entering.{number_entered, last_entered}
use Rattle.master_laws.proofs.Opened.{basic_opening, feasible_opening}
use Rattle.search_terms.specs.declared.TheConstants.{RIGHT, VALUE}
use Rattle.master_laws.specs.Opening.{wide_opening}

pub feasible_of : (n : Limits) (routes : List Route) (made : ℕ) (t : Rows) → IsMasterRun n routes made t → AreFeasible t
feasible_of n routes made t run = feasible_run n _ routes made t (feasible_opening n) run

pub solutions_of : (n : Limits) (routes : List Route) (made : ℕ) (t : Rows) → IsMasterRun n routes made t → HaveSameSolutions t (with_routes n routes)
solutions_of n routes made t run =
    let b = basic_opening n in
    (of_run n _ routes made t (opening_within n (width (opening n)) (omega (arith, wide_opening n))) b run).same

pub run_bounds : (n : Limits) (routes : List Route) (made v : ℕ) (t : Rows) → IsMasterRun n routes made t → IsImproving t v → ((h : ℕ) → IsBounding t v h → ⊥) → ⊥
run_bounds n routes made v t run i idle =
    let b = basic_opening n in
    some_row_bounds n t v (basic_run n _ routes made t b run) (costed_run n _ routes made t b run) i idle

pub duals_of : (n : Limits) (routes : List Route) (made : ℕ) (t : Rows) (r : Route) → IsMasterRun n routes made t → IsOptimal t → Contains routes r
    → dual_sum (places n) (value_row t) r ≤ℤ pos 0
duals_of n routes made t r run o held =
    let b = basic_opening n in
    let e = optimal_duals n _ routes made t b run o held.0 held.1 in
    subst (λ q. dual_sum (places n) (value_row t) q ≤ℤ pos 0) (get_or_default routes held.0 _ r held.1 ∙ held.2) e

pub run_is_one : (n : Limits) (routes : List Route) (made : ℕ) (t u : Rows) → IsRunOver n routes made t → IsRunOver n routes made u → t ≡ u
run_is_one n routes made t u a b = one_run n routes made t u (basic_opening n) a b

pub value_not_negative_of : (n : Limits) (routes : List Route) (made : ℕ) (t : Rows) → IsMasterRun n routes made t → pos 0 ≤ℤ number (value_row t) RIGHT
value_not_negative_of n routes made t run = value_right n t (feasible_of n routes made t run) (costed_run n _ routes made t (basic_opening n) run)

-- a route that enters changes no dual
pub duals_kept : (n : Limits) (routes : List Route) (made h : ℕ) (r : Route) (t : Rows) → IsMasterRun n routes made t → h < length (openers (places n))
    → dual (places n) (value_row (entered (places n) r t)) h ≡ dual (places n) (value_row t) h
duals_kept n routes made h r t run below =
    let b = basic_opening n in
    let basic = basic_run n _ routes made t b run in
    let o = of_run n _ routes made t (opening_within n (width (opening n)) (omega (arith, wide_opening n))) b run in
    let end : last t < length t.rows = omega (arith, basic.some) in
    let w = opening_within n (width t) (omega (arith, o.wide, wide_opening n)) in
    let e = ap (λ k. row_of (entered (places n) r t) k) (last_entered n r t) in
    let f = ap (λ row. dual (places n) row h) e in
    let one : VALUE < length (value_row t) = omega (arith, basic.known (last t) end, basic.value) in
    let x = number_entered n r t (last t) (get_or (opening_basis (places n)) h 0) end (w.each h below) in
    let y = ap (λ z. z *ℤ cost (opener (places n) h)) (number_entered n r t (last t) VALUE end one) in
    f ∙ ap (λ z. z +ℤ (number (row_of (entered (places n) r t) (last t)) VALUE *ℤ cost (opener (places n) h))) x
    ∙ ap (λ z. times (places n) (value_row t) h +ℤ z) y

pub openers_in : (n : Limits) (routes : List Route) (made h : ℕ) (t : Rows) → IsMasterRun n routes made t → h < length (openers (places n))
    → get_or (opening_basis (places n)) h 0 < width t
openers_in n routes made h t run below =
    let b = basic_opening n in
    let o = of_run n _ routes made t (opening_within n (width (opening n)) (omega (arith, wide_opening n))) b run in
    let w = opening_within n (width t) (omega (arith, o.wide, wide_opening n)) in
    w.each h below
