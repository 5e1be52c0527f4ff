use Rattle.std.proofs.Common.{◌<◌, ◌-◌, arith, length, pos, subst}
use Rattle.std.specs.Prelude.{◌<ℤ◌}
use Rattle.search_terms.specs.Rows.{number, value_row}
use Rattle.search_terms.specs.declared.TheConstants.{VALUE}
use Rattle.master_laws.proofs.Losing.{are_near, loses_little}
use Rattle.master_laws.proofs.losses.rounding_loses_little.Goals as goal

pub returns : goal.returns
returns c = λ n routes made t prices worths run done legal rounded worth unbeaten.
    let d = c.duals_stand.ensures n t in
    let b = (c.run_keeps.ensures.feasible n routes made t run).basic in
    let end : length t.rows - 1 < length t.rows = omega (arith, b.some) in
    let up = subst (λ k. pos 0 <ℤ number (value_row t) k) b.value (b.positive (length t.rows - 1) end) in
    let u = c.optimal_prices.ensures n routes made t d.0 run done d.1 in
    let near = are_near c.places_are.ensures.tasks c.places_are.ensures.pairs n t prices d.0 up rounded d.1 u in
    loses_little n (number (value_row t) VALUE) _ prices d.0 routes worths near legal unbeaten (c.strong_duality.ensures n routes made t d.0 run done legal d.1)
