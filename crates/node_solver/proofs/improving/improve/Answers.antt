use Rattle.std.proofs.Common.{◌≡◌, pos, sym, ap, subst, ◌∙◌, w64}
use Rattle.std.specs.Prelude.{◌<ℤ◌, FitsSigned}
use Rattle.std.proofs.lemmas.Int.{to_z-of_z}
use Rattle.std.proofs.lemmas.Result.{on_ok_weaker}
use Rattle.crew_terms.specs.Leaf.{rewards, earned}
use Rattle.crew_terms.specs.Limits.{IsRoute}
use Rattle.route_terms.specs.Routes.{route_of}
use Rattle.search_terms.specs.Search.{IsColumn}
use Rattle.node_solver.proofs.Growing.{extends_none}
use Rattle.node_solver.proofs.MeetingLemmas.{duals_same, earning_column, met_by}
use Rattle.node_solver.proofs.improving.improve.Goals as goal

pub returns-then-is_met-clause-duals : goal.returns-then-is_met-clause-duals
returns-then-is_met-clause-duals g c = λ same. duals_same c.args.run.now.master

pub returns-then-is_met-clause-extends : goal.returns-then-is_met-clause-extends
returns-then-is_met-clause-extends g c = extends_none c.args.limits.now.limits (g.C.Columns.columns c.args.columns.now)

pub returns-then-is_met-clause-met : goal.returns-then-is_met-clause-met
returns-then-is_met-clause-met g c =
    let fits : FitsSigned w64 c.args.worth = c.ranges.worth in
    simp to_z-of_z at (c.is_met.ensures.met c.if-is_met.true)

pub enter-requires-clause-route : goal.enter-requires-clause-route
enter-requires-clause-route g c =
    let n = c.args.limits.now.limits in
    let fits : FitsSigned w64 c.args.worth = c.ranges.worth in
    let some : pos 0 <ℤ c.args.worth = simp to_z-of_z at (c.is_met.ensures.some c.if-is_met.false) in
    subst (λ visits. IsColumn n (route_of c.args.k visits)) (sym c.route.ensures)
    (earning_column n c.args.k c.args.prices.now c.args.worth c.price.result c.price.new.self.route c.requires.team
    some c.requires.worth c.price.ensures.worth c.price.ensures.route c.price.ensures.rewards)

pub returns-clause-met : goal.returns-clause-met
returns-clause-met g c =
    let n = c.args.limits.now.limits in
    let p = c.args.prices.now in
    let visits = c.route.result.now in
    let route : IsRoute n c.args.k visits = subst (IsRoute n c.args.k) (sym c.route.ensures) c.price.ensures.route in
    let earns : rewards (earned p c.args.k) visits ≡ c.price.result = ap (rewards (earned p c.args.k)) c.route.ensures ∙ c.price.ensures.rewards in
    on_ok_weaker c.enter.result
    (met_by n (g.C.Columns.columns c.enter.new.columns) c.args.k p c.args.worth c.price.result visits c.requires.team c.requires.worth c.price.ensures.worth route earns)
    c.enter.ensures.held
