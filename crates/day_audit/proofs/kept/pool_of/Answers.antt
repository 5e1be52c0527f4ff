use Rattle.std.proofs.Common.{◌<◌, ◌∙◌, length, take, subst, sym, arith}
use Rattle.std.proofs.lemmas.List.{take_all}
use Rattle.crew_terms.specs.Limits.{Route}
use Rattle.route_terms.specs.Routes.{route_of}
use Rattle.column_arena.specs.Columns.{FitsColumns, IsAdded, column_of}
use Rattle.day_audit.proofs.Pools.{fits_at, one_more}
use Rattle.day_audit.proofs.kept.pool_of.Goals as goal
use Rattle.day_audit.proofs.kept.pool_of.Goals.{After-columns-1}

-- the route may be a column
fits : (c : After-columns-1) → FitsColumns (route_of c.route-team.result.0 c.route-team.result.1.now)
fits c =
    let o = c.is_between.ensures.true_yes (c.is_between.ensures.ended.1 c.requires) in
    let n = c.pool_len-id-end.ensures o.0 o.1 in
    let b = c.loop-id-test.true in
    let l : c.loop-id.id < length o.0.pool = omega (arith, n, b) in
    subst FitsColumns (sym (c.route-team.ensures o.0 o.1)) (fits_at o.0 o.2.good c.loop-id.id l)

pub loop-id-init : goal.loop-id-init
loop-id-init c = λ d w g. c.new-columns.ensures

pub route-team-requires-clause-below : goal.route-team-requires-clause-below
route-team-requires-clause-below c = λ d w. let n = c.pool_len-id-end.ensures d w in let b = c.loop-id-test.true in omega (arith, n, b)

pub add-requires-clause-team : goal.add-requires-clause-team
add-requires-clause-team c = (fits c).team

pub add-requires-clause-some : goal.add-requires-clause-some
add-requires-clause-some c = (fits c).some

pub add-requires-clause-tasks : goal.add-requires-clause-tasks
add-requires-clause-tasks c = (fits c).tasks

pub loop-id-preserved : goal.loop-id-preserved
loop-id-preserved c = λ d w g.
    let n = c.pool_len-id-end.ensures d w in
    let b = c.loop-id-test.true in
    let l : c.loop-id.id < length d.pool = omega (arith, n, b) in
    let r : Route = route_of c.route-team.result.0 c.route-team.result.1.now in
    let id = c.in_ok-add.field-0 in
    let new = c.add.new.self in
    one_more d.pool c.loop-id.id id new g.differ l
    (subst (λ (x : Route). IsAdded (take c.loop-id.id d.pool) x id new) (c.route-team.ensures d w)
    (subst (λ cs. IsAdded cs r id new) (c.loop-id.invariant d w g) c.in_ok-add.ensures.added))

pub returns : goal.returns
returns c = λ d w g.
    let n = c.pool_len-id-end.ensures d w in
    let f = c.loop-id-test.false in
    c.loop-id.invariant d w g ∙ take_all c.loop-id.id d.pool (omega (arith, n, f))
