use Rattle.std.proofs.Common.{◌≡◌, ◌<◌, ◌≤◌, [], length, map, arith, sym, ap, subst, ◌∙◌}
use Rattle.std.proofs.lemmas.List.{get_or_default, length-map, take_all}
use Rattle.crew_terms.specs.Limits.{Route}
use Rattle.route_terms.specs.Kept.{AreKeptIn, IsKeptAs}
use Rattle.route_terms.specs.Kept.AreKeptIn.{None}
use Rattle.route_terms.specs.Named.{route_named}
use Rattle.column_arena.specs.Carried.{TwoNames}
use Rattle.route_terms.specs.Routes.{route_of}
use Rattle.column_arena.specs.Columns.{IsAdded, column_of, no_column}
use Rattle.column_arena.proofs.Carrying.{kept_added, kept_skip, named_at, none_placed, on_err, some_visits}
use Rattle.column_arena.proofs.Renumbering.{task_names_apart, team_names_apart}
use Rattle.column_arena.proofs.carry.Carry.place.Goals as goal

pub returns-in_err-team_names-clause-err : goal.returns-in_err-team_names-clause-err
returns-in_err-team_names-clause-err g c = on_err c.from_residual.result (none_placed _ _ _ c.requires)

pub new-requires-clause-apart : goal.new-requires-clause-apart
new-requires-clause-apart g c =
    rw (c.deref-2.ensures.value, c.in_ok-team_names.ensures, c.instance-instance.ensures.instance) (team_names_apart _ c.instance-instance.ensures.is_instance)

pub returns-in_err-teams-clause-err : goal.returns-in_err-teams-clause-err
returns-in_err-teams-clause-err g c = on_err c.from_residual-in_err-teams.result (none_placed _ _ _ c.requires)

pub returns-in_err-task_names-clause-err : goal.returns-in_err-task_names-clause-err
returns-in_err-task_names-clause-err g c = on_err c.from_residual-in_err-task_names.result (none_placed _ _ _ c.requires)

pub new-requires-2-clause-apart : goal.new-requires-2-clause-apart
new-requires-2-clause-apart g c =
    rw (c.deref-4.ensures.value, c.in_ok-task_names.ensures, c.instance-instance.ensures.instance) (task_names_apart _ c.instance-instance.ensures.is_instance)

pub returns-in_err-tasks-clause-err : goal.returns-in_err-tasks-clause-err
returns-in_err-tasks-clause-err g c = on_err c.from_residual-in_err-tasks.result (none_placed _ _ _ c.requires)

pub loop-id-init : goal.loop-id-init
loop-id-init g c = subst (AreKeptIn c.args.limits.now.limits []) (sym c.requires) None

pub loop-id-preserved-in_default : goal.loop-id-preserved-in_default
loop-id-preserved-in_default g c =
    let n = c.args.limits.now.limits in
    let ts = c.self.inside.teams.items in
    let js = c.self.inside.tasks.items in
    let rs = c.self.inside.routes.items in
    let carried = map (route_named ts js) rs in
    let id = c.loop-id.id in
    let below : id < length rs = let ok = c.self.inside.routes.ok in omega arith in
    let under : id < length carried = omega (arith, length-map rs (route_named ts js)) in
    let named = named_at ts js rs id c.in_ok-teams.teams c.in_ok-tasks.tasks c.index.result.now below
    (ap (λ (names : TwoNames). names.old) c.in_ok-teams.ensures ∙ c.deref.ensures.value)
    (ap (λ (names : TwoNames). names.old) c.in_ok-tasks.ensures ∙ c.deref-3.ensures.value) c.index.ensures in
    kept_skip n carried id under _ c.loop-id.invariant
    (λ r is. (rw c.in_default.is at c.in_ok-route.ensures) r (subst (λ name. IsKeptAs n name r) (sym named) is))

pub add-requires-clause-some : goal.add-requires-clause-some
add-requires-clause-some g c =
    let rs = c.self.inside.routes.items in
    let below : c.loop-id.id < length rs = let ok = c.self.inside.routes.ok in omega arith in
    let at : c.index.result.now ≡ column_of rs c.loop-id.id = c.index.ensures ∙ get_or_default rs c.loop-id.id c.index.result.now no_column below in
    let some : 0 < length c.index.result.now.visits = subst (λ (r : Route). 0 < length r.visits) (sym at) (c.self.invariant.each c.loop-id.id no_column below).some in
    subst (λ vs. 0 < length vs) (sym c.visits.ensures)
    (some_visits c.args.limits.now.limits c.in_ok-teams.teams.old c.in_ok-tasks.tasks.old c.index.result.now c.in-Some.route some (rw c.in-Some.is at c.in_ok-route.ensures))

pub loop-id-preserved : goal.loop-id-preserved
loop-id-preserved g c =
    let n = c.args.limits.now.limits in
    let ts = c.self.inside.teams.items in
    let js = c.self.inside.tasks.items in
    let rs = c.self.inside.routes.items in
    let carried = map (route_named ts js) rs in
    let id = c.loop-id.id in
    let below : id < length rs = let ok = c.self.inside.routes.ok in omega arith in
    let under : id < length carried = omega (arith, length-map rs (route_named ts js)) in
    let named = named_at ts js rs id c.in_ok-teams.teams c.in_ok-tasks.tasks c.index.result.now below
    (ap (λ (names : TwoNames). names.old) c.in_ok-teams.ensures ∙ c.deref.ensures.value)
    (ap (λ (names : TwoNames). names.old) c.in_ok-tasks.ensures ∙ c.deref-3.ensures.value) c.index.ensures in
    let s = c.in-Some.route in
    let is = rw c.in-Some.is at c.in_ok-route.ensures in
    let same : route_of c.team.result c.visits.result.now ≡ s = ap (λ k. route_of k c.visits.result.now) c.team.ensures ∙ ap (route_of s.team) c.visits.ensures in
    kept_added n carried id under _ c.loop-id.invariant s _ c.in_ok-add.field-0 c.self.invariant.apart (subst (λ name. IsKeptAs n name s) named is)
    (subst (λ s. IsAdded (g.C.Columns.columns c.loop-id.columns) s c.in_ok-add.field-0 (g.C.Columns.columns c.add.new.self)) same c.in_ok-add.ensures.added)

pub returns-clause-kept : goal.returns-clause-kept
returns-clause-kept g c =
    let n = c.args.limits.now.limits in
    let ts = c.self.inside.teams.items in
    let js = c.self.inside.tasks.items in
    let rs = c.self.inside.routes.items in
    let carried = map (route_named ts js) rs in
    let past : length carried ≤ c.loop-id.id = let ok = c.self.inside.routes.ok in omega (arith, length-map rs (route_named ts js)) in
    subst (λ names. AreKeptIn n names (g.C.Columns.columns c.loop-id.columns)) (take_all c.loop-id.id carried past ∙ c.self.view_is) c.loop-id.invariant
