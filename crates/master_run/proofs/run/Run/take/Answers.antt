use Rattle.std.proofs.Common.{◌≡◌, ◌<◌, ◌++◌, ◌∷◌, [], All, sym, subst}
use Rattle.std.specs.Prelude.{IfErr, OnOk}
use Rattle.frac_master.specs.Adding.{HaveSameDuals}
use Rattle.master_run.specs.State.{RunState, routes_of}
use Rattle.master_run.specs.Along.{HaltsAfter, IsAtOptimum}
use Rattle.master_run.specs.Kept.{kept}
use Rattle.master_run.specs.declared.halt.Halt.TheVariants.{Overflow}
use Rattle.master_run.proofs.Pivoted.{along_taken, halts_taken, duals_taken}
use Rattle.master_run.proofs.run.Run.take.Goals as goal

pub returns-in-Done-clause-optimum : goal.returns-in-Done-clause-optimum
returns-in-Done-clause-optimum g c = λ n at.
    let cs = g.C.Columns.columns c.args.columns.now in
    let old = kept c.self.inside in
    let is : IsAtOptimum n cs old = subst (IsAtOptimum n cs) (sym c.self.view_is) at in
    let rising : All (λ other. other < c.args.id) old.master.columns =
    subst (λ (s : RunState). All (λ other. other < c.args.id) s.master.columns) (sym c.self.view_is) c.requires.rising in
    let led = c.in_ok-added.ensures.list n (routes_of cs old.ids) is.along.made is.along.follows is.done in
    c.pivot.ensures.optimum n cs
    (along_taken n cs old c.add_column.new.self c.args.id is c.team.result c.visits.result.now c.team.ensures c.visits.ensures
    c.in_ok-added.added c.push.new.self.items c.requires.known rising c.in-Done.is c.in_ok-push.ensures.items c.in_ok-added.ensures.adds led)

pub returns-in-Done-clause-halts : goal.returns-in-Done-clause-halts
returns-in-Done-clause-halts g c = λ n at.
    let cs = g.C.Columns.columns c.args.columns.now in
    let old = kept c.self.inside in
    let is : IsAtOptimum n cs old = subst (IsAtOptimum n cs) (sym c.self.view_is) at in
    let rising : All (λ other. other < c.args.id) old.master.columns =
    subst (λ (s : RunState). All (λ other. other < c.args.id) s.master.columns) (sym c.self.view_is) c.requires.rising in
    let led = c.in_ok-added.ensures.list n (routes_of cs old.ids) is.along.made is.along.follows is.done in
    let along = along_taken n cs old c.add_column.new.self c.args.id is c.team.result c.visits.result.now c.team.ensures c.visits.ensures
    c.in_ok-added.added c.push.new.self.items c.requires.known rising c.in-Done.is c.in_ok-push.ensures.items c.in_ok-added.ensures.adds led in
    subst (λ (s : RunState). IfErr c.pivot.result (HaltsAfter n s.pivots (routes_of cs (s.ids ++ c.args.id ∷ [])))) c.self.view_is
    (subst (λ ids. IfErr c.pivot.result (HaltsAfter n old.pivots (routes_of cs ids))) c.in_ok-push.ensures.items (c.pivot.ensures.halts n cs along))

pub returns-in-Done-clause-duals : goal.returns-in-Done-clause-duals
returns-in-Done-clause-duals g c = λ n at.
    let cs = g.C.Columns.columns c.args.columns.now in
    let old = kept c.self.inside in
    let is : IsAtOptimum n cs old = subst (IsAtOptimum n cs) (sym c.self.view_is) at in
    let rising : All (λ other. other < c.args.id) old.master.columns =
    subst (λ (s : RunState). All (λ other. other < c.args.id) s.master.columns) (sym c.self.view_is) c.requires.rising in
    let led = c.in_ok-added.ensures.list n (routes_of cs old.ids) is.along.made is.along.follows is.done in
    let along = along_taken n cs old c.add_column.new.self c.args.id is c.team.result c.visits.result.now c.team.ensures c.visits.ensures
    c.in_ok-added.added c.push.new.self.items c.requires.known rising c.in-Done.is c.in_ok-push.ensures.items c.in_ok-added.ensures.adds led in
    let entered : RunState = record { master = c.add_column.new.self; ids = c.push.new.self.items; pivots = old.pivots; left = old.left } in
    subst (λ (s : RunState). OnOk c.pivot.result (c.pivot.new.self.left ≡ s.left → HaveSameDuals s.master c.pivot.new.self.master)) c.self.view_is
    (duals_taken n cs old.master entered c.pivot.new.self old.left c.pivot.result (c.in_ok-added.ensures.duals c.in-Done.is) along.follows.places
    (c.pivot.ensures.optimum n cs along) c.pivot.ensures.same)

pub returns-in-Overflow-clause-halts : goal.returns-in-Overflow-clause-halts
returns-in-Overflow-clause-halts g c = λ n at.
    let cs = g.C.Columns.columns c.args.columns.now in
    let old = kept c.self.inside in
    let is : IsAtOptimum n cs old = subst (IsAtOptimum n cs) (sym c.self.view_is) at in
    let led = c.in_ok-added.ensures.list n (routes_of cs old.ids) is.along.made is.along.follows is.done in
    subst (λ (s : RunState). HaltsAfter n s.pivots (routes_of cs (s.ids ++ c.args.id ∷ [])) (Overflow c.in-Overflow.fault)) c.self.view_is
    (halts_taken n cs old c.add_column.new.self c.args.id is c.team.result c.visits.result.now c.team.ensures c.visits.ensures
    c.in_ok-added.added c.in-Overflow.fault c.in-Overflow.is led)
