use Rattle.std.proofs.Common.{◌<◌, ◌≤◌, length, arith}
use Rattle.std.proofs.lemmas.List.Elements.{All-weaker}
use Rattle.crew_terms.specs.Limits.{tasks_in}
use Rattle.crew_terms.specs.declared.TheConstants.{MOST_TASKS}
use Rattle.crew_terms.specs.declared.Visit.{Visit}
use Rattle.route_terms.specs.Routes.{route_of}
use Rattle.master_run.specs.Legal.{tasks_known}
use Rattle.master_run.proofs.Over.{at_more, over_more, halts_more, team_stands}
use Rattle.master_run.proofs.run.Run.enter.Goals as goal

pub add-requires-clause-tasks : goal.add-requires-clause-tasks
add-requires-clause-tasks g c =
    let n = c.args.limits.now.limits in
    let few : tasks_in n ≤ MOST_TASKS = c.instance.ensures.is_instance.parts.few_tasks in
    All-weaker (λ (v : Visit). v.task < tasks_in n) (λ (v : Visit). v.task < MOST_TASKS) (λ v below. omega arith) c.args.visits.now
    (tasks_known n c.args.team c.args.visits.now c.requires.route.legal.route)

pub take-requires-clause-team : goal.take-requires-clause-team
take-requires-clause-team g c =
    let n = c.args.limits.now.limits in
    let cs = g.C.Columns.columns c.args.columns.now in
    let past : length cs ≤ c.in_ok-id.id = omega (arith, c.len-held.ensures.count, c.if-id-held.false) in
    team_stands n cs (g.C.Columns.columns c.add.new.self) (route_of c.args.team c.args.visits.now) c.in_ok-id.id c.args.self.now
    c.requires.over c.requires.route c.in_ok-id.ensures.added past (λ k. (c.places_are.ensures.teams n k).1)

pub returns-clause-over : goal.returns-clause-over
returns-clause-over g c =
    let n = c.args.limits.now.limits in
    let cs = g.C.Columns.columns c.args.columns.now in
    let more = g.C.Columns.columns c.add.new.self in
    let r = route_of c.args.team c.args.visits.now in
    let past : length cs ≤ c.in_ok-id.id = omega (arith, c.len-held.ensures.count, c.if-id-held.false) in
    let at = at_more n cs more r c.in_ok-id.id c.args.self.now c.requires.over c.requires.route c.in_ok-id.ensures.added past in
    over_more n cs more r c.in_ok-id.id c.args.self.now c.requires.over c.requires.route c.in_ok-id.ensures.added past
    c.take.new.self c.take.result c.take.ensures.ids (c.take.ensures.optimum n at)

pub returns-clause-duals : goal.returns-clause-duals
returns-clause-duals g c =
    let n = c.args.limits.now.limits in
    let cs = g.C.Columns.columns c.args.columns.now in
    let past : length cs ≤ c.in_ok-id.id = omega (arith, c.len-held.ensures.count, c.if-id-held.false) in
    c.take.ensures.duals n (at_more n cs (g.C.Columns.columns c.add.new.self) (route_of c.args.team c.args.visits.now) c.in_ok-id.id c.args.self.now
    c.requires.over c.requires.route c.in_ok-id.ensures.added past)

pub returns-clause-halts : goal.returns-clause-halts
returns-clause-halts g c =
    let n = c.args.limits.now.limits in
    let cs = g.C.Columns.columns c.args.columns.now in
    let more = g.C.Columns.columns c.add.new.self in
    let r = route_of c.args.team c.args.visits.now in
    let past : length cs ≤ c.in_ok-id.id = omega (arith, c.len-held.ensures.count, c.if-id-held.false) in
    let at = at_more n cs more r c.in_ok-id.id c.args.self.now c.requires.over c.requires.route c.in_ok-id.ensures.added past in
    halts_more n cs more r c.in_ok-id.id c.args.self.now c.requires.over c.requires.route c.in_ok-id.ensures.added past
    c.take.result (c.take.ensures.halts n at)
