use Rattle.std.proofs.Common.{subst, take_all}
use Rattle.std.specs.List.{All}
use Rattle.std.proofs.lemmas.List.Elements.{All-more}
use Rattle.crew_terms.specs.Plan.{Job}
use Rattle.crew_terms.specs.Legal.{IsFit}
use Rattle.crew_instance.proofs.GoodJobs.{good_job, team_fault, window_decides, list_decides}
use Rattle.crew_instance.proofs.jobs.fault_of_job.Goals as goal

pub returns-in-Some : goal.returns-in-Some
returns-in-Some c =
    let job : Job = record { start = c.args.start; teams = c.args.teams.now } in
    let window = (window_decides c.args.instance.now c.args.j job c.task-task.result.now c.is_in_window.result c.task-task.ensures.task c.is_in_window.ensures).0 c.if-not-is_in_window.false in
    let list = (list_decides c.args.instance.now c.args.j job c.task-task.result.now c.is_team_list.result c.task-task.ensures.task c.is_team_list.ensures).0 c.if-not-is_team_list.false in
    team_fault c.args.instance.now c.args.j job c.in-Some.fault c.loop-k.k-index window list c.loop-k-test.true c.loop-k.invariant c.in-Some.ensures

pub loop-k-preserved : goal.loop-k-preserved
loop-k-preserved c = All-more (IsFit c.args.instance.now c.args.j c.args.start) c.args.teams.now c.loop-k.k-index 0 c.loop-k-test.true c.loop-k.invariant c.in_default.ensures

pub returns : goal.returns
returns c =
    let job : Job = record { start = c.args.start; teams = c.args.teams.now } in
    let window = (window_decides c.args.instance.now c.args.j job c.task-task.result.now c.is_in_window.result c.task-task.ensures.task c.is_in_window.ensures).0 c.if-not-is_in_window.false in
    let list = (list_decides c.args.instance.now c.args.j job c.task-task.result.now c.is_team_list.result c.task-task.ensures.task c.is_team_list.ensures).0 c.if-not-is_team_list.false in
    good_job c.args.instance.now c.args.j job window list c.requires.known
    (subst (All (IsFit c.args.instance.now c.args.j c.args.start)) (take_all c.loop-k.k-index c.args.teams.now c.loop-k-test.false) c.loop-k.invariant)
