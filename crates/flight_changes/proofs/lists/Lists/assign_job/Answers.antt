use Rattle.std.proofs.Common.{◌≡◌, true, Some, map, set, sym, ap, subst, ◌∙◌}
use Rattle.std.specs.Prelude.{All, bytes_eq, find, option_copied, option_map}
use Rattle.crew_instance.specs.Teams.{job_by}
use Rattle.day_terms.specs.Instances.{job_by_number, team_number}
use Rattle.day_terms.specs.State.{has_team}
use Rattle.day_terms.specs.Work.{is_job_of}
use Rattle.flight_changes.specs.Limits.{AreTeamsKnown}
use Rattle.flight_changes.proofs.NamedJobs.{found_passes, plan_at}
use Rattle.flight_changes.proofs.lists.Lists.assign_job.Goals as goal

pub team_numbers-requires : goal.team_numbers-requires
team_numbers-requires c =
    let s = c.args.self.now in
    let job = c.in-Some.job.now in
    let found = sym c.first_job_of.ensures ∙ ap option_copied c.in-Some.is in
    let known = found_passes (AreTeamsKnown s) (is_job_of c.task_name-task.result) c.args.jobs.now job c.requires.known found in
    subst (All (λ name. has_team s name ≡ true)) (sym c.teams.ensures) known

pub returns-in_ok-assign : goal.returns-in_ok-assign
returns-in_ok-assign c =
    let s = c.args.self.now in
    let jobs = c.args.jobs.now in
    let j = c.args.j in
    let job = c.in-Some.job.now in
    let found = sym c.first_job_of.ensures ∙ ap option_copied c.in-Some.is in
    let here = ap (λ name. find (λ job. bytes_eq name job.task) jobs) (sym c.task_name-task.ensures) ∙ found in
    let numbers = c.deref.ensures.value ∙ c.in_ok-teams.ensures ∙ ap (map (team_number s)) c.teams.ensures in
    let made = ap (λ start. Some (job_by start c.deref.result.now)) c.start.ensures ∙ ap (λ teams. Some (job_by job.start teams)) numbers in
    c.in_ok-assign.ensures.ok
    ∙ ap (λ o. set c.args.plan.now j o) (made ∙ sym (plan_at s jobs j c.requires.task ∙ ap (option_map (job_by_number s)) here))
