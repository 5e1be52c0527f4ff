use Rattle.std.proofs.Common.{◌<◌, length, subst, sym, ◌∙◌}
use Rattle.std.specs.List.{All}
use Rattle.crew_instance.proofs.GoodJobs.{teams_known}
use Rattle.crew_instance.proofs.jobs.fault_at.Goals as goal

pub fault_of_job-requires-clause-known : goal.fault_of_job-requires-clause-known
fault_of_job-requires-clause-known c =
    subst (All (λ k. k < length c.args.instance.now.teams)) (sym c.teams.ensures)
    (teams_known c.args.instance.now c.args.plan.now c.args.j c.in_ok-start.start c.requires.plan (sym c.start.ensures ∙ c.in_ok-start.was))
