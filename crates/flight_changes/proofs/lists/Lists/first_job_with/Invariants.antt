use Rattle.std.proofs.Common.{◌≡◌, filter, take}
use Rattle.std.specs.Prelude.{option_copied}
use Rattle.day_terms.specs.Work.{first_by_task, needs_team}
use Rattle.flight_changes.proofs.lists.Lists.first_job_with.Given as goal

abbrev pub invariant-loop-job : goal.invariant-loop-job
invariant-loop-job l = option_copied l.first ≡ first_by_task l.self (filter (needs_team l.team) (take l.job-index l.jobs))
