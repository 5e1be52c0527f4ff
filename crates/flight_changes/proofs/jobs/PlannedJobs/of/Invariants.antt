use Rattle.std.proofs.Common.{◌≡◌}
use Rattle.std.specs.Prelude.{flat_map}
use Rattle.day_terms.specs.Faulty.{below}
use Rattle.flight_changes.specs.Named.{jobs_at}
use Rattle.flight_changes.proofs.jobs.PlannedJobs.of.Given as goal

abbrev pub invariant-loop-minute : goal.invariant-loop-minute
invariant-loop-minute l = l.jobs.items ≡ flat_map (jobs_at l.instance l.plan) (below l.minute)
