use Rattle.std.proofs.Common.{◌≡◌, ◌++◌}
use Rattle.std.specs.Prelude.{flat_map}
use Rattle.crew_terms.specs.Plan.{job_of}
use Rattle.day_terms.specs.Faulty.{below}
use Rattle.day_terms.specs.Work.{named_at}
use Rattle.flight_changes.proofs.jobs.add_jobs_at.Given as goal

abbrev pub invariant-loop-j : goal.invariant-loop-j
invariant-loop-j l = l.jobs.items ≡ l.initial.jobs.items ++ flat_map (λ j. named_at l.instance l.minute j (job_of l.plan j)) (below l.j)
