use Rattle.std.proofs.Common.{◌≡◌, ◌<◌, ℕ, get_or}
use Rattle.crew_terms.specs.Plan.{job_of}
use Rattle.part_match.proofs.jobs.has_same_jobs.Given as goal

abbrev pub invariant-loop-k : goal.invariant-loop-k
invariant-loop-k l = (h : ℕ) → h < l.k → job_of l.part.frozen h ≡ job_of l.whole.frozen (get_or l.tasks h 0)
