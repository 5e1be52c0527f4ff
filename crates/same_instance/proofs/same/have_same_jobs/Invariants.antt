use Rattle.std.proofs.Common.{◌≡◌, ◌<◌, ℕ}
use Rattle.crew_terms.specs.Plan.{job_of}
use Rattle.same_instance.proofs.same.have_same_jobs.Given as goal

abbrev pub invariant-loop-j : goal.invariant-loop-j
invariant-loop-j l = (h : ℕ) → h < l.j → job_of l.a.frozen h ≡ job_of l.b.frozen h
