use Rattle.std.proofs.Common.{◌≡◌, ◌<◌, ℕ, None}
use Rattle.crew_terms.specs.Plan.{job_of}
use Rattle.cert_checker.proofs.rooms.is_unfrozen.Given as goal

abbrev pub invariant-loop-j : goal.invariant-loop-j
invariant-loop-j l = (i : ℕ) → i < l.j → job_of l.instance.frozen i ≡ None
