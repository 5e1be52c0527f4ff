use Rattle.crew_terms.specs.Legal.{IsLegal}
use Rattle.plan_again.proofs.repaired.with_last_jobs.Given as goal

abbrev pub invariant-loop-j : goal.invariant-loop-j
invariant-loop-j l = IsLegal l.instance l.plan
