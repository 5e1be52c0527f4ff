use Rattle.crew_terms.specs.Verdict.{AreJobsBelow}
use Rattle.crew_instance.proofs.jobs.fault_of_jobs.Given as goal

abbrev pub invariant-loop-j : goal.invariant-loop-j
invariant-loop-j l = AreJobsBelow l.instance l.plan l.j
