use Rattle.std.proofs.Common.{take}
use Rattle.std.specs.List.{All}
use Rattle.crew_terms.specs.Legal.{IsFit}
use Rattle.crew_instance.proofs.jobs.fault_of_job.Given as goal

abbrev pub invariant-loop-k : goal.invariant-loop-k
invariant-loop-k l = All (IsFit l.instance l.j l.start) (take l.k-index l.teams)
