use Rattle.part_make.proofs.CutJobs.{AreCut}
use Rattle.part_make.proofs.jobs.frozen_of.Given as goal

abbrev pub invariant-loop-k : goal.invariant-loop-k
invariant-loop-k l = AreCut l.whole.frozen l.tasks l.k l.plan
