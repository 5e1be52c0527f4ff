use Rattle.head_check.specs.Head.{Holds}
use Rattle.dossier_tests.proofs.heads.read_head.Given as goal

abbrev pub invariant-loop-n : goal.invariant-loop-n
invariant-loop-n l = Holds l.due
