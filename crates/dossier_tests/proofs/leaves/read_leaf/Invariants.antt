use Rattle.leaf_check.specs.Reader.{IsReady}
use Rattle.dossier_tests.proofs.leaves.read_leaf.Given as goal

abbrev pub invariant-loop-n : goal.invariant-loop-n
invariant-loop-n l = IsReady l.limits.limits l.reader
