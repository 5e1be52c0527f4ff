use Rattle.potentials.specs.Table.{IsTableOf}
use Rattle.node_tests.proofs.rules.table.Given as goal

abbrev pub invariant-loop-i : goal.invariant-loop-i
invariant-loop-i g l = IsTableOf l.instance l.table
