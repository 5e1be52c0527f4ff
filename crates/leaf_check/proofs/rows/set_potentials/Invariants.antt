use Rattle.leaf_check.proofs.Tabled.{RowGiven}
use Rattle.leaf_check.proofs.rows.set_potentials.Given as goal

abbrev pub invariant-loop-m : goal.invariant-loop-m
invariant-loop-m l = RowGiven l.fn.table l.table l.j l.first l.m l.given
