use Rattle.kept_rows.proofs.Sparse.{CombinesTo}
use Rattle.kept_rows.proofs.columns.column_of.Given as goal

abbrev pub invariant-loop-h : goal.invariant-loop-h
invariant-loop-h l = CombinesTo l.numbers l.h l.at.items l.times.items
