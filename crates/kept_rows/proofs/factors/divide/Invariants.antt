use Rattle.std.proofs.Common.{pos}
use Rattle.kept_rows.proofs.CommonFactor.{IsDividedTo}
use Rattle.kept_rows.proofs.factors.divide.Given as goal

abbrev pub invariant-loop-j : goal.invariant-loop-j
invariant-loop-j l = IsDividedTo (pos l.factor.value) l.fn.row l.row l.j
