use Rattle.kept_rows.proofs.CommonFactor.{IsFactorTo}
use Rattle.kept_rows.proofs.factors.factor_of.Given as goal

abbrev pub invariant-loop-a : goal.invariant-loop-a
invariant-loop-a l = IsFactorTo l.row l.start l.a-index l.factor.value
