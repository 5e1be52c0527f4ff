use Rattle.std.proofs.Common.{take}
use Rattle.frac_master.specs.Shares.{IsCommonOf}
use Rattle.frac_master.proofs.shares.common_denominator.Given as goal

abbrev pub invariant-loop-j : goal.invariant-loop-j
invariant-loop-j l = IsCommonOf l.table.rows (take l.j-index l.at) l.den
