use Rattle.std.proofs.Common.{◌+◌, ◌-◌, length}
use Rattle.field_table.proofs.Fronts.{IsCutIn}
use Rattle.field_table.proofs.cuts.cut_front.Given as goal

abbrev pub invariant-loop-from : goal.invariant-loop-from
invariant-loop-from l = IsCutIn l.line l.cuts l.count l.from

abbrev pub decreases-loop-from : goal.decreases-loop-from
decreases-loop-from l = length l.line + 1 - l.from
