use Rattle.field_table.proofs.Digits.{AreReadAs}
use Rattle.field_table.proofs.numbers.number_within.Given as goal

abbrev pub invariant-loop-count : goal.invariant-loop-count
invariant-loop-count l = AreReadAs l.bytes l.count l.value
