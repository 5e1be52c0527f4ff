use Rattle.std.proofs.Common.{◌≤◌, length}
use Rattle.field_table.proofs.Digits.{AreReadAs}
use Rattle.field_table.proofs.numbers.short_number.Given as goal

abbrev pub invariant-loop-count : goal.invariant-loop-count
invariant-loop-count l = record {
  within : l.count ≤ length l.bytes;
  read : AreReadAs l.bytes l.count l.value;
}
