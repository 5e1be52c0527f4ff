use Rattle.std.proofs.Common.{◌≡◌, ◌≤◌, ◌+◌, take}
use Rattle.field_table.proofs.Digits.{read_on}
use Rattle.field_table.proofs.wide.value_up_to.Given as goal

abbrev pub invariant-loop-b : goal.invariant-loop-b
invariant-loop-b l = record {
  small : l.n ≤ l.most + 9;
  value : read_on 0 (take l.b-index l.digits) ≡ l.n;
}
