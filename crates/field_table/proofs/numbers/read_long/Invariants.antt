use Rattle.std.proofs.Common.{◌≡◌, ◌≤◌, take, true}
use Rattle.std.specs.Str.{all_ascii_digits}
use Rattle.field_table.proofs.Digits.{read_on}
use Rattle.field_table.proofs.numbers.read_long.Given as goal

abbrev pub invariant-loop-b : goal.invariant-loop-b
invariant-loop-b l = record {
  small : l.n ≤ l.most;
  value : read_on 0 (take l.b-index l.bytes) ≡ l.n;
  digits : all_ascii_digits (take l.b-index l.bytes) ≡ true;
}
