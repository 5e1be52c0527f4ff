use Rattle.std.proofs.Common.{◌≡◌, length, take}
use Rattle.head_check.specs.Numbers.{naturals}
use Rattle.head_check.proofs.numbers.number_list.Given as goal

abbrev pub invariant-loop-n : goal.invariant-loop-n
invariant-loop-n l = record {
  room : length l.list.items ≡ length l.numbers;
  front : take l.n l.list.items ≡ take l.n (naturals l.numbers);
}
