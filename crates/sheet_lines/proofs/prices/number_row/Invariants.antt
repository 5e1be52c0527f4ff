use Rattle.std.proofs.Common.{◌≡◌, take}
use Rattle.sheet_lines.proofs.prices.number_row.Given as goal

abbrev pub invariant-loop-n : goal.invariant-loop-n
invariant-loop-n l = l.row.items ≡ take l.n l.numbers
