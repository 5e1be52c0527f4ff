use Rattle.std.proofs.Common.{◌≡◌, take}
use Rattle.line_in.proofs.shape.is_same.Given as goal

abbrev pub invariant-loop-i : goal.invariant-loop-i
invariant-loop-i l = take l.i l.word ≡ take l.i l.text
