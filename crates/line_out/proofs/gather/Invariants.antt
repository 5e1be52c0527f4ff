use Rattle.std.proofs.Common.{◌≡◌, ◌≤◌, ◌+◌, length, take, map}
use Rattle.std.specs.List.{join_with_byte}
use Rattle.line_out.specs.Parts.{part_word}
use Rattle.line_out.proofs.gather.Given as goal

abbrev pub invariant-loop-part : goal.invariant-loop-part
invariant-loop-part l = record {
  within : l.at ≤ length l.room;
  so_far : take l.at l.room ≡ join_with_byte 32 (map part_word (take (l.part-index + 1) l.fn.parts));
}
