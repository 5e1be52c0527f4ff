use Rattle.std.proofs.Common.{◌≡◌, take, map}
use Rattle.std.specs.List.{join_with_byte}
use Rattle.crew_io.specs.Puts.{Puts}
use Rattle.crew_io.specs.Chains.{fine}
use Rattle.line_out.specs.Parts.{part_word}
use Rattle.line_out.proofs.Joined.{gap_after}
use Rattle.line_out.proofs.put_long.Given as goal

abbrev pub invariant-loop-part : goal.invariant-loop-part
invariant-loop-part g l = record {
  so_far : Puts g.K.Sink (join_with_byte 32 (map part_word (take l.part-index l.parts))) l.fn.out l.out fine;
  gap : l.before ≡ gap_after (map part_word (take l.part-index l.parts));
}
