use Rattle.std.proofs.Common.{take}
use Rattle.std.specs.List.{flat_map}
use Rattle.crew_io.specs.Puts.{Puts}
use Rattle.crew_io.specs.Chains.{fine}
use Rattle.line_out.specs.Parts.{next_word, part_word}
use Rattle.why_not.proofs.words.put_words.Given as goal

abbrev pub invariant-loop-part : goal.invariant-loop-part
invariant-loop-part g l = Puts g.K.Sink (flat_map (λ part. next_word (part_word part)) (take l.part-index l.parts)) l.fn.out l.out fine
