use Rattle.std.proofs.Common.{take}
use Rattle.std.specs.Fmt.{signed_decimal}
use Rattle.std.specs.List.{flat_map}
use Rattle.crew_io.specs.Puts.{Puts}
use Rattle.crew_io.specs.Chains.{fine}
use Rattle.line_out.specs.Parts.{next_word}
use Rattle.sheet_write.proofs.prices.put_numbers.Given as goal

abbrev pub invariant-loop-v : goal.invariant-loop-v
invariant-loop-v g l = Puts g.K.Sink (flat_map (λ v. next_word (signed_decimal v)) (take l.v-index l.numbers)) l.fn.out l.out fine
