use Rattle.std.proofs.Common.{take, unsigned_abs}
use Rattle.std.specs.Fmt.{decimal}
use Rattle.std.specs.List.{flat_map}
use Rattle.crew_io.specs.Puts.{Puts}
use Rattle.crew_io.specs.Chains.{fine}
use Rattle.line_out.specs.Parts.{next_word}
use Rattle.cert_write.proofs.causes.put_open_parts.Given as goal

abbrev pub invariant-loop-parts : goal.invariant-loop-parts
invariant-loop-parts g l = Puts g.K.Sink (flat_map (λ z. next_word (decimal (unsigned_abs z))) (take l.parts-index l.left_open)) l.fn.out l.out fine
