use Rattle.std.proofs.Common.{take}
use Rattle.std.specs.Fmt.{signed_decimal}
use Rattle.std.specs.List.{flat_map}
use Rattle.crew_io.specs.Puts.{Puts}
use Rattle.crew_io.specs.Chains.{fine}
use Rattle.line_out.specs.Parts.{next_word}
use Rattle.cert_write.proofs.leaf.put_prices.Given as goal

abbrev pub invariant-loop-j : goal.invariant-loop-j
invariant-loop-j g l = Puts g.K.Sink (flat_map (λ v. next_word (signed_decimal v)) (take l.j l.prices.pi)) l.fn.out l.out fine
