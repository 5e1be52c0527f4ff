use Rattle.std.proofs.Common.{take}
use Rattle.std.specs.List.{enumerate_from, flat_map}
use Rattle.crew_io.specs.Puts.{Puts}
use Rattle.crew_io.specs.Chains.{fine}
use Rattle.sheet_write.proofs.Texts.{minutes_text}
use Rattle.sheet_write.proofs.prices.put_prices.Given as goal

abbrev pub invariant-loop-j : goal.invariant-loop-j
invariant-loop-j g l = Puts g.K.Sink (flat_map (minutes_text l.instance) (take l.j (enumerate_from 0 l.prices))) l.fn.out l.out fine
