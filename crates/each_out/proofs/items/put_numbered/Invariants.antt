use Rattle.std.proofs.Common.{take}
use Rattle.std.specs.List.{flat_map, range_with_len}
use Rattle.crew_io.specs.Puts.{Puts}
use Rattle.crew_io.specs.Chains.{fine}
use Rattle.each_out.proofs.items.put_numbered.Given as goal

abbrev pub invariant-loop-k : goal.invariant-loop-k
invariant-loop-k g l = Puts g.K.Sink (flat_map (g.W.Writes.text l.writer) (take l.k-counter (range_with_len 0 l.n))) l.fn.out l.out fine
