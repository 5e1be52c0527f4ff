use Rattle.std.proofs.Common.{◌≡◌, map}
use Rattle.std.specs.List.{range_with_len}
use Rattle.squeeze_terms.specs.Run.{demand_minute}
use Rattle.price_run.proofs.evaluated.find_demands.Given as goal

abbrev pub invariant-loop-j : goal.invariant-loop-j
invariant-loop-j l = l.minutes.items ≡ map (demand_minute l.instance l.prices) (range_with_len 0 l.j)
