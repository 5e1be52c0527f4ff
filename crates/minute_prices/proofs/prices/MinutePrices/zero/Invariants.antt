use Rattle.std.proofs.Common.{◌≡◌, map, replicate, pos}
use Rattle.std.specs.List.{range_with_len}
use Rattle.crew_terms.specs.Instance.{task_of}
use Rattle.squeeze_terms.specs.MinutePrices.{price_count}
use Rattle.minute_prices.proofs.prices.MinutePrices.zero.Given as goal

abbrev pub invariant-loop-j : goal.invariant-loop-j
invariant-loop-j l = l.prices ≡ map (λ j. replicate (price_count (task_of l.instance j)) (pos 0)) (range_with_len 0 l.j)
