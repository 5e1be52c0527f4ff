use Rattle.std.proofs.Common.{◌≡◌, map}
use Rattle.std.specs.List.{range_with_len}
use Rattle.crew_terms.specs.Instance.{task_of}
use Rattle.squeeze_terms.specs.MinutePrices.{price_count}
use Rattle.squeeze_terms.specs.Run.{next_price}
use Rattle.price_run.proofs.moves.next_prices.Given as goal

abbrev pub invariant-loop-j : goal.invariant-loop-j
invariant-loop-j l = l.next ≡ map (λ j. map (next_price l.instance l.s l.prices l.routes j) (range_with_len 0 (price_count (task_of l.instance j)))) (range_with_len 0 l.j)
