use Rattle.std.proofs.Common.{◌≡◌, map}
use Rattle.std.specs.List.{range_with_len}
use Rattle.squeeze_terms.specs.Possible.{possible_minutes}
use Rattle.minute_prices.proofs.possible.PossibleMinutes.of.Given as goal

abbrev pub invariant-loop-j : goal.invariant-loop-j
invariant-loop-j l = l.tasks.items ≡ map (possible_minutes l.limits.limits.instance) (range_with_len 0 l.j)
