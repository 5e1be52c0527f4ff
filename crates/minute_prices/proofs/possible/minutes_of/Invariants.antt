use Rattle.std.proofs.Common.{◌≡◌, ◌-◌, filter}
use Rattle.std.specs.List.{range_with_len}
use Rattle.squeeze_terms.specs.Possible.{is_possible}
use Rattle.minute_prices.proofs.possible.minutes_of.Given as goal

abbrev pub invariant-loop-t : goal.invariant-loop-t
invariant-loop-t l = l.list.items ≡ filter (is_possible l.limits.limits l.j) (range_with_len l.task.earliest (l.t - l.task.earliest))
