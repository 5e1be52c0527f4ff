use Rattle.std.proofs.Common.{◌≡◌, map, take}
use Rattle.search_core.specs.Ordered.{cause_with}
use Rattle.search_core.proofs.causes.in_order.Given as goal

abbrev pub invariant-loop-i : goal.invariant-loop-i
invariant-loop-i l = l.found.items ≡ map (cause_with l.causes) (take l.i l.numbers)
