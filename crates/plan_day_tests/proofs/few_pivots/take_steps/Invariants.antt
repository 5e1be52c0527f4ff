use Rattle.std.proofs.Common.{◌≡◌}
use Rattle.plan_day_tests.proofs.few_pivots.take_steps.Given as goal

abbrev pub invariant-loop-key : goal.invariant-loop-key
invariant-loop-key l = l.search.instance ≡ l.initial.search.instance

abbrev pub decreases-loop-key : goal.decreases-loop-key
decreases-loop-key l = l.search.left
