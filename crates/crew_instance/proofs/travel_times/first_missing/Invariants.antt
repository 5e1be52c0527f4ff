use Rattle.std.proofs.Common.{◌<◌, ℕ}
use Rattle.crew_instance.specs.Times.{IsMissing}
use Rattle.crew_instance.proofs.travel_times.first_missing.Given as goal

abbrev pub invariant-loop-from : goal.invariant-loop-from
invariant-loop-from g l = (x y : ℕ) → x < l.from → ¬ (IsMissing (g.T.TravelTimes.times l.times) x y)
