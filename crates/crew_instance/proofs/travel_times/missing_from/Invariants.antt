use Rattle.std.proofs.Common.{◌<◌, ℕ}
use Rattle.crew_instance.specs.Times.{IsMissing}
use Rattle.crew_instance.proofs.travel_times.missing_from.Given as goal

abbrev pub invariant-loop-to : goal.invariant-loop-to
invariant-loop-to g l = (y : ℕ) → y < l.to → ¬ (IsMissing (g.T.TravelTimes.times l.times) l.a y)
