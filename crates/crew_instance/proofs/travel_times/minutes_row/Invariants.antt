use Rattle.std.proofs.Common.{◌≡◌, map}
use Rattle.std.specs.List.{range_with_len}
use Rattle.crew_instance.specs.Times.{minutes_of}
use Rattle.crew_instance.proofs.travel_times.minutes_row.Given as goal

abbrev pub invariant-loop-b : goal.invariant-loop-b
invariant-loop-b g l = l.row.items ≡ map (λ b. minutes_of (g.T.TravelTimes.times l.times) l.a b) (range_with_len 0 l.b)
