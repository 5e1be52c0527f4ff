use Rattle.std.proofs.Common.{◌≡◌, map}
use Rattle.std.specs.List.{range_with_len}
use Rattle.crew_instance.specs.Draft.{rows_of}
use Rattle.crew_instance.specs.Times.{minutes_from}
use Rattle.crew_instance.proofs.travel_times.minutes_rows.Given as goal

abbrev pub invariant-loop-a : goal.invariant-loop-a
invariant-loop-a g l = rows_of l.rows.items ≡ map (λ a. minutes_from (g.T.TravelTimes.times l.times) a) (range_with_len 0 l.a)
