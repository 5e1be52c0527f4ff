use Rattle.std.proofs.Common.{◌≡◌, ◌-◌, ◌++◌, drop}
use Rattle.day_gen.specs.Draws.{after}
use Rattle.day_gen.specs.Day.{travel_entries, ways}
use Rattle.day_gen.proofs.days.add_travels.Given as goal

abbrev pub invariant-loop-a : goal.invariant-loop-a
invariant-loop-a l = record {
  entries : l.fn.entries.items ++ travel_entries l.fn.generator ways ≡ l.entries.items ++ travel_entries l.generator (drop l.a-index ways);
  draws : after 15 l.fn.generator ≡ after (15 - l.a-index) l.generator;
}
