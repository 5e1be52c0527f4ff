use Rattle.std.proofs.Common.{◌≡◌, ◌-◌, ◌++◌}
use Rattle.day_gen.specs.Day.{place_entries}
use Rattle.day_gen.proofs.days.add_places.Given as goal

abbrev pub invariant-loop-n : goal.invariant-loop-n
invariant-loop-n l = l.fn.entries.items ++ place_entries 0 6 ≡ l.entries.items ++ place_entries l.n (6 - l.n)
