use Rattle.std.proofs.Common.{◌≡◌, ◌≤◌, ◌+◌, ◌*◌, ◌++◌, length}
use Rattle.std.specs.Prelude.{flat_map}
use Rattle.std.specs.List.{range_with_len}
use Rattle.frac_master.specs.Places.{both_of_task}
use Rattle.frac_master.proofs.places.push_tasks.Given as goal

abbrev pub invariant-loop-j : goal.invariant-loop-j
invariant-loop-j l = record {
  places : l.places.items ≡ l.initial.places.items ++ flat_map both_of_task (range_with_len 0 l.j);
  few : length l.places.items ≤ length l.initial.places.items + 2 * l.j;
}
