use Rattle.std.proofs.Common.{◌≡◌, ◌≤◌, ◌+◌, ◌++◌, length, map, filter, not}
use Rattle.std.specs.List.{range_with_len}
use Rattle.crew_terms.specs.Limits.{has_required}
use Rattle.search_terms.specs.declared.Place.TheVariants.{Unassigned}
use Rattle.frac_master.proofs.places.push_open_tasks.Given as goal

abbrev pub invariant-loop-j : goal.invariant-loop-j
invariant-loop-j l = record {
  places : l.places.items ≡ l.initial.places.items ++ map Unassigned (filter (λ j. not (has_required l.limits.limits j)) (range_with_len 0 l.j));
  few : length l.places.items ≤ length l.initial.places.items + l.j;
}
