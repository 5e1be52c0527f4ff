use Rattle.std.proofs.Common.{◌≡◌, ◌≤◌, ◌+◌, ◌++◌, length, map}
use Rattle.std.specs.List.{range_with_len}
use Rattle.search_terms.specs.declared.Place.TheVariants.{Unused}
use Rattle.frac_master.proofs.places.push_teams.Given as goal

abbrev pub invariant-loop-k : goal.invariant-loop-k
invariant-loop-k l = record {
  places : l.places.items ≡ l.initial.places.items ++ map Unused (range_with_len 0 l.k);
  few : length l.places.items ≤ length l.initial.places.items + l.k;
}
