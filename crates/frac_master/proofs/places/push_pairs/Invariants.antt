use Rattle.std.proofs.Common.{◌≡◌, ◌≤◌, ◌+◌, ◌*◌, ◌++◌, length, map}
use Rattle.std.specs.Prelude.{flat_map}
use Rattle.std.specs.List.{range_with_len}
use Rattle.crew_terms.specs.Minutes.{required_teams}
use Rattle.frac_master.specs.Places.{both_of_pair}
use Rattle.frac_master.proofs.places.push_pairs.Given as goal

abbrev pub invariant-loop-j : goal.invariant-loop-j
invariant-loop-j l = record {
  places : l.places.items ≡ l.initial.places.items
      ++ flat_map both_of_pair (flat_map (λ j. map (λ k. (k, j)) (required_teams l.limits.limits j)) (range_with_len 0 l.j));
  few : length l.places.items ≤ length l.initial.places.items + 128 * l.j;
}
