use Rattle.std.proofs.Common.{◌≡◌, ◌≤◌, ◌+◌, ◌*◌, ◌++◌, length, map, filter}
use Rattle.std.specs.Prelude.{flat_map}
use Rattle.std.specs.List.{range_with_len}
use Rattle.crew_terms.specs.Limits.{is_required, pair_of}
use Rattle.frac_master.specs.Places.{both_of_pair}
use Rattle.frac_master.proofs.places.push_pairs_of.Given as goal

abbrev pub invariant-loop-k : goal.invariant-loop-k
invariant-loop-k l = record {
  places : l.places.items ≡ l.initial.places.items
      ++ flat_map both_of_pair (map (λ k. (k, l.j)) (filter (λ k. is_required (pair_of l.limits.limits k l.j)) (range_with_len 0 l.k)));
  few : length l.places.items ≤ length l.initial.places.items + 2 * l.k;
}
