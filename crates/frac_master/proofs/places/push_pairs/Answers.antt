use Rattle.std.proofs.Common.{◌++◌, ◌∙◌, ℕ, List, ap, sym, arith, map, append_assoc}
use Rattle.std.specs.Prelude.{flat_map}
use Rattle.std.specs.List.{range_with_len}
use Rattle.std.proofs.lemmas.Grind.{flat_map-append}
use Rattle.crew_terms.specs.Minutes.{required_teams}
use Rattle.frac_master.specs.Places.{both_of_pair}
use Rattle.frac_master.proofs.Ranges.{flat_more}
use Rattle.frac_master.proofs.places.push_pairs.Goals as goal

pub loop-j-preserved : goal.loop-j-preserved
loop-j-preserved c =
    let j = c.loop-j.j in
    let n = c.args.limits.now.limits in
    let old = c.args.places.now.items in
    let f : ℕ → List (ℕ × ℕ) = λ j. map (λ k. (k, j)) (required_teams n j) in
    let front = flat_map f (range_with_len 0 j) in
    let few = c.loop-j.invariant.few in
    let more = c.in_ok-push_pairs_of.ensures.few in
    record {
      places = c.in_ok-push_pairs_of.ensures.places ∙ ap (λ l. l ++ flat_map both_of_pair (f j)) c.loop-j.invariant.places
          ∙ append_assoc old (flat_map both_of_pair front) (flat_map both_of_pair (f j))
          ∙ ap (λ l. old ++ l) (sym (ap (flat_map both_of_pair) (flat_more f j) ∙ flat_map-append both_of_pair front (f j)));
      few = omega arith;
    }
