use Rattle.std.proofs.Common.{◌≡◌, ◌+ℤ◌, ◌∙◌, w64, rules}
use Rattle.std.specs.Prelude.{FitsSigned}
use Rattle.std.specs.Int.{w128}
use Rattle.std.proofs.lemmas.Int.{to_z-of_z}
use Rattle.minute_rules.proofs.Decided.{le_decides}
use Rattle.minute_rules.proofs.rules.is_enough.Goals as goal

pub returns : goal.returns
returns c =
    let reward : c.from.result ≡ c.args.reward = c.from.ensures ∙ to_z-of_z w64 c.args.reward c.ranges.reward in
    let most : c.from-2.result ≡ c.args.after = c.from-2.ensures ∙ to_z-of_z w64 c.args.after c.ranges.after in
    let potential : c.from-3.result ≡ c.args.potential = c.from-3.ensures ∙ to_z-of_z w64 c.args.potential c.ranges.potential in
    let reward_fits : FitsSigned w128 c.from.result = search rules in
    let most_fits : FitsSigned w128 c.from-2.result = search rules in
    let potential_fits : FitsSigned w128 c.from-3.result = search rules in
    let sum_fits : FitsSigned w128 (c.from.result +ℤ c.from-2.result) = search rules in
    simp to_z-of_z (rw (reward, most, potential) (le_decides (c.args.reward +ℤ c.args.after) c.args.potential))
