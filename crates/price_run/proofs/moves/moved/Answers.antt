use Rattle.std.proofs.Common.{◌≡◌, ◌∙◌, ◌+ℤ◌, ap, of_z, rules, to_z, w64}
use Rattle.std.specs.Int.{w128}
use Rattle.std.specs.Prelude.{FitsSigned}
use Rattle.std.proofs.lemmas.Int.{to_z-of_z}
use Rattle.squeeze_terms.specs.Run.{cut_off}
use Rattle.price_run.proofs.Sums.{price_and_change_fit}
use Rattle.price_run.proofs.moves.moved.Goals as goal

pub returns : goal.returns
returns c =
    let fits : FitsSigned w64 c.args.price = search rules in
    let moved_fits : FitsSigned w64 c.cut_at_limits.result = search rules in
    let from_fits : FitsSigned w128 c.from.result = search rules in
    let change_fits : FitsSigned w128 c.change.result = search rules in
    let price : c.from.result ≡ c.args.price = c.from.ensures ∙ to_z-of_z w64 c.args.price fits in
    let sum_fits : FitsSigned w128 (c.args.price +ℤ c.change.result) = price_and_change_fit c.args.price c.change.result fits c.change.ensures.range in
    to_z-of_z w64 c.cut_at_limits.result moved_fits
    ∙ c.cut_at_limits.ensures
    ∙ ap (λ p. cut_off (to_z w128 (of_z w128 (p +ℤ to_z w128 (of_z w128 c.change.result))))) (to_z-of_z w128 c.from.result from_fits ∙ price)
    ∙ ap (λ v. cut_off (to_z w128 (of_z w128 (c.args.price +ℤ v)))) (to_z-of_z w128 c.change.result change_fits)
    ∙ ap cut_off (to_z-of_z w128 (c.args.price +ℤ c.change.result) sum_fits)
    ∙ ap (λ v. cut_off (c.args.price +ℤ v)) c.change.ensures.change
