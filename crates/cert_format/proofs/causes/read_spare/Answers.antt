use Rattle.std.proofs.Common.{arith, rules, ◌∙◌}
use Rattle.std.specs.Int.{w128}
use Rattle.std.specs.Prelude.{FitsSigned}
use Rattle.std.proofs.lemmas.Int.{ints, to_z-of_z}
use Rattle.cert_format.specs.declared.kinds.Expect.TheVariants.{Spare}
use Rattle.cert_format.specs.declared.kinds.LineKind.TheVariants as kinds
use Rattle.cert_format.proofs.CauseLines.{spare_is, no_spare}
use Rattle.cert_format.proofs.Readings.{rest_read}
use Rattle.cert_format.proofs.causes.read_spare.Goals as goal

pub returns : goal.returns
returns c =
    let fit : FitsSigned w128 c.args.whole = search rules in
    let own = to_z-of_z w128 c.args.whole fit in
    let above = c.if-whole-lt0.false in
    let shape = c.if-not-has_shape.ensures in
    rest_read (Spare c.args.tasks c.args.whole) kinds.Spare c.args.words c.read_naturals.result _ _ c.read_naturals.ensures
    (λ shares spelled. spare_is c.args.whole c.past_parts.result c.args.tasks shares c.args.words (omega (arith, ints)) (λ w e. c.past_parts.ensures.whole w (own ∙ e)) shape spelled)
    (λ none. (shape, tt, no_spare c.args.whole c.past_parts.result c.args.tasks c.args.words (λ w e. c.past_parts.ensures.whole w (own ∙ e)) none))
