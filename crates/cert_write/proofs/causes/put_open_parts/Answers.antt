use Rattle.std.proofs.Common.{ℕ, ℤ, pos, List, map, get_or, unsigned_abs, ap, rules, ◌∙◌}
use Rattle.std.specs.Int.{w128}
use Rattle.std.specs.Prelude.{FitsSigned}
use Rattle.std.proofs.lemmas.Int.{to_z-of_z}
use Rattle.std.specs.Fmt.{decimal}
use Rattle.crew_io.specs.Chains.{puts_nothing, puts_same, puts_more, puts_more_front, puts_all}
use Rattle.line_out.specs.Parts.{next_word}
use Rattle.dossier_out.specs.Texts.{of_mapped}
use Rattle.cert_write.proofs.causes.put_open_parts.Goals as goal

-- the word of one number
abbrev one : ℤ → List ℕ
one z = next_word (decimal (unsigned_abs z))

pub loop-parts-init : goal.loop-parts-init
loop-parts-init g c = puts_nothing g.K.Sink c.args.out.now

pub loop-parts-preserved : goal.loop-parts-preserved
loop-parts-preserved g c =
    puts_more g.K.Sink one c.args.left_open.now c.loop-parts.parts-index (pos 0) c.loop-parts-test.true _ _ _ _ _ c.loop-parts.invariant
    (let z = get_or c.args.left_open.now c.loop-parts.parts-index (pos 0) in
    let fits : FitsSigned w128 z = search rules in
    puts_same g.K.Sink _ _ _ _ _ (ap one (to_z-of_z w128 z fits)) c.in_ok-put_parts.ensures)

pub returns-in_err-put_parts : goal.returns-in_err-put_parts
returns-in_err-put_parts g c =
    puts_same g.K.Sink _ _ _ _ _ (of_mapped (λ z. next_word (decimal z)) unsigned_abs c.args.left_open.now ∙ of_mapped next_word decimal (map unsigned_abs c.args.left_open.now))
    (puts_more_front g.K.Sink one c.args.left_open.now c.loop-parts.parts-index (pos 0) c.loop-parts-test.true _ _ _ _ _ c.from_residual.result c.from_residual.ensures.0
    c.loop-parts.invariant
    (let z = get_or c.args.left_open.now c.loop-parts.parts-index (pos 0) in
    let fits : FitsSigned w128 z = search rules in
    puts_same g.K.Sink _ _ _ _ _ (ap one (to_z-of_z w128 z fits)) c.in_err-put_parts.ensures))

pub returns : goal.returns
returns g c =
    puts_same g.K.Sink _ _ _ _ _ (of_mapped (λ z. next_word (decimal z)) unsigned_abs c.args.left_open.now ∙ of_mapped next_word decimal (map unsigned_abs c.args.left_open.now))
    (puts_all g.K.Sink one c.args.left_open.now c.loop-parts.parts-index _ _ _ _ c.loop-parts-test.false c.loop-parts.invariant)
