use Rattle.std.proofs.Common.{List, ap, get_or, rules, w64}
use Rattle.std.specs.Prelude.{FitsSigned, ℕ, ℤ, pos}
use Rattle.std.specs.Fmt.{signed_decimal}
use Rattle.std.proofs.lemmas.Int.{to_z-of_z}
use Rattle.crew_io.specs.Chains.{puts_nothing, puts_same, puts_more, puts_more_front, puts_all}
use Rattle.dossier_out.specs.Texts.{of_mapped}
use Rattle.line_out.specs.Parts.{next_word}
use Rattle.sheet_write.proofs.prices.put_numbers.Goals as goal

-- the word of one number
abbrev one : ℤ → List ℕ
one v = next_word (signed_decimal v)

pub loop-v-init : goal.loop-v-init
loop-v-init g c = puts_nothing g.K.Sink c.args.out.now

pub loop-v-preserved : goal.loop-v-preserved
loop-v-preserved g c =
    let fits : FitsSigned w64 (get_or c.args.numbers.now c.loop-v.v-index (pos 0)) = search rules in
    puts_more g.K.Sink one c.args.numbers.now c.loop-v.v-index (pos 0) c.loop-v-test.true _ _ _ _ _ c.loop-v.invariant
    (puts_same g.K.Sink _ _ _ _ _ (ap one (to_z-of_z w64 _ fits)) c.in_ok-put_next.ensures)

pub returns-in_err-put_next : goal.returns-in_err-put_next
returns-in_err-put_next g c =
    let fits : FitsSigned w64 (get_or c.args.numbers.now c.loop-v.v-index (pos 0)) = search rules in
    puts_same g.K.Sink _ _ _ _ _ (of_mapped next_word signed_decimal c.args.numbers.now)
    (puts_more_front g.K.Sink one c.args.numbers.now c.loop-v.v-index (pos 0) c.loop-v-test.true _ _ _ _ _ c.from_residual.result c.from_residual.ensures.0 c.loop-v.invariant
    (puts_same g.K.Sink _ _ _ _ _ (ap one (to_z-of_z w64 _ fits)) c.in_err-put_next.ensures))

pub returns : goal.returns
returns g c =
    puts_same g.K.Sink _ _ _ _ _ (of_mapped next_word signed_decimal c.args.numbers.now)
    (puts_all g.K.Sink one c.args.numbers.now c.loop-v.v-index _ _ _ _ c.loop-v-test.false c.loop-v.invariant)
