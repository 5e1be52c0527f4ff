use Rattle.std.proofs.Common.{◌≡◌, [], pos, get_or, sym, ap, ◌∙◌, arith, rules}
use Rattle.std.specs.Int.{w128}
use Rattle.std.specs.Prelude.{FitsSigned, unsigned_abs}
use Rattle.std.proofs.lemmas.Int.{ints, to_z-of_z}
use Rattle.line_in.proofs.WideWords.{word_is, abs_of, sdec_vast, natural_fits}
use Rattle.line_in.proofs.wides.natural_at.Goals as goal

pub returns-in_default : goal.returns-in_default
returns-in_default c = λ k l e. c.in_default.ensures.exact (pos k) (natural_fits k l) (sym (word_is c.args.words.now c.args.n c.word.result.now c.word.ensures) ∙ e)

pub returns-then-z-lt0 : goal.returns-then-z-lt0
returns-then-z-lt0 c = λ k l e.
    let z = c.in-Some.z in
    let fit : FitsSigned w128 z = search rules in
    let own = to_z-of_z w128 z fit in
    let below = c.if-z-lt0.true in
    let word = word_is c.args.words.now c.args.n c.word.result.now c.word.ensures in
    let same : z ≡ pos k = sdec_vast z (pos k) fit (natural_fits k l) (sym c.in-Some.ensures.exact ∙ sym word ∙ e) in
    absurd (omega (arith, ints))

pub returns : goal.returns
returns c =
    let z = c.in-Some.z in
    let fit : FitsSigned w128 z = search rules in
    let own = to_z-of_z w128 z fit in
    let above = c.if-z-lt0.false in
    let word = word_is c.args.words.now c.args.n c.word.result.now c.word.ensures in
    abs_of z c.unsigned_abs.result (get_or c.args.words.now c.args.n []) fit (omega (arith, ints)) (c.unsigned_abs.ensures.value ∙ ap unsigned_abs own) (word ∙ c.in-Some.ensures.exact)
