use Rattle.std.proofs.Common.{ℕ, List, ap}
use Rattle.std.specs.Fmt.{decimal}
use Rattle.crew_io.specs.Chains.{puts_nothing, puts_same, puts_more, puts_more_front, puts_all}
use Rattle.line_out.specs.Parts.{next_word, part_word}
use Rattle.dossier_out.specs.Texts.{of_mapped}
use Rattle.dossier_out.proofs.words.put_numbers.Goals as goal

-- the word of one number
abbrev one : ℕ → List ℕ
one n = next_word (decimal n)

pub loop-n-init : goal.loop-n-init
loop-n-init g c = puts_nothing g.K.Sink c.args.out.now

pub loop-n-preserved : goal.loop-n-preserved
loop-n-preserved g c =
    puts_more g.K.Sink one c.args.numbers.now c.loop-n.n-index 0 c.loop-n-test.true _ _ _ _ _ c.loop-n.invariant
    (puts_same g.K.Sink _ _ _ _ _ (ap (λ p. next_word (part_word p)) c.number.ensures) c.in_ok-put_next.ensures)

pub returns-in_err-put_next : goal.returns-in_err-put_next
returns-in_err-put_next g c =
    puts_same g.K.Sink _ _ _ _ _ (of_mapped next_word decimal c.args.numbers.now)
    (puts_more_front g.K.Sink one c.args.numbers.now c.loop-n.n-index 0 c.loop-n-test.true _ _ _ _ _ c.from_residual.result c.from_residual.ensures.0 c.loop-n.invariant
    (puts_same g.K.Sink _ _ _ _ _ (ap (λ p. next_word (part_word p)) c.number.ensures) c.in_err-put_next.ensures))

pub returns : goal.returns
returns g c =
    puts_same g.K.Sink _ _ _ _ _ (of_mapped next_word decimal c.args.numbers.now)
    (puts_all g.K.Sink one c.args.numbers.now c.loop-n.n-index _ _ _ _ c.loop-n-test.false c.loop-n.invariant)
