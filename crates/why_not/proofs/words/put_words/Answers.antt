use Rattle.std.proofs.Common.{ℕ, List}
use Rattle.crew_io.specs.Chains.{puts_nothing, puts_same, puts_more, puts_more_front, puts_all}
use Rattle.line_out.specs.Parts.{next_word, part_word}
use Rattle.line_out.specs.declared.Part.{Part}
use Rattle.why_not.proofs.Texts.{words_of_each}
use Rattle.why_not.proofs.words.put_words.Goals as goal

abbrev one : Part → List ℕ
one part = next_word (part_word part)

pub loop-part-init : goal.loop-part-init
loop-part-init g c = puts_nothing g.K.Sink c.args.out.now

pub loop-part-preserved : goal.loop-part-preserved
loop-part-preserved g c =
    puts_more g.K.Sink one c.args.parts.now c.loop-part.part-index _ c.loop-part-test.true _ _ _ _ _ c.loop-part.invariant c.in_ok-put_next.ensures

pub returns-in_err-put_next : goal.returns-in_err-put_next
returns-in_err-put_next g c =
    puts_same g.K.Sink _ _ _ _ _ (words_of_each part_word c.args.parts.now)
    (puts_more_front g.K.Sink one c.args.parts.now c.loop-part.part-index _ c.loop-part-test.true _ _ _ _ _ c.from_residual.result c.from_residual.ensures.0
    c.loop-part.invariant c.in_err-put_next.ensures)

pub returns : goal.returns
returns g c =
    puts_same g.K.Sink _ _ _ _ _ (words_of_each part_word c.args.parts.now)
    (puts_all g.K.Sink one c.args.parts.now c.loop-part.part-index _ _ _ _ c.loop-part-test.false c.loop-part.invariant)
