use Rattle.std.proofs.Common.{◌∷◌, [], ap}
use Rattle.std.specs.Prelude.{codes}
use Rattle.crew_io.specs.Chains.{puts_then, puts_front, puts_same}
use Rattle.crew_terms.specs.Words.{line_text}
use Rattle.line_out.specs.Parts.{part_word}
use Rattle.sheet_write.specs.Given.{given}
use Rattle.sheet_write.proofs.Whole.{head_front_1, head_front_2, head_front_3, head_text}
use Rattle.sheet_write.proofs.sheet.put_head.Goals as goal

pub returns-in_err-put_line : goal.returns-in_err-put_line
returns-in_err-put_line g c =
    puts_front g.K.Sink _ _ _ _ _ c.from_residual.result c.from_residual.ensures.0 c.in_err-put_line.ensures (head_front_1 (given c.args.parts.now))

pub returns-in_err-write_instance : goal.returns-in_err-write_instance
returns-in_err-write_instance g c =
    puts_front g.K.Sink _ _ _ _ _ c.from_residual-in_err-write_instance.result c.from_residual-in_err-write_instance.ensures.0
    (puts_then g.K.Sink _ _ _ _ _ _ _ c.in_ok-put_line.ensures c.in_err-write_instance.ensures) (head_front_2 (given c.args.parts.now))

pub returns-in_err-put_frozen : goal.returns-in_err-put_frozen
returns-in_err-put_frozen g c =
    puts_front g.K.Sink _ _ _ _ _ c.from_residual-in_err-put_frozen.result c.from_residual-in_err-put_frozen.ensures.0
    (puts_then g.K.Sink _ _ _ _ _ _ _ (puts_then g.K.Sink _ _ _ _ _ _ _ c.in_ok-put_line.ensures c.in_ok-write_instance.ensures) c.in_err-put_frozen.ensures)
    (head_front_3 (given c.args.parts.now))

pub returns : goal.returns
returns g c =
    puts_same g.K.Sink _ _ _ _ _ (head_text (given c.args.parts.now))
    (puts_then g.K.Sink _ _ _ _ _ _ _
    (puts_then g.K.Sink _ _ _ _ _ _ _ (puts_then g.K.Sink _ _ _ _ _ _ _ c.in_ok-put_line.ensures c.in_ok-write_instance.ensures) c.in_ok-put_frozen.ensures)
    (puts_same g.K.Sink _ _ _ _ _ (ap (λ p. line_text (codes "bound" ∷ part_word p ∷ [])) c.number.ensures) c.put_line-2.ensures))
