use Rattle.crew_io.specs.Chains.{puts_then, puts_front, first_front}
use Rattle.line_out.specs.Parts.{part_word}
use Rattle.line_out.proofs.put_next.Goals as goal

pub returns-in_err-put_all : goal.returns-in_err-put_all
returns-in_err-put_all g c = puts_front g.K.Sink _ _ _ _ _ c.from_residual.result c.from_residual.ensures.0 c.in_err-put_all.ensures.puts (first_front _ (part_word c.args.part.now))

pub returns : goal.returns
returns g c = puts_then g.K.Sink _ _ _ _ _ _ _ c.in_ok-put_all.ensures.puts c.put_part.ensures
