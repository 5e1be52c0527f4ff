use Rattle.std.proofs.Common.{ap, sym}
use Rattle.crew_io.specs.Chains.{puts_then}
use Rattle.each_out.specs.Laws.{cut_first, puts_as}
use Rattle.day_explain.specs.Text.{apply_text}
use Rattle.day_explain.proofs.apply.put_apply.Goals as goal

pub returns-in_err-put_all : goal.returns-in_err-put_all
returns-in_err-put_all g c =
    puts_as g.K.Sink _ _ _ _ _ (cut_first g.K.Sink _ _ _ _ _ c.from_residual.result c.from_residual.ensures.0 c.in_err-put_all.ensures.puts) (sym (ap apply_text c.in-Some.is))

pub returns : goal.returns
returns g c = puts_as g.K.Sink _ _ _ _ _ (puts_then g.K.Sink _ _ _ _ _ _ _ c.in_ok-put_all.ensures.puts c.put_refused.ensures) (sym (ap apply_text c.in-Some.is))
