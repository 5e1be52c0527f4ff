use Rattle.std.proofs.Common.{sym, ◌∙◌}
use Rattle.sheet_commands.proofs.LineByLine.{no_none, stop_refuses}
use Rattle.sheet_commands.proofs.input.outcome_at_stop.Goals as goal

pub returns-in-Some-No : goal.returns-in-Some-No
returns-in-Some-No c = stop_refuses c.args.checker.now c.stopped.new.self c.args.progress c.in-Some.why c.in-Some-No.line c.in-Some-No.reason (sym c.stop_of.ensures ∙ c.in-Some.is)
    (λ ended is. no_none c.in-Some-No.field-0 (sym c.in-Some-No.is ∙ c.stopped.ensures.over.1 (ended, is)))
    c.in-Some-No.ensures.refused.1 (sym c.in-Some-No.field-0-is ∙ c.in-Some-No.ensures.refused.0)
