use Rattle.std.proofs.Common.{◌++◌, take, ap, sym, ◌∙◌}
use Rattle.std.proofs.lemmas.Fmt.{decimal_digit}
use Rattle.line_out.proofs.add_number.Goals as goal

pub returns-then-number-lt10-clause-added : goal.returns-then-number-lt10-clause-added
returns-then-number-lt10-clause-added c = c.add_bytes.ensures.added ∙ ap (λ word. take c.args.at c.args.room.now ++ word) (sym (decimal_digit c.args.number c.if-number-lt10.true))
