use Rattle.std.proofs.Common.{sym, ◌∙◌}
use Rattle.delay_command.proofs.dossier.read_end.Goals as goal

pub returns-in-Some-clause-answer : goal.returns-in-Some-clause-answer
returns-in-Some-clause-answer g c = (c.advance-progress.result, c.advance-progress.ensures.steps.advances c.requires, sym c.halt_behind.ensures ∙ c.in-Some.is)

pub returns-in-None-clause-answer : goal.returns-in-None-clause-answer
returns-in-None-clause-answer g c = (c.advance-progress.result, c.advance-progress.ensures.steps.advances c.requires, sym c.halt_behind.ensures ∙ c.in-None.is)
