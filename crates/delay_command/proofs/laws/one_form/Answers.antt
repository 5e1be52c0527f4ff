use Rattle.delay_command.proofs.Forms.{form_once, text_once}
use Rattle.delay_command.proofs.laws.one_form.Goals as goal

pub returns-clause-form : goal.returns-clause-form
returns-clause-form c = form_once c.one_front.ensures c.one_text.ensures.one

pub returns-clause-text : goal.returns-clause-text
returns-clause-text c = text_once c.waits_are_one.ensures
