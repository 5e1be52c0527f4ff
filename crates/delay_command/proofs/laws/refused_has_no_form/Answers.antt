use Rattle.delay_command.proofs.Forms.{no_form}
use Rattle.delay_command.proofs.laws.refused_has_no_form.Goals as goal

pub returns : goal.returns
returns c = no_form c.one_front.ensures c.one_text.ensures.one c.refused_is_no_front.ensures c.refused_is_not_accepted.ensures
