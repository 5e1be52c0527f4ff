use Rattle.cert_format.proofs.OneAnswer.{one_answer}
use Rattle.cert_format.proofs.laws.line_has_one_answer.Goals as goal

pub returns : goal.returns
returns c = one_answer
