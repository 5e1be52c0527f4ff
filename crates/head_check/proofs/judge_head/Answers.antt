use Rattle.std.proofs.Common.{sym, subst}
use Rattle.head_check.specs.Head.{IsHeadStep}
use Rattle.head_check.proofs.judge_head.Goals as goal

pub returns-in-Form : goal.returns-in-Form
returns-in-Form c = subst (λ due. IsHeadStep due c.args.words c.form_line.result) (sym c.in-Form.is) c.form_line.ensures
