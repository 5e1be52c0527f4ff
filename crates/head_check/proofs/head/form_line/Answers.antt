use Rattle.std.proofs.Common.{refl}
use Rattle.dossier_terms.specs.Rules.{Spelled, On}
use Rattle.head_check.specs.Head.{reading_of}
use Rattle.head_check.specs.declared.due.HeadDue.TheVariants.{Form}
use Rattle.head_check.proofs.Steps.{refused}
use Rattle.head_check.proofs.head.form_line.Goals as goal

pub returns-in_err-form : goal.returns-in_err-form
returns-in_err-form c =
    refused _ c.from_residual.result c.in_err-form.field-0.0 c.from_residual.ensures.1
    (c.fault_is_refused.ensures (reading_of Form) c.args.words _ c.in_err-form.ensures)

pub returns : goal.returns
returns c = record { says = Spelled c.in_ok-form.form tt c.in_ok-form.ensures (On refl); holds = tt }
