use Rattle.std.proofs.Common.{subst}
use Rattle.dossier_terms.specs.declared.Size.{Size as SizeNumbers}
use Rattle.dossier_terms.specs.Reading.{places_due}
use Rattle.dossier_terms.specs.Rules.{Goes}
use Rattle.head_check.specs.Head.{reading_of, instance_so_far, opening_of, places_of}
use Rattle.head_check.specs.declared.due.Head.{Head}
use Rattle.head_check.specs.declared.due.HeadDue.TheVariants.{Size}
use Rattle.head_check.proofs.Steps.{refused, told_by}
use Rattle.head_check.proofs.HeadRows.{size_more}
use Rattle.head_check.proofs.head.size_line.Goals as goal

pub returns-in_err-size : goal.returns-in_err-size
returns-in_err-size c =
    refused _ c.from_residual.result c.in_err-size.field-0.0 c.from_residual.ensures.1
    (c.fault_is_refused.ensures (reading_of (Size c.args.form)) c.args.words _ c.in_err-size.ensures)

pub returns : goal.returns
returns c =
    let z : SizeNumbers = c.in_ok-size.size in
    let h = c.in_ok-size.ensures in
    let is = c.in_ok-head.ensures.ok in
    told_by c.due_places.result c.due_places.ensures (λ said rest. size_more c.args.form c.args.words z said h.0 h.1
    (subst (λ d. Goes (places_due (record { form = c.args.form; size = z }) z.places (instance_so_far d 0)) said) c.in_ok-builder.ensures
    (subst (λ (h : Head). Goes (places_due (opening_of h) z.places (places_of h)) said) is rest)))
