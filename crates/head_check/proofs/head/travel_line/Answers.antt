use Rattle.std.proofs.Common.{subst, suc}
use Rattle.cert_format.specs.Lines.{IsFaultOf, IsTimesLine}
use Rattle.cert_format.specs.declared.kinds.Expect.TheVariants as expects
use Rattle.cert_format.specs.declared.kinds.LineKind.TheVariants as kinds
use Rattle.head_check.specs.Head.{reading_of, opening_of, read_before_rows}
use Rattle.head_check.specs.declared.due.Head.{Head}
use Rattle.head_check.specs.declared.due.HeadDue.TheVariants.{Travel}
use Rattle.head_check.proofs.Steps.{refused, told_by}
use Rattle.head_check.proofs.HeadRows.{travel_says}
use Rattle.head_check.proofs.head.travel_line.Goals as goal

pub returns-in_err-times : goal.returns-in_err-times
returns-in_err-times c =
    refused _ c.from_residual.result c.in_err-times.field-0.0 c.from_residual.ensures.1
    (c.fault_is_refused.ensures (reading_of (Travel c.args.head c.args.more)) c.args.words _
    (subst (λ (h : Head). IsFaultOf (expects.Travel h.size.places) c.args.words c.in_err-times.field-0.0) c.deref.ensures c.in_err-times.ensures))

pub returns : goal.returns
returns c =
    let head = c.args.head.value in
    let h = subst (λ (h : Head). IsTimesLine h.size.places c.args.words (kinds.Travel c.in_ok-times.times)) c.deref.ensures c.in_ok-times.ensures in
    told_by c.add_travel.result (c.add_travel.ensures h.0 h.1) (λ said rest.
    travel_says (opening_of head) c.args.more (read_before_rows head (suc c.args.more)) c.args.words h.0 said h.2 h.3 rest)
