use Rattle.head_check.specs.Head.{reading_of, opening_of, places_of}
use Rattle.head_check.specs.declared.due.HeadDue.TheVariants.{Place}
use Rattle.head_check.proofs.Steps.{refused, told_by}
use Rattle.head_check.proofs.HeadRows.{place_says}
use Rattle.head_check.proofs.head.place_line.Goals as goal

pub returns-in_err-name : goal.returns-in_err-name
returns-in_err-name c =
    refused _ c.from_residual.result c.in_err-name.field-0.0 c.from_residual.ensures.1
    (c.fault_is_refused.ensures (reading_of (Place c.args.head c.args.more)) c.args.words _ c.in_err-name.ensures)

pub returns : goal.returns
returns c =
    let head = c.args.head.value in
    let h = c.in_ok-name.ensures in
    told_by c.add_place.result c.add_place.ensures (λ said rest.
    place_says (opening_of head) c.args.more (places_of head) c.args.words c.in_ok-name.name said h.0 h.1 rest)
