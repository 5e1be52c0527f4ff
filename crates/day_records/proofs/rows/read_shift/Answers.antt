use Rattle.day_terms.specs.Forms.{shift_form}
use Rattle.day_records.proofs.FirstBads.{first_bad}
use Rattle.day_records.proofs.rows.read_shift.Goals as goal

pub returns : goal.returns
returns c = first_bad shift_form.slots c.args.words.now c.in-Err-fields.fault c.requires c.in-Err-fields.ensures.exact
