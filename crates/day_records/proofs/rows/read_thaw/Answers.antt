use Rattle.day_terms.specs.Forms.{thaw_form}
use Rattle.day_records.proofs.FirstBads.{first_bad}
use Rattle.day_records.proofs.rows.read_thaw.Goals as goal

pub returns : goal.returns
returns c = first_bad thaw_form.slots c.args.words.now c.in-Err-fields.fault c.requires c.in-Err-fields.ensures.exact
