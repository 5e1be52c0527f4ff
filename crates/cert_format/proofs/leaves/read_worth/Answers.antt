use Rattle.line_in.proofs.Accepted.{none_read}
use Rattle.cert_format.proofs.LeafLines.{worth_fields, worth_wrong}
use Rattle.cert_format.proofs.leaves.read_worth.Goals as goal

pub returns : goal.returns
returns c = (c.if-not-has_shape.ensures, tt, worth_wrong c.args.words (none_read worth_fields c.args.words c.in-Err-fields.fault c.in-Err-fields.ensures.back))
