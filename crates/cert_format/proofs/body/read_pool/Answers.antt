use Rattle.line_in.proofs.Accepted.{none_read}
use Rattle.cert_format.proofs.Wrong.{pool_fields, pool_wrong}
use Rattle.cert_format.proofs.body.read_pool.Goals as goal

pub returns : goal.returns
returns c = (c.if-not-has_shape.ensures, tt, pool_wrong c.args.words (none_read pool_fields c.args.words c.in-Err-fields.fault c.in-Err-fields.ensures.back))
