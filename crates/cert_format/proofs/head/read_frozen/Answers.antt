use Rattle.std.proofs.Common.{arith, to_z, w64}
use Rattle.std.proofs.lemmas.Int.{ints}
use Rattle.line_in.proofs.Accepted.{none_read}
use Rattle.cert_format.proofs.Wrong.{frozen_wrong}
use Rattle.cert_format.proofs.head.read_frozen.Goals as goal

pub returns : goal.returns
returns c = (
  c.if-not-has_shape.ensures,
  tt,
  frozen_wrong c.args.most c.args.words (to_z w64 c.args.most) (omega (arith, ints)) (omega arith) (none_read _ c.args.words c.in-Err-fields.fault c.in-Err-fields.ensures.back),
)
