use Rattle.std.proofs.Common.{arith}
use Rattle.field_table.proofs.Digits.{not_empty, not_zero}
use Rattle.field_table.proofs.numbers.read_digits.Goals as goal

pub returns-then-is_empty : goal.returns-then-is_empty
returns-then-is_empty c = λ m le. let t = c.requires.most in not_empty c.args.bytes.now m (grind arith) (omega arith)

pub returns-then-bytes-gt1 : goal.returns-then-bytes-gt1
returns-then-bytes-gt1 c = λ m le. let t = c.requires.most in not_zero c.args.bytes.now m c.if-bytes-eq48.true c.if-bytes-gt1.true (omega arith)
