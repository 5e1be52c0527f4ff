use Rattle.std.proofs.Common.{arith}
use Rattle.field_table.proofs.Signed.{empty_spells_none, spells_none}
use Rattle.field_table.proofs.cuts.begins_as_number.Goals as goal

pub returns-then-is_empty : goal.returns-then-is_empty
returns-then-is_empty c = λ no. empty_spells_none c.args.word.now (grind arith)

pub returns-else-word-eq45 : goal.returns-else-word-eq45
returns-else-word-eq45 c = λ no. spells_none c.args.word.now c.if-word-eq45.false (grind arith)
