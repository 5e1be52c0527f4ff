use Rattle.field_table.proofs.Fronts.{no_space}
use Rattle.field_table.proofs.cuts.cut_digits.Goals as goal

pub returns-clause-whole : goal.returns-clause-whole
returns-clause-whole c = no_space c.args.line.now c.args.from c.args.digits.count c.requires.digits.digits
