use Rattle.sheet_reader.proofs.reader.SheetReader.line.Goals as goal

pub returns-in-Bound : goal.returns-in-Bound
returns-in-Bound c = c.bound_line.ensures

pub returns-in-Price : goal.returns-in-Price
returns-in-Price c = c.price_line.ensures

pub returns-in-Worth : goal.returns-in-Worth
returns-in-Worth c = c.worth_line.ensures

pub returns-in-Steps : goal.returns-in-Steps
returns-in-Steps c = c.steps_line.ensures

pub returns-in-End : goal.returns-in-End
returns-in-End c = c.end_line.ensures c.args.limits.now.limits.instance
