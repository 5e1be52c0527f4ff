use Rattle.sheet_checker.proofs.Heads.{line_due, not_whole}
use Rattle.sheet_checker.proofs.judge.due_after.Goals as goal

pub returns-in_default : goal.returns-in_default
returns-in_default c = line_due c.args.due (not_whole c.args.due c.in_default.not-Whole) c.requires
