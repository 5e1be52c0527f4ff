use Rattle.audit_command.proofs.Planned.{planned_belongs}
use Rattle.audit_command.proofs.laws.planned_days_belong.Goals as goal

pub returns : goal.returns
returns c = planned_belongs c.state_takes_entries.ensures
