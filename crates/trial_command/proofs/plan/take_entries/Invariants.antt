use Rattle.std.proofs.Common.{◌≡◌, take}
use Rattle.trial_command.specs.Taken.{HasTaken}
use Rattle.trial_command.proofs.plan.take_entries.Given as goal

abbrev pub invariant-loop-entry : goal.invariant-loop-entry
invariant-loop-entry l = HasTaken l.fn.session (take l.entry-index l.entries) l.session × (l.sink ≡ l.fn.sink)
