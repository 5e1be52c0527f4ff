use Rattle.day_commands.proofs.Days.{state_takes_entries}
use Rattle.day_commands.proofs.laws.state_takes_entries.Goals as goal

pub returns : goal.returns
returns c = state_takes_entries
