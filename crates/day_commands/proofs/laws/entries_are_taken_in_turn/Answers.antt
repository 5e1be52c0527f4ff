use Rattle.day_commands.proofs.Days.{taken_in_turn}
use Rattle.day_commands.proofs.laws.entries_are_taken_in_turn.Goals as goal

pub returns : goal.returns
returns c = λ stops. taken_in_turn stops
