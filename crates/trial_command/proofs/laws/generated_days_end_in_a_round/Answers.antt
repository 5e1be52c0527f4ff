use Rattle.trial_command.proofs.LastEntry.{ends_in_round}
use Rattle.trial_command.proofs.laws.generated_days_end_in_a_round.Goals as goal

pub returns : goal.returns
returns c = ends_in_round
