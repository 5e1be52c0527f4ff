use Rattle.day_commands.proofs.Days.{one_coming}
use Rattle.day_commands.proofs.laws.one_coming.Goals as goal

pub returns : goal.returns
returns c = λ stops. one_coming stops c.one_reading.ensures.of_day
