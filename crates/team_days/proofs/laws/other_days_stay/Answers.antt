use Rattle.team_days.proofs.Added.{other_day}
use Rattle.team_days.proofs.laws.other_days_stay.Goals as goal

pub returns : goal.returns
returns c = λ p j job k n vs l none other are. other_day p j job l none k n vs other are
