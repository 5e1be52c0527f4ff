use Rattle.master_laws.proofs.Placed.{teams_stand, tasks_stand, pairs_stand}
use Rattle.master_laws.proofs.places_are.Goals as goal

pub returns : goal.returns
returns c = record { teams = teams_stand; tasks = tasks_stand; pairs = pairs_stand }
