use Rattle.search_laws.proofs.RunsShown.{runs_shown}
use Rattle.search_laws.proofs.runs_stay_shown.Goals as goal

pub returns : goal.returns
returns c = runs_shown
