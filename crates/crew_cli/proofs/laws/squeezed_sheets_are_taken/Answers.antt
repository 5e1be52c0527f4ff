use Rattle.crew_cli.proofs.Squeezed.{taken}
use Rattle.crew_cli.proofs.laws.squeezed_sheets_are_taken.Goals as goal

pub returns : goal.returns
returns c = taken
