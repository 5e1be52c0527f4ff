use Rattle.sheet_laws.proofs.Ended.{read_holds}
use Rattle.sheet_laws.proofs.read_sheets_hold.Goals as goal

pub returns : goal.returns
returns c = read_holds
