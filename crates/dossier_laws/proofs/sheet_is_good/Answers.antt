use Rattle.dossier_laws.proofs.Sheet.{sheet_good, sheet_spelled}
use Rattle.dossier_laws.proofs.sheet_is_good.Goals as goal

pub returns : goal.returns
returns c = (sheet_good, sheet_spelled)
