use Rattle.sheet_texts.proofs.Read.{front_many}
use Rattle.sheet_texts.proofs.read_sheet_front.Goals as goal

pub returns : goal.returns
returns c = front_many
