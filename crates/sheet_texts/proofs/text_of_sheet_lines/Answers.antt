use Rattle.sheet_texts.proofs.Read.{made_many}
use Rattle.sheet_texts.proofs.text_of_sheet_lines.Goals as goal

pub returns : goal.returns
returns c = made_many
