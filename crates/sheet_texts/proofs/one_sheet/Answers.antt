use Rattle.sheet_texts.proofs.One.{lines_one}
use Rattle.sheet_texts.proofs.one_sheet.Goals as goal

pub returns : goal.returns
returns c = lines_one c.sheet_says_one_thing.ensures c.good_sheet_is_read.ensures
