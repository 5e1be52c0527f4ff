use Rattle.sheet_commands.proofs.Refusals.{refused_is_not_accepted}
use Rattle.sheet_commands.proofs.laws.refused_is_not_accepted.Goals as goal

pub returns : goal.returns
returns c = refused_is_not_accepted c.sheet_says_one_thing.ensures c.good_sheet_is_read.ensures c.read_sheet_front.ensures c.good_sheet_lines.ensures c.words_of_line.ensures.words
    c.text_of_sheet_lines.ensures c.one_sheet.ensures
