use Rattle.sheet_commands.proofs.Refusals.{one_refusal}
use Rattle.sheet_commands.proofs.laws.one_refusal.Goals as goal

pub returns : goal.returns
returns c = one_refusal c.sheet_says_one_thing.ensures c.good_sheet_is_read.ensures c.read_sheet_front.ensures c.good_sheet_lines.ensures c.words_of_line.ensures.words
    c.text_of_sheet_lines.ensures c.one_sheet.ensures c.lines_in_text.ensures.either
