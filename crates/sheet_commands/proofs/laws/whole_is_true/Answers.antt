use Rattle.std.proofs.Common.{[], ◌∷◌, sym, ◌∙◌, append-nil}
use Rattle.sheet_terms.specs.Lines.{lines_of_sheet, text_of_sheet}
use Rattle.sheet_commands.proofs.laws.whole_is_true.Goals as goal

pub returns : goal.returns
returns c = λ lines s ended.
    let whole = c.read_sheet_is_good.ensures _ s ended in (
      record { good = whole.good; bound = λ p. c.good_sheets_bound.ensures s p whole.good },
      sym (append-nil (text_of_sheet s)) ∙ c.text_of_sheet_lines.ensures (s ∷ []) lines (append-nil (lines_of_sheet s) ∙ sym whole.spelled),
      sym whole.spelled,
    )
