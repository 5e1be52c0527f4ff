-- what the table of a sheet's lines reads to its end
use Rattle.std.specs.Prelude.{◌≡◌, List}
use Rattle.crew_terms.specs.Words.{Words}
use Rattle.sheet_terms.specs.Lines.{lines_of_sheet}
use Rattle.sheet_terms.specs.Sheet.{Sheet, IsGoodSheet}

-- these are the lines of the sheet, and it is good
pub record IsWholeSheet (lines : List Words) (s : Sheet) : Type 0 where
  pub spelled : lines ≡ lines_of_sheet s
  pub good : IsGoodSheet s
