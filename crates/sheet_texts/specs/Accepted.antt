-- the bytes that the checker of sheets accepts
use Rattle.std.specs.Prelude.{◌≡◌, ◌≢◌, ◌≤◌, ℕ, List, [], length, All}
use Rattle.std.specs.List.{flat_map}
use Rattle.crew_terms.specs.declared.TheConstants.{LONGEST_INPUT}
use Rattle.sheet_terms.specs.Sheet.{Sheet, IsGoodSheet}
use Rattle.sheet_terms.specs.Lines.{text_of_sheet}

-- the texts of one or more good sheets, one after another
pub record AreAcceptedSheets (bytes : List ℕ) (sheets : List Sheet) : Type 0 where
  pub size : length bytes ≤ LONGEST_INPUT
  pub some : sheets ≢ []
  pub good : All IsGoodSheet sheets
  pub text : bytes ≡ flat_map text_of_sheet sheets
