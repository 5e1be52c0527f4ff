-- what `squeeze` writes is accepted as sheets
use Rattle.std.proofs.Common.{◌≢◌, ◌≤◌, ℕ, List, [], ◌∷◌, length, refl}
use Rattle.std.specs.List.{AllByRecursion}
use Rattle.std.proofs.lemmas.List.Elements.{All-from_recursion}
use Rattle.crew_terms.specs.declared.TheConstants.{LONGEST_INPUT}
use Rattle.dossier_terms.specs.Dossier.{Dossier}
use Rattle.sheet_terms.specs.Sheet.{Sheet, IsGoodSheet}
use Rattle.squeeze_command.specs.Sheets.{AreSheetsOf, IsTextOfSheets}
use Rattle.crew_cli.specs.Run.{AreSheets}

good : (steps : ℕ) (dossiers : List Dossier) (sheets : List Sheet) → AreSheetsOf steps dossiers sheets → AllByRecursion IsGoodSheet sheets
good steps [] [] each = tt
good steps [] (s ∷ sheets) each = absurd each
good steps (d ∷ dossiers) [] each = absurd each
good steps (d ∷ dossiers) (s ∷ sheets) each = (each.0.good, good steps dossiers sheets each.1)

some : (steps : ℕ) (dossiers : List Dossier) (sheets : List Sheet) → AreSheetsOf steps dossiers sheets → dossiers ≢ [] → sheets ≢ []
some steps [] sheets each none = absurd (none refl)
some steps (d ∷ dossiers) [] each none = absurd each
some steps (d ∷ dossiers) (s ∷ sheets) each none = λ e. cc

pub taken : (steps : ℕ) (dossiers : List Dossier) (text : List ℕ) → IsTextOfSheets steps dossiers text → dossiers ≢ [] → length text ≤ LONGEST_INPUT → AreSheets text
taken steps dossiers text written none size = (
  written.sheets,
  record {
    size = size;
    some = some steps dossiers written.sheets written.each none;
    good = All-from_recursion IsGoodSheet written.sheets (good steps dossiers written.sheets written.each);
    text = written.is;
  },
)
