-- the laws of dossiers that are cited
use Rattle.std.specs.Prelude.{◌≡◌, ◌≤◌, ◌<◌, ◌+◌, ◌++◌, ℕ, ℤ, List, [], ◌∷◌, length, map}
use Rattle.std.specs.List.{AllByRecursion}
use Rattle.std.specs.Fmt.{signed_decimal}
use Rattle.crew_terms.specs.Instance.{Instance}
use Rattle.crew_terms.specs.Leaf.{IsPrice}
use Rattle.crew_terms.specs.Limits.{Limits}
use Rattle.crew_terms.specs.Words.{Words}
use Rattle.dossier_terms.specs.declared.DossierForm.{DossierForm}
use Rattle.dossier_terms.specs.declared.DossierForm.TheVariants.{Two}
use Rattle.dossier_terms.specs.Dossier.{Potentials, AreRows, IsSigned, IsWorthNumber}
use Rattle.dossier_terms.specs.Lines.{worth_line, steps_line, rows_lines, table_lines}
use Rattle.dossier_terms.specs.Ranges.{AreNumbers, IsStepsLine}
use Rattle.dossier_terms.specs.Reading.{Reading, Answer, More, Form, Sizes, Pools}
use Rattle.dossier_terms.specs.Runs.{Run, AreRuns, values_of}
use Rattle.dossier_terms.specs.Table.{Says, Reaches}
use Rattle.dossier_laws.specs.Law.{AreRunsOfRow, IsHeadOf}

abbrev pub GoesOn : Type 0
GoesOn = (s : Reading) (lines : List Words) (m : Reading) (ws : Words) (next : Reading) → Reaches s lines m → Says m ws (More next) → Reaches s (lines ++ ws ∷ []) next

abbrev pub HeadIsGood : Type 0
HeadIsGood = (lines : List Words) (form : DossierForm) (i : Instance) (budget : ℕ) → Reaches (Sizes Two) lines (Pools form i budget) → (form ≡ Two) × IsHeadOf lines i budget

abbrev pub RunsAreRead : Type 0
RunsAreRead = (first past : ℕ) (runs : List Run) → AreRuns first past runs → IsStepsLine runs → first < past → AreRunsOfRow first past runs (values_of past runs)

abbrev pub RowsGrow : Type 0
RowsGrow = (wants : ℕ → ℕ) (line : ℕ → List ℤ → Words) (read left : List ℕ) (rows : List (List ℤ)) (j : ℕ) (row : List ℤ) → AreRows IsSigned wants read rows
    → length row ≡ wants j → AllByRecursion IsSigned row
    → AreRows IsSigned wants (read ++ j ∷ []) (rows ++ row ∷ []) × (rows_lines line (read ++ j ∷ left) (rows ++ row ∷ []) ≡ rows_lines line (read ++ j ∷ left) rows ++ line j row ∷ [])

abbrev pub TablesGrow : Type 0
TablesGrow = (form : DossierForm) (n : Limits) (k : ℕ) (tables : List Potentials) (table : Potentials)
    → table_lines form n k (tables ++ table ∷ []) ≡ table_lines form n k tables ++ table_lines form n (k + length tables) (table ∷ [])

-- what reading rests on
pub record Read : Type 0 where
  pub goes_on : GoesOn
  pub head : HeadIsGood
  pub runs : RunsAreRead
  pub rows : RowsGrow
  pub tables : TablesGrow

abbrev pub SaysOne : Type 0
SaysOne = (lines : List Words) (s : Reading) (ws : Words) (a b : Answer) → Reaches Form lines s → Says s ws a → Says s ws b → a ≡ b

-- what telling numbers apart rests on
pub record Apart : Type 0 where
  pub prices : (count : ℕ) (x y : List ℤ) → AreNumbers IsPrice count x → AreNumbers IsPrice count y → map signed_decimal x ≡ map signed_decimal y → x ≡ y
  pub worths : (x y : ℤ) → IsWorthNumber x → IsWorthNumber y → worth_line x ≡ worth_line y → x ≡ y
  pub runs : (j : ℕ) (x y : List Run) → IsStepsLine x → IsStepsLine y → steps_line j x ≡ steps_line j y → x ≡ y
