-- what has been read of a sheet, and what is said of its next line
use Rattle.std.specs.Prelude.{ℕ, List}
use Rattle.crew_terms.specs.Instance.{Instance}
use Rattle.dossier_terms.specs.declared.Reason.{Reason}
use Rattle.dossier_terms.specs.declared.Reason.TheVariants.{Shape}
use Rattle.dossier_terms.specs.Dossier.{Potentials}
use Rattle.dossier_terms.specs.Reading.{Reading, Answer, Pools}
use Rattle.dossier_terms.specs.Reading as dossiers
use Rattle.sheet_terms.specs.Sheet.{Sheet}

-- each state is named for the line that is due; a number says that so many more of its kind come after it. A sheet, and a
-- team's potentials, are those that are read so far, and j is the task of the line, before those of js
pub data SheetReading : Type 0 where
  First : SheetReading
  -- a line of the instance or of its frozen jobs, where the table of a dossier's lines has come to this state
  Head : (s : Reading) → SheetReading
  Bounds : (i : Instance) (budget : ℕ) → SheetReading
  Prices : (s : Sheet) (left : ℕ) → SheetReading
  Worths : (s : Sheet) (left : ℕ) → SheetReading
  Steps : (s : Sheet) (left : ℕ) (table : Potentials) (j : ℕ) (js : List ℕ) → SheetReading
  Ends : (s : Sheet) → SheetReading

-- what is said of a line: what is due next, a whole sheet, or why it is refused
pub data SheetAnswer : Type 0 where
  More : (s : SheetReading) → SheetAnswer
  Whole : (s : Sheet) → SheetAnswer
  No : (r : Reason) → SheetAnswer

-- what is due where a dossier's table has come to this state: the bound, where in a dossier its pool is due
abbrev pub head_due : Reading → SheetReading
head_due (Pools form i budget) = Bounds i budget
head_due s = Head s

-- what is said of a line of the instance, by what the table of a dossier's lines says of it; no dossier ends there
abbrev pub head_answer : Answer → SheetAnswer
head_answer (dossiers.More s) = More (head_due s)
head_answer (dossiers.Whole d) = No Shape
head_answer (dossiers.No r) = No r
