-- what a checker of sheets has read, and what it says of a line
use Rattle.std.specs.Prelude.{◌≡◌, ◌≤◌, ◌+◌, ℕ, List}
use Rattle.crew_terms.specs.Words.{Words}
use Rattle.crew_terms.specs.Legal.{IsLegal}
use Rattle.crew_terms.specs.Plan.{Plan, unassigned_count}
use Rattle.dossier_terms.specs.declared.Reason.{Reason}
use Rattle.sheet_terms.specs.Sheet.{Sheet}
use Rattle.sheet_terms.specs.Reading.{SheetReading, SheetAnswer, First, More as Goes, Whole as Ends, No as Refuses}
use Rattle.sheet_terms.specs.Table.{SaysOfSheet, ReachesInSheet}
use Rattle.sheet_reads.specs.Law.{IsWholeSheet}
use Rattle.sheet_checker.specs.Due.{Awaits}
use Rattle.sheet_checker.specs.declared.due.Due.TheVariants.{First as FirstLine}
use Rattle.sheet_checker.specs.declared.checker.State.{State}
use Rattle.sheet_checker.specs.declared.checker.State.TheVariants as states
use Rattle.sheet_checker.specs.declared.checker.SheetSaid.{SheetSaid}
use Rattle.sheet_checker.specs.declared.checker.SheetSaid.TheVariants.{More, Whole, No}

-- how many lines a checker has judged, and what it keeps of them
pub record Checked : Type 0 where
  pub lines : ℕ
  pub at : State

-- a checker that has read nothing yet
abbrev pub fresh_checker : Checked
fresh_checker = record { lines = 0; at = states.Due FirstLine }

-- ---- what a checker stands for

-- the line of the table that is due, while no line was refused and memory not wanting: that of what is kept, or the first line
-- behind a whole sheet
abbrev pub IsDueAt : State → SheetReading → Type 0
IsDueAt (states.Due due) reading = Awaits due reading
IsDueAt states.Whole reading = reading ≡ First
IsDueAt (states.Refused line reason) reading = ⊥
IsDueAt states.Spent reading = ⊥

-- a line is due
abbrev pub IsOpen : State → Type 0
IsOpen at = (reading : SheetReading) × IsDueAt at reading

-- lines of a sheet lead to this state of the table
abbrev pub IsReached : SheetReading → Type 0
IsReached reading = (lines : List Words) × ReachesInSheet First lines reading

-- ---- what it says

-- the answer to the line of this number, as the checker says it
abbrev pub said_of : ℕ → SheetAnswer → SheetSaid
said_of number (Goes next) = More
said_of number (Ends s) = Whole s.bound
said_of number (Refuses reason) = No number reason

-- what the checker stands for after it
abbrev pub StandsAfter : ℕ → SheetAnswer → State → Type 0
StandsAfter number (Goes next) at = IsDueAt at next
StandsAfter number (Ends s) at = at ≡ states.Whole
StandsAfter number (Refuses reason) at = at ≡ states.Refused number reason

-- behind so many lines the line that is due is judged as the table says, which says one thing of it
pub record IsJudged (lines : ℕ) (due : SheetReading) (words : Words) (said : SheetSaid) (new : Checked) : Type 0 where
  pub answer : SheetAnswer
  pub is : SaysOfSheet due words answer
  pub only : (other : SheetAnswer) → SaysOfSheet due words other → other ≡ answer
  pub says : said ≡ said_of (lines + 1) answer
  pub count : new.lines ≡ lines + 1
  pub stands : StandsAfter (lines + 1) answer new.at

-- the lines are those of a good sheet with this bound, and no legal plan of its instance leaves fewer tasks unassigned
pub record IsTrueBound (lines : List Words) (l : ℕ) : Type 0 where
  pub sheet : Sheet
  pub whole : IsWholeSheet lines sheet
  pub says : l ≡ sheet.bound
  pub bound : (p : Plan) → IsLegal sheet.instance p → l ≤ unassigned_count p

-- ---- where no line comes

-- the line that is due is refused
abbrev pub refused_at : Checked → Reason → Checked
refused_at c reason = record { lines = c.lines; at = states.Refused (c.lines + 1) reason }
