-- what a reader of a sheet keeps, and what it says of a line
use Rattle.std.specs.Prelude.{◌≡◌, ◌≤◌, ◌<◌, ◌+◌, ℕ, suc, true, List, [], length, map, Result, Ok, Err}
use Rattle.std.specs.List.{range_with_len}
use Rattle.crew_terms.specs.Words.{Words}
use Rattle.crew_terms.specs.Instance.{Instance}
use Rattle.crew_terms.specs.Limits.{root_limits}
use Rattle.dossier_terms.specs.Dossier.{Potentials}
use Rattle.line_in.specs.declared.refusals.Refusal.{Refusal}
use Rattle.line_in.specs.declared.refusals.Refusal.TheVariants.{No, OutOfMemory}
use Rattle.squeeze_terms.specs.MinutePrices.{AreMinutePrices}
use Rattle.squeeze_terms.specs.Possible.{possible_minutes}
use Rattle.minute_rules.specs.Rules.{HasRuleRoom}
use Rattle.leaf_check.specs.Keys.{has_minutes}
use Rattle.sheet_laws.specs.Priced.{ArePriced}
use Rattle.sheet_lines.specs.Rows.{HasRowsBefore, open_from}
use Rattle.sheet_terms.specs.Sheet.{Sheet, worths_in}
use Rattle.sheet_terms.specs.Reading.{SheetReading, SheetAnswer, Bounds, Prices, Worths, Steps, Ends, More as Goes, Whole as Done, No as Refuses}
use Rattle.sheet_terms.specs.Table.{SaysOfSheet}
use Rattle.sheet_reader.specs.declared.reader.SheetDue.{SheetDue}
use Rattle.sheet_reader.specs.declared.reader.SheetDue.TheVariants as due
use Rattle.sheet_reader.specs.declared.reader.SheetReader.{SheetReader}
use Rattle.sheet_reader.specs.declared.reader.SheetStep.{SheetStep}
use Rattle.sheet_reader.specs.declared.reader.SheetStep.TheVariants.{More, Whole}

-- ---- what a reader keeps

-- the sheet of the instance that is read so far, with these tables
abbrev pub sheet_of : Instance → ℕ → SheetReader → List Potentials → Sheet
sheet_of i budget r tables = record { instance = i; budget = budget; bound = r.bound; prices = r.prices; tables = tables }

-- it has room for the rules of a team, and the possible minutes of each task
pub record IsRoomy (i : Instance) (r : SheetReader) : Type 0 where
  pub room : HasRuleRoom i r.room
  pub possible : r.possible ≡ map (possible_minutes i) (range_with_len 0 (length i.tasks))

-- it has the prices of so many tasks, and no worth
pub record HasPrices (i : Instance) (r : SheetReader) (tasks : ℕ) : Type 0 where
  pub roomy : IsRoomy i r
  pub prices : ArePriced i r.prices
  pub count : length r.prices ≡ tasks
  pub few : tasks ≤ length i.tasks
  pub none : r.worths.items ≡ []

-- it has all prices, and the worths of so many teams
pub record HasWorths (i : Instance) (r : SheetReader) (teams : ℕ) : Type 0 where
  pub roomy : IsRoomy i r
  pub prices : AreMinutePrices i r.prices
  pub count : length r.worths.items ≡ teams
  pub few : teams ≤ length i.teams

-- its worths are those of these tables, behind which so many teams are left
pub record HasTables (i : Instance) (r : SheetReader) (tables : List Potentials) (left : ℕ) : Type 0 where
  pub worths : r.worths.items ≡ worths_in tables
  pub count : length tables + left ≡ length i.teams

-- of the next team it has what the table has so far
pub record HasTable (i : Instance) (r : SheetReader) (team : ℕ) (table : Potentials) : Type 0 where
  pub worth : r.worth ≡ table.worth
  pub rows : HasRowsBefore (root_limits i) team r.rows table.phi

-- behind the rows of the next team the one of task j is due, and then those of the tasks js
pub record IsRowDue (i : Instance) (r : SheetReader) (team j : ℕ) (js : List ℕ) : Type 0 where
  pub before : length r.rows ≡ j
  pub known : j < length i.tasks
  pub opens : has_minutes (root_limits i) team j ≡ true
  pub later : js ≡ open_from (root_limits i) team (suc j)

-- ---- the states of the table of lines that it stands for

-- the prices of a task are due
pub record IsAtPrice (i : Instance) (budget : ℕ) (r : SheetReader) (task : ℕ) (s : SheetReading) : Type 0 where
  pub has : HasPrices i r task
  pub left : ℕ
  pub tasks : task + suc left ≡ length i.tasks
  pub is : s ≡ Prices (sheet_of i budget r []) left

-- a team's worth is due
pub record IsAtWorth (i : Instance) (budget : ℕ) (r : SheetReader) (team : ℕ) (s : SheetReading) : Type 0 where
  pub has : HasWorths i r team
  pub tables : List Potentials
  pub left : ℕ
  pub read : HasTables i r tables (suc left)
  pub is : s ≡ Worths (sheet_of i budget r tables) left

-- a team's potentials of a task are due
pub record IsAtSteps (i : Instance) (budget : ℕ) (r : SheetReader) (team task : ℕ) (s : SheetReading) : Type 0 where
  pub has : HasWorths i r team
  pub tables : List Potentials
  pub left : ℕ
  pub read : HasTables i r tables (suc left)
  pub table : Potentials
  pub js : List ℕ
  pub begun : HasTable i r team table
  pub row : IsRowDue i r team task js
  pub is : s ≡ Steps (sheet_of i budget r tables) left table task js

-- the line is due that is due in the state
abbrev pub IsAt : Instance → ℕ → SheetReader → SheetDue → SheetReading → Type 0
IsAt i budget r due.Bound s = HasPrices i r 0 × (s ≡ Bounds i budget)
IsAt i budget r (due.Price task) s = IsAtPrice i budget r task s
IsAt i budget r (due.Worth team) s = IsAtWorth i budget r team s
IsAt i budget r (due.Steps team task) s = IsAtSteps i budget r team task s
IsAt i budget r due.End s = (tables : List Potentials) × (s ≡ Ends (sheet_of i budget r tables))

-- the reader stands for a state of the table of lines, of a sheet of this instance and budget
abbrev pub StandsFor : Instance → ℕ → SheetReader → SheetReading → Type 0
StandsFor i budget r s = IsAt i budget r r.due s

-- it stands for some state
abbrev pub IsAwaited : Instance → SheetReader → Type 0
IsAwaited i r = (budget : ℕ) × (s : SheetReading) × StandsFor i budget r s

-- ---- what it says

-- the step, or the reason, is what the rules say; the reader stands for the state that they lead to, or has the bound of the
-- sheet that is whole; for want of memory nothing is said
abbrev pub SheetTells : Instance → ℕ → (SheetAnswer → Type 0) → Result SheetStep Refusal → SheetReader → Type 0
SheetTells i budget Rules (Ok More) new = (next : SheetReading) × Rules (Goes next) × StandsFor i budget new next
SheetTells i budget Rules (Ok Whole) new = (s : Sheet) × Rules (Done s) × (new.bound ≡ s.bound)
SheetTells i budget Rules (Err (No reason)) new = Rules (Refuses reason)
SheetTells i budget Rules (Err OutOfMemory) new = Unit {0}

-- it is what the table says of the line, at each state that the reader stands for
abbrev pub IsSheetStep : Instance → Words → SheetReader → SheetReader → Result SheetStep Refusal → Type 0
IsSheetStep i words old new step = (budget : ℕ) (s : SheetReading) → StandsFor i budget old s
    → SheetTells i budget (SaysOfSheet s words) step new
