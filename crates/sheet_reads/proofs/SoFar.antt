-- what has been read of a sheet in each state: its lines, and what holds of it
use Rattle.std.specs.Prelude.{◌≡◌, ◌≤◌, ◌+◌, ◌++◌, ℕ, suc, ℤ, List, [], ◌∷◌, length}
use Rattle.crew_terms.specs.Limits.{Limits, root_limits}
use Rattle.crew_terms.specs.Minutes.{first_minute, minute_count, open_tasks}
use Rattle.crew_terms.specs.Rules.{IsInstance}
use Rattle.crew_terms.specs.Words.{Words}
use Rattle.crew_terms.specs.declared.TheConstants.{MOST_NODES}
use Rattle.dossier_terms.specs.declared.DossierForm.TheVariants.{Two}
use Rattle.dossier_terms.specs.Dossier.{Potentials, Tables, IsTable, AreRows, IsWorthNumber, IsSigned}
use Rattle.dossier_terms.specs.Lines.{instance_lines, frozen_lines, worth_line, potentials_line, rows_lines, table_lines}
use Rattle.dossier_terms.specs.Reading.{Sizes}
use Rattle.dossier_terms.specs.Table.{Reaches}
use Rattle.dossier_laws.specs.Law.{IsHeadOf}
use Rattle.sheet_terms.specs.Lines.{squeeze_line, bound_line, minutes_lines, lines_of_sheet}
use Rattle.sheet_terms.specs.Reading.{SheetReading, SheetAnswer, First, Head, Bounds, Prices, Worths, Steps, Ends, More, Whole, No}
use Rattle.sheet_terms.specs.Sheet.{Sheet}

-- ---- lines

abbrev pub prices_so_far : Sheet → List Words
prices_so_far s = (squeeze_line ∷ (instance_lines s.instance s.budget ++ frozen_lines Two s.instance.frozen)) ++ (bound_line s.bound ∷ minutes_lines s.instance 0 s.prices)

abbrev pub tables_so_far : Sheet → List Words
tables_so_far s = prices_so_far s ++ table_lines Two (root_limits s.instance) 0 s.tables

-- the line of a row of team k's potentials
abbrev pub row_line : Limits → ℕ → ℕ → List ℤ → Words
row_line n k j = potentials_line Two (first_minute n k j) j

-- the lines of team k so far
abbrev pub table_so_far : Limits → ℕ → Potentials → List Words
table_so_far n k t = worth_line t.worth ∷ rows_lines (row_line n k) (open_tasks n k) t.phi

-- ---- what holds

pub record IsBegun (s : Sheet) : Type 0 where
  pub instance : IsInstance s.instance
  pub budget : s.budget ≤ MOST_NODES
  pub bound : s.bound ≤ length s.instance.tasks

abbrev pub AreTablesRead : Limits → ℕ → List Potentials → Type 0
AreTablesRead n k [] = Unit {0}
AreTablesRead n k (t ∷ ts) = IsTable n k t × AreTablesRead n (suc k) ts

pub record ArePricesRead (s : Sheet) : Type 0 where
  pub begun : IsBegun s
  pub none : s.tables ≡ []

pub record AreTeamsRead (s : Sheet) (left : ℕ) : Type 0 where
  pub begun : IsBegun s
  pub tables : AreTablesRead (root_limits s.instance) 0 s.tables
  pub count : length s.tables + left ≡ length s.instance.teams

-- the rows so far, of the tasks before those that are left
abbrev pub AreRowsRead : Limits → ℕ → List (List ℤ) → List ℕ → Type 0
AreRowsRead n k rows left = (read : List ℕ) × (open_tasks n k ≡ read ++ left) × AreRows IsSigned (minute_count n k) read rows

pub record IsTeamRead (s : Sheet) (left : ℕ) (table : Potentials) (keys : List ℕ) : Type 0 where
  pub teams : AreTeamsRead s (suc left)
  pub worth : IsWorthNumber table.worth
  pub rows : AreRowsRead (root_limits s.instance) (length s.tables) table.phi keys

pub record IsWritten (s : Sheet) : Type 0 where
  pub begun : IsBegun s
  pub tables : Tables (root_limits s.instance) 0 s.tables

-- ---- the same in each state, with these lines

abbrev pub SoFar : List Words → SheetReading → Type 0
SoFar lines First = lines ≡ []
SoFar lines (Head s) = (head : List Words) × (lines ≡ squeeze_line ∷ head) × Reaches (Sizes Two) head s
SoFar lines (Bounds i budget) = (head : List Words) × (lines ≡ squeeze_line ∷ head) × IsHeadOf head i budget
SoFar lines (Prices s left) = ArePricesRead s × (lines ≡ prices_so_far s)
SoFar lines (Worths s left) = AreTeamsRead s (suc left) × (lines ≡ tables_so_far s)
SoFar lines (Steps s left table j js) = IsTeamRead s left table (j ∷ js) × (lines ≡ tables_so_far s ++ table_so_far (root_limits s.instance) (length s.tables) table)
SoFar lines (Ends s) = AreTeamsRead s 0 × (lines ≡ tables_so_far s)

-- what a line leaves, with its own
abbrev pub Left : List Words → SheetAnswer → Type 0
Left lines (More next) = SoFar lines next
Left lines (Whole s) = (lines ≡ lines_of_sheet s) × IsWritten s
Left lines (No reason) = Unit {0}
