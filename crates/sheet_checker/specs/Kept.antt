-- what the fields of a checker of sheets stand for
use Rattle.std.specs.Prelude.{◌≤◌}
use Rattle.crew_terms.specs.declared.TheConstants.{LONGEST_INPUT}
use Rattle.sheet_terms.specs.Reading.{SheetReading}
use Rattle.sheet_checker.specs.Due.{Awaits}
use Rattle.sheet_checker.specs.Checked.{Checked, IsReached}
use Rattle.sheet_checker.specs.declared.due.Due.{Due}
use Rattle.sheet_checker.specs.declared.checker.State.{State}
use Rattle.sheet_checker.specs.declared.checker.State.TheVariants as states
use Rattle.sheet_checker.specs.declared.checker.SheetChecker.TheInside.{Inside}

abbrev pub checked : Inside → Checked
checked a = record { lines = a.lines; at = a.state }

-- lines lead to what is kept
abbrev pub IsKeptFrom : Due → Type 0
IsKeptFrom due = (reading : SheetReading) × IsReached reading × Awaits due reading

-- what always holds where a checker stands
abbrev pub IsSettled : State → Type 0
IsSettled (states.Due due) = IsKeptFrom due
IsSettled states.Whole = Unit {0}
IsSettled (states.Refused line reason) = Unit {0}
IsSettled states.Spent = Unit {0}

pub record IsKept (a : Inside) : Type 0 where
  pub state : IsSettled a.state
  pub few : a.lines ≤ LONGEST_INPUT
