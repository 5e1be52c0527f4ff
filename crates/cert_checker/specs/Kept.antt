-- what the fields of a checker stand for
use Rattle.std.specs.Prelude.{◌≤◌, ℕ, Result, Ok, Err}
use Rattle.crew_terms.specs.declared.TheConstants.{LONGEST_INPUT}
use Rattle.dossier_terms.specs.Dossier.{Dossier}
use Rattle.dossier_terms.specs.Reading.{Reading}
use Rattle.dossier_terms.specs.declared.Reason.{Reason}
use Rattle.cert_checker.specs.Due.{Awaits, IsEndOf}
use Rattle.cert_checker.specs.Checked.{Checked, IsReached, IsTrueYes}
use Rattle.cert_checker.specs.declared.due.Due.{Due}
use Rattle.cert_checker.specs.declared.due.Step.{Step}
use Rattle.cert_checker.specs.declared.due.Step.TheVariants.{More, Whole}
use Rattle.cert_checker.specs.declared.checker.State.{State}
use Rattle.cert_checker.specs.declared.checker.State.TheVariants as states
use Rattle.cert_checker.specs.declared.checker.Checker.TheInside.{Inside}

-- the state that keeps what a step at the line of this number keeps
abbrev pub kept_state : ℕ → Result Step Reason → State
kept_state number (Ok (More due)) = states.Due due
kept_state number (Ok (Whole ended)) = states.Whole ended
kept_state number (Err reason) = states.Refused number reason

abbrev pub checked : Inside → Checked
checked a = record { lines = a.lines; at = a.state }

-- lines lead to what is kept
abbrev pub IsKeptFrom : Due → Type 0
IsKeptFrom due = (reading : Reading) × IsReached reading × Awaits due reading

-- what always holds where a checker stands
abbrev pub IsSettled : State → Type 0
IsSettled (states.Due due) = IsKeptFrom due
IsSettled (states.Whole ended) = (d : Dossier) × IsEndOf ended d × IsTrueYes d
IsSettled (states.Refused line reason) = Unit {0}
IsSettled states.Spent = Unit {0}

pub record IsKept (a : Inside) : Type 0 where
  pub state : IsSettled a.state
  pub few : a.lines ≤ LONGEST_INPUT
