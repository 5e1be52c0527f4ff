-- the entries of a day that are refused, where each one that is refused is left out
use Rattle.std.specs.Prelude.{◌+◌, ◌++◌, ℕ, List, [], ◌∷◌, Option, None, Some}
use Rattle.day_terms.specs.State.{DayState}
use Rattle.day_terms.specs.Entries.{after_entry}
use Rattle.day_terms.specs.Refusal.{Refusal, refusal_of}
use Rattle.day_terms.specs.declared.Entry.{Entry}
use Rattle.flight_changes.specs.Faults.{fault_of}
use Rattle.day_faults.specs.declared.stops.Stop.{Stop}
use Rattle.day_faults.specs.declared.stops.StopCause.TheVariants.{Change}

-- the state that was, where there is a refusal, and else this one
abbrev pub unless_refused : Option Refusal → DayState → DayState → DayState
unless_refused None old new = new
unless_refused (Some refusal) old new = old

-- the state behind an entry: changed by it, or as it was where the entry is refused
abbrev pub passed : DayState → Entry → DayState
passed s entry = unless_refused (refusal_of s entry) s (after_entry s entry)

-- the stop of a record with this number that is refused so by the state
abbrev pub stop_by_state : ℕ → Refusal → Stop
stop_by_state number refusal = record { number = number; cause = Change (fault_of refusal) }

-- the stop of a record with this number, if there is a refusal
abbrev pub stop_for : ℕ → Option Refusal → List Stop
stop_for number None = []
stop_for number (Some refusal) = stop_by_state number refusal ∷ []

-- of these entries, the first of which has this number, those that are refused in the state that the ones taken before come to
abbrev pub stops_among : DayState → ℕ → List Entry → List Stop
stops_among s number [] = []
stops_among s number (entry ∷ entries) = stop_for number (refusal_of s entry) ++ stops_among (passed s entry) (number + 1) entries
