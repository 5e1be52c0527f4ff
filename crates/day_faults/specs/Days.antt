-- the refused records of a day
use Rattle.std.specs.Prelude.{◌≡◌, ◌+◌, ◌++◌, ℕ, List, [], ◌∷◌, length, map, Option, None, Some}
use Rattle.day_terms.specs.Days.{IsDayOf}
use Rattle.day_terms.specs.State.{start}
use Rattle.day_terms.specs.Entries.{state_after}
use Rattle.day_terms.specs.Refusal.{AreTaken, Refusal, refusal_of}
use Rattle.day_terms.specs.declared.Entry.{Entry}
use Rattle.day_terms.specs.declared.Refused.{Refused}
use Rattle.day_faults.specs.Stops.{stop_by_state, stops_among}
use Rattle.day_faults.specs.declared.faults.FaultyRecord.{FaultyRecord}
use Rattle.day_faults.specs.declared.stops.Stop.{Stop}
use Rattle.day_faults.specs.declared.stops.StopCause.TheVariants.{InItself}

-- the first of some stops, if there is one
abbrev pub first_stop : List Stop → Option Stop
first_stop [] = None
first_stop (stop ∷ stops) = Some stop

-- the stop of a record that is refused in itself
abbrev pub stop_in_itself : Refused → Stop
stop_in_itself bad = record { number = bad.number; cause = InItself bad.cause }

-- the record at which the commands over a day stop, if at one: the first that is refused, in itself or by the state that the records
-- before it come to
pub data StopsFirst (text : List ℕ) (stop : Option Stop) : Type 0 where
  AllTaken : (entries : List Entry) (day : IsDayOf text entries None) (taken : AreTaken start entries) (is : stop ≡ None) → StopsFirst text stop
  BadRecord : (entries : List Entry) (bad : Refused) (day : IsDayOf text entries (Some bad)) (taken : AreTaken start entries)
      (is : stop ≡ Some (stop_in_itself bad)) → StopsFirst text stop
  BadEntry : (front back : List Entry) (entry : Entry) (later : Option Refused) (day : IsDayOf text (front ++ entry ∷ back) later) (taken : AreTaken start front)
      (refusal : Refusal) (refused : refusal_of (state_after [] front) entry ≡ Some refusal)
      (is : stop ≡ Some (stop_by_state (length front + 1) refusal)) → StopsFirst text stop

-- where no record is refused in itself, these stops are told; else these, the one of the first such record, and others
abbrev pub TellsWith : Option Refused → List Stop → List Stop → Type 0
TellsWith None stops told = told ≡ stops
TellsWith (Some bad) stops told = (others : List Stop) × (told ≡ stops ++ stop_in_itself bad ∷ others)

-- the stops of a day's text are told: each of those before the first record that is refused in itself, where a refused record is left
-- out as if it were not there; and that one, with what is told of the records behind it
pub record TellsStops (text : List ℕ) (told : List Stop) : Type 0 where
  pub entries : List Entry
  pub stop : Option Refused
  pub day : IsDayOf text entries stop
  pub tells : TellsWith stop (stops_among start 1 entries) told

-- the stops of faulty records
abbrev pub stops_of : List FaultyRecord → List Stop
stops_of records = map (λ r. r.stop) records

-- others were told behind those that were
pub record GoesOn (old new : List Stop) : Type 0 where
  pub others : List Stop
  pub is : new ≡ old ++ others
