-- what is told of a day, as text
use Rattle.std.specs.Prelude.{ℕ, Bool, true, false, List, [], ◌∷◌, ◌++◌, Option, None, Some, codes}
use Rattle.std.specs.List.{flat_map}
use Rattle.std.specs.Fmt.{decimal}
use Rattle.crew_terms.specs.Words.{Words, line_text}
use Rattle.each_out.specs.Pieces.{joined}
use Rattle.field_table.specs.declared.fields.Cause.{Cause}
use Rattle.field_table.specs.declared.fields.Cause.TheVariants.{Count, Spelling, Range}
use Rattle.day_terms.specs.declared.DayCause.{DayCause}
use Rattle.day_terms.specs.declared.DayCause.TheVariants.{Kind, Field}
use Rattle.flight_changes.specs.declared.faults.ChangeFault.{ChangeFault}
use Rattle.flight_changes.specs.declared.faults.ChangeFault.TheVariants.{OutOfMemory, TooMany, SameName, NoPlace, NoTask, NoTeam, BadWindow, BadShift, BadTeams, MissingTravel, FrozenWork}
use Rattle.day_faults.specs.Days.{first_stop, stops_of}
use Rattle.day_faults.specs.declared.passes.DayFaults.{DayFaults}
use Rattle.day_faults.specs.declared.stops.Stop.{Stop}
use Rattle.day_faults.specs.declared.stops.StopCause.{StopCause}
use Rattle.day_faults.specs.declared.stops.StopCause.TheVariants.{InItself, Change}
use Rattle.day_explain.specs.declared.told.Told.{Told}

-- the line of a fault: where its record begins, and what is told of it
abbrev pub told_text : Told → List ℕ
told_text told = joined (codes "line " ∷ decimal told.placed.line ∷ codes ": " ∷ told.hint.items ∷ (10 ∷ []) ∷ [])

-- without a record `plan` nothing will be planned
abbrev pub plan_text : Bool → List ℕ
plan_text true = []
plan_text false = codes "the day has no record plan: nothing will be planned" ++ 10 ∷ []

-- the line of the first record, behind a `now`, that may be refused for the sake of frozen work
abbrev pub frozen_text : Option ℕ → List ℕ
frozen_text None = []
frozen_text (Some line) =
    joined (codes "line " ∷ decimal line ∷ codes ": behind a record now, day may refuse a change for work that has begun, as FrozenWork;"
    ∷ (codes " then write thaw,TASK first, or shift,TEAM,FROM,NOW" ++ 10 ∷ []) ∷ [])

-- what is to be remarked of a day, and is no fault
abbrev pub remarks_text : DayFaults → List ℕ
remarks_text faults = plan_text faults.has_plan ++ frozen_text faults.may_be_frozen

-- ---- what `apply` would say

-- why a record is refused in itself: a field's fault, with the field's number where one is at fault
abbrev pub field_words : ℕ → Cause → Words
field_words place Count = codes "Count" ∷ []
field_words place Spelling = codes "Spelling" ∷ decimal place ∷ []
field_words place Range = codes "Range" ∷ decimal place ∷ []

-- the word for why the state refuses a record
abbrev pub change_word : ChangeFault → List ℕ
change_word OutOfMemory = codes "OutOfMemory"
change_word NoTask = codes "NoTask"
change_word NoTeam = codes "NoTeam"
change_word NoPlace = codes "NoPlace"
change_word SameName = codes "SameName"
change_word TooMany = codes "TooMany"
change_word BadWindow = codes "BadWindow"
change_word BadShift = codes "BadShift"
change_word BadTeams = codes "BadTeams"
change_word (MissingTravel from to) = codes "MissingTravel"
change_word (FrozenWork task) = codes "FrozenWork"

-- the names that stand behind it
abbrev pub change_names : ChangeFault → Words
change_names (MissingTravel from to) = from ∷ to ∷ []
change_names (FrozenWork task) = task ∷ []
change_names _ = []

abbrev pub record_words : DayCause → Words
record_words Kind = codes "Kind" ∷ []
record_words (Field fault) = field_words fault.place fault.cause

abbrev pub cause_words : StopCause → Words
cause_words (InItself cause) = record_words cause
cause_words (Change fault) = change_word fault ∷ change_names fault

-- the line `refused RECORD CAUSE`
abbrev pub refused_text : ℕ → StopCause → List ℕ
refused_text number cause = line_text (codes "refused" ∷ decimal number ∷ cause_words cause)

-- what `apply` would say where it refuses this record, or none
abbrev pub apply_text : Option Stop → List ℕ
apply_text None = codes "apply would refuse nothing" ++ 10 ∷ []
apply_text (Some stop) = codes "apply would say: " ++ refused_text stop.number stop.cause

-- ---- all of it

-- a line for each fault, the remarks, and what `apply` would say
unfoldable pub explanation : DayFaults → List Told → List ℕ
explanation faults told = (flat_map told_text told ++ remarks_text faults) ++ apply_text (first_stop (stops_of faults.records.items))

-- of a text that is longer than a day's may be
abbrev pub long_text : List ℕ
long_text = codes "the day is longer than 8388608 bytes" ++ 10 ∷ (codes "apply would say: refused 0 TooLong" ++ 10 ∷ [])
