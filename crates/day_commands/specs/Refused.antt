-- the line of a day's refusal
use Rattle.std.specs.Prelude.{ℕ, List, [], ◌∷◌, codes}
use Rattle.std.specs.Fmt.{decimal}
use Rattle.crew_terms.specs.Words.{Words, line_text}
use Rattle.field_table.specs.declared.fields.Cause.{Cause}
use Rattle.field_table.specs.declared.fields.Cause.TheVariants.{Count, Spelling, Range}
use Rattle.day_terms.specs.declared.DayCause.{DayCause}
use Rattle.day_terms.specs.declared.DayCause.TheVariants.{Kind, Field}
use Rattle.flight_changes.specs.declared.faults.ChangeFault.{ChangeFault}
use Rattle.flight_changes.specs.declared.faults.ChangeFault.TheVariants.{OutOfMemory, TooMany, SameName, NoPlace, NoTask, NoTeam, BadWindow, BadShift, BadTeams, MissingTravel, FrozenWork}
use Rattle.day_commands.specs.declared.refused.DayFault.{DayFault}
use Rattle.day_commands.specs.declared.refused.DayFault.TheVariants.{TooLong, InItself, Change}

-- a field's fault: its word, and the field's number where one is at fault
abbrev pub field_words : ℕ → Cause → Words
field_words place Count = codes "Count" ∷ []
field_words place Spelling = codes "Spelling" ∷ decimal place ∷ []
field_words place Range = codes "Range" ∷ decimal place ∷ []

abbrev pub record_words : DayCause → Words
record_words Kind = codes "Kind" ∷ []
record_words (Field fault) = field_words fault.place fault.cause

abbrev pub change_words : ChangeFault → Words
change_words OutOfMemory = codes "OutOfMemory" ∷ []
change_words NoTask = codes "NoTask" ∷ []
change_words NoTeam = codes "NoTeam" ∷ []
change_words NoPlace = codes "NoPlace" ∷ []
change_words SameName = codes "SameName" ∷ []
change_words TooMany = codes "TooMany" ∷ []
change_words BadWindow = codes "BadWindow" ∷ []
change_words BadShift = codes "BadShift" ∷ []
change_words BadTeams = codes "BadTeams" ∷ []
change_words (MissingTravel from to) = codes "MissingTravel" ∷ from ∷ to ∷ []
change_words (FrozenWork task) = codes "FrozenWork" ∷ task ∷ []

abbrev pub cause_words : DayFault → Words
cause_words TooLong = codes "TooLong" ∷ []
cause_words (InItself cause) = record_words cause
cause_words (Change fault) = change_words fault

-- the line `refused RECORD CAUSE`
abbrev pub refused_line : ℕ → DayFault → List ℕ
refused_line number cause = line_text (codes "refused" ∷ decimal number ∷ cause_words cause)
