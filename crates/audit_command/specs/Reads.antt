-- what is read of an audit's input, step by step
use Rattle.std.specs.Prelude.{◌≡◌, ◌≢◌, ◌≤◌, ◌<◌, ◌+◌, ◌++◌, ℕ, zero, suc, List, [], ◌∷◌, length, Option, None, Some}
use Rattle.std.specs.Global.{Vec}
use Rattle.crew_terms.specs.declared.TheConstants.{LONGEST_DAY, LONGEST_INPUT}
use Rattle.crew_io.specs.Lines.{Reader, rest_of}
use Rattle.crew_io.specs.declared.lines.Progress.{Progress}
use Rattle.crew_io.specs.declared.lines.Progress.TheVariants as progress
use Rattle.dossier_terms.specs.Dossier.{Dossier}
use Rattle.day_terms.specs.Rounds.{Round, round_at}
use Rattle.day_terms.specs.Refusal.{refusal_of}
use Rattle.day_terms.specs.declared.Entry.{Entry}
use Rattle.flight_changes.specs.declared.faults.ChangeFault.TheVariants.{OutOfMemory}
use Rattle.cert_checker.specs.Checked.{Checked}
use Rattle.cert_checker.specs.declared.checker.Stop.TheVariants as stops
use Rattle.dossier_commands.specs.Input.{CanGoOn, Front, IsBetween}
use Rattle.day_commands.specs.Rounds.{change_stop}
use Rattle.day_commands.specs.declared.refused.DayFault.{DayFault}
use Rattle.day_commands.specs.declared.refused.DayFault.TheVariants.{Change}
use Rattle.day_audit.specs.Audited.{behind_dossier, behind_entry}
use Rattle.day_audit.specs.Belongs.{BelongsToRound}
use Rattle.audit_command.specs.Days.{HasDay, HasLongDay, HasNoDay, front_of_day}
use Rattle.audit_command.specs.Events.{IsEvent, IsRoundEvent}
use Rattle.audit_command.specs.declared.event.Event.{Event}
use Rattle.audit_command.specs.declared.event.Event.TheVariants.{Belong, More, Refused}
use Rattle.audit_command.specs.declared.day_part.DayPart.{DayPart}
use Rattle.audit_command.specs.declared.day_part.DayPart.TheVariants as parts
use Rattle.audit_command.specs.declared.rounds.Dossiers.{Dossiers}
use Rattle.audit_command.specs.declared.rounds.Found.{Found}
use Rattle.audit_command.specs.declared.rounds.Found.TheVariants as finds

-- the input is what was read and what was not seen
pub record IsUnread (unseen : Option (List ℕ)) (input : List ℕ) : Type 0 where
  pub read : List ℕ
  pub rest : List ℕ
  pub left : unseen ≡ Some rest
  pub parts : input ≡ read ++ rest

-- ---- the day

-- what comes where no line does
abbrev pub part_at : Progress → DayPart
part_at (progress.End partial) = parts.NoDossiers (stops.End partial)
part_at progress.TooLong = parts.NoDossiers stops.TooLong
part_at progress.TooMuch = parts.NoDossiers stops.TooMuch
part_at progress.Line = parts.ReadFault
part_at progress.ReadFault = parts.ReadFault

-- what comes where the line `dossiers` does, with the text that was kept
abbrev pub part_of : Option (Vec ℕ) → DayPart
part_of (Some text) = parts.Text text
part_of None = parts.TooLong

-- the whole text was kept, or it is longer than a day may be
abbrev pub IsKept : Option (Vec ℕ) → List ℕ → Type 0
IsKept (Some text) whole = (text.items ≡ whole) × (length whole ≤ LONGEST_DAY)
IsKept None whole = LONGEST_DAY < length whole

-- the reader is to hand out what comes behind the day of this text, which is no longer than a day may be
pub record IsBehindDay (input text : List ℕ) (reader : Reader) (left : Option (List ℕ)) : Type 0 where
  pub within : length text ≤ LONGEST_DAY
  pub behind : List ℕ
  pub is : rest_of reader left ≡ Some behind
  pub day : HasDay input text behind
  pub handed : reader.handed ≡ length (front_of_day text).text

-- what was found of the input's day
abbrev pub IsPart : List ℕ → DayPart → Reader → Option (List ℕ) → Type 0
IsPart input (parts.Text text) reader left = IsBehindDay input text.items reader left
IsPart input parts.TooLong reader left = HasLongDay input
IsPart input (parts.NoDossiers why) reader left = HasNoDay input why
IsPart input parts.ReadFault reader left = IsUnread left input

-- where the day was read, the reader can go on
abbrev pub GoesOnBehind : DayPart → Reader → Type 0
GoesOnBehind (parts.Text text) reader = (reader.stopped ≡ None) × (reader.limit ≡ LONGEST_INPUT) × (reader.handed ≤ LONGEST_INPUT)
GoesOnBehind part reader = Unit {0}

-- ---- the dossiers

-- what was found of the input: an event, or a read failed
abbrev pub IsFound : List ℕ → Option (List ℕ) → Found → Type 0
IsFound input unseen (finds.Event event) = IsEvent input event
IsFound input unseen finds.ReadFault = IsUnread unseen input

-- the event has a line: want of memory refuses no day
abbrev pub HasLine : Event → Type 0
HasLine event = (number : ℕ) → event ≢ Refused number (Change OutOfMemory)

-- if an event was found, it has a line
abbrev pub FoundHasLine : Found → Type 0
FoundHasLine (finds.Event event) = HasLine event
FoundHasLine finds.ReadFault = Unit {0}

-- what is found amid the records of a day: it has a line, and is not that all dossiers belong to it
pub record IsAmid (found : Found) : Type 0 where
  pub line : FoundHasLine found
  pub amid : (rounds : ℕ) → found ≢ finds.Event (Belong rounds)

-- behind the dossiers of all rounds, of which there are so many, this is left, and it was found so
pub data EndsSo (rounds : ℕ) (rest : List ℕ) (unseen : Option (List ℕ)) (found : Found) : Type 0 where
  NoneLeft : (none : rest ≡ []) (is : found ≡ finds.Event (Belong rounds)) → EndsSo rounds rest unseen found
  SomeLeft : (some : rest ≢ []) (is : found ≡ finds.Event (More rounds)) → EndsSo rounds rest unseen found
  Unknown : (unread : IsUnread unseen rest) (is : found ≡ finds.ReadFault) → EndsSo rounds rest unseen found

-- what is found at the end, where the reader answers so
abbrev pub found_at_end : ℕ → Progress → Found
found_at_end rounds (progress.End zero) = finds.Event (Belong rounds)
found_at_end rounds (progress.End (suc n)) = finds.Event (More rounds)
found_at_end rounds progress.ReadFault = finds.ReadFault
found_at_end rounds progress.Line = finds.Event (More rounds)
found_at_end rounds progress.TooLong = finds.Event (More rounds)
found_at_end rounds progress.TooMuch = finds.Event (More rounds)

-- the reader and the checker have come to what is behind the line `dossiers` of an input with this day
pub record IsBehindLine (input text : List ℕ) (reader : Reader) (left : Option (List ℕ)) (checker : Checked) : Type 0 where
  pub within : length text ≤ LONGEST_DAY
  pub behind : List ℕ
  pub day : HasDay input text behind
  pub between : IsBetween (front_of_day text) input [] reader left checker

-- the next dossier of the input was read, and belongs to the round that was due
pub record IsDossierRead (old : Dossiers) (front : Front) (input : List ℕ) (done : List Dossier) (new : Dossiers) (later : Option (List ℕ)) : Type 0 where
  pub dossier : Dossier
  pub belongs : (round : Round) → old.audit.due ≡ Some round → BelongsToRound old.audit.handed round dossier
  pub audit : new.audit ≡ behind_dossier old.audit dossier
  pub between : IsBetween front input (done ++ dossier ∷ []) new.reader later new.checker

-- the dossier of a round that belongs to it was read
pub record ReadsDossier (old : Dossiers) (left : Option (List ℕ)) (new : Dossiers) (later : Option (List ℕ)) : Type 0 where
  pub rounds : new.rounds ≡ old.rounds + 1
  pub going : CanGoOn new.reader new.checker
  pub reads : (front : Front) (input : List ℕ) (done : List Dossier) → IsBetween front input done old.reader left old.checker → IsDossierRead old front input done new later

-- what was found beside the round that is due
abbrev pub IsFoundAtRound : Dossiers → Round → Front → List ℕ → List Dossier → Option (List ℕ) → Found → Type 0
IsFoundAtRound old round front input done unseen (finds.Event event) = IsRoundEvent old.audit.handed round (old.rounds + 1) front input done event
IsFoundAtRound old round front input done unseen finds.ReadFault = IsUnread unseen input

-- what the reading of a round's dossier comes to: it belongs to the round, or this was found
abbrev pub ReadsRound : Dossiers → Option (List ℕ) → Option Found → Dossiers → Option (List ℕ) → Type 0
ReadsRound old left None new later = ReadsDossier old left new later
ReadsRound old left (Some found) new later = (round : Round) (front : Front) (input : List ℕ) (done : List Dossier) → old.audit.due ≡ Some round
    → IsBetween front input done old.reader left old.checker → IsFoundAtRound old round front input done later found

-- behind an entry that is taken
abbrev pub with_entry : Dossiers → Entry → Dossiers
with_entry old entry = record old { audit = behind_entry old.audit entry }

-- what a record of this number comes to
pub data ReadsEntry (old : Dossiers) (left : Option (List ℕ)) (number : ℕ) (entry : Entry) (found : Option Found) (new : Dossiers) (later : Option (List ℕ)) : Type 0 where
  IsChange : (taken : refusal_of old.audit.day entry ≡ None) (none : round_at old.audit.day entry ≡ []) (is : found ≡ None)
      (same : new ≡ with_entry old entry) (unread : later ≡ left) → ReadsEntry old left number entry found new later
  IsStopped : (fault : DayFault) (refused : change_stop old.audit.day entry ≡ Some fault) (is : found ≡ Some (finds.Event (Refused number fault)))
      → ReadsEntry old left number entry found new later
  IsRound : (round : Round) (taken : refusal_of old.audit.day entry ≡ None) (begins : round_at old.audit.day entry ≡ round ∷ [])
      (read : ReadsRound (with_entry old entry) left found new later) → ReadsEntry old left number entry found new later
