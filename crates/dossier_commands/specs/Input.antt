-- an input as a reading finds it: a front, dossiers that are whole, and the first line that is refused
use Rattle.std.specs.Prelude.{◌≡◌, ◌≢◌, ◌≤◌, ◌<◌, ◌+◌, ◌-◌, ◌++◌, ◌↔◌, ℕ, suc, List, [], ◌∷◌, Option, None, Some, length, map, All}
use Rattle.std.specs.List.{flat_map}
use Rattle.crew_terms.specs.Words.{IsLine, words_of, with_feed}
use Rattle.crew_terms.specs.declared.TheConstants.{LONGEST_INPUT}
use Rattle.crew_io.specs.Lines.{Reader, IsPartial, BeginsTooLong, IsTooMuch, rest_of, with_left}
use Rattle.crew_io.specs.declared.lines.Progress.{Progress}
use Rattle.crew_io.specs.declared.lines.Progress.TheVariants as progress
use Rattle.dossier_terms.specs.declared.Reason.{Reason}
use Rattle.dossier_terms.specs.declared.Reason.TheVariants.{End as EndReason, TooLong, TooMuch}
use Rattle.dossier_terms.specs.Dossier.{Dossier, IsGood}
use Rattle.dossier_terms.specs.Lines.{lines_of, text_of}
use Rattle.dossier_terms.specs.Reading.{Reading, No as Refuses, Form}
use Rattle.dossier_terms.specs.Table.{Says, Reaches}
use Rattle.dossier_terms.specs.Accepted.{IsAccepted}
use Rattle.cert_checker.specs.Checked.{Checked, IsEnded, IsOpen as IsDue, IsTrueYes, IsWholeAt, opened_at, refused_at, stop_reason_of, verdict_of}
use Rattle.cert_checker.specs.declared.checker.State.TheVariants.{Refused}
use Rattle.cert_checker.specs.declared.checker.Verdict.{Verdict}
use Rattle.cert_checker.specs.declared.checker.Stop.{Stop}
use Rattle.cert_checker.specs.declared.checker.Stop.TheVariants as stops
use Rattle.dossier_commands.specs.declared.input.Outcome.{Outcome}
use Rattle.dossier_commands.specs.declared.input.Outcome.TheVariants.{Yes, End, No, ReadFault}

-- the bytes of whole lines
abbrev pub text_of_lines : List (List ℕ) → List ℕ
text_of_lines lines = flat_map with_feed lines

-- what comes before the dossiers of an input: its bytes, and how many lines a no line's number counts for them
pub record Front : Type 0 where
  pub text : List ℕ
  pub count : ℕ

-- nothing does
abbrev pub no_front : Front
no_front = record { text = []; count = 0 }

-- these lines do, all of which count
abbrev pub front_of : List (List ℕ) → Front
front_of lines = record { text = text_of_lines lines; count = length lines }

-- the bytes of a front, of whole dossiers and of the lines behind them
abbrev pub text_before : Front → List Dossier → List (List ℕ) → List ℕ
text_before front done lines = front.text ++ (flat_map text_of done ++ text_of_lines lines)

-- how many lines these are
abbrev pub lines_before : Front → List Dossier → List (List ℕ) → ℕ
lines_before front done lines = front.count + (length (flat_map lines_of done) + length lines)

-- the input begins with the front, these good dossiers and these lines of the next one, which lead to what is due, within
-- the bytes that an input may have; the rest is left
pub record HasRead (front : Front) (input : List ℕ) (done : List Dossier) (lines : List (List ℕ)) (rest : List ℕ) (due : Reading) : Type 0 where
  pub text : input ≡ text_before front done lines ++ rest
  pub within : length (text_before front done lines) ≤ LONGEST_INPUT
  pub good : All IsGood done
  pub each : All IsLine lines
  pub leads : Reaches Form (map words_of lines) due

-- the dossiers go on to the others, by those of a tail
pub record GoTo (done others : List Dossier) : Type 0 where
  pub tail : List Dossier
  pub is : others ≡ done ++ tail

-- how many bytes may come after these lines
abbrev pub room_after : Front → List Dossier → List (List ℕ) → ℕ
room_after front done lines = LONGEST_INPUT - length (text_before front done lines)

-- the input is the front and behind it dossiers that are accepted, within the bytes that an input may have
pub record IsAcceptedBehind (front : Front) (input : List ℕ) (done : List Dossier) : Type 0 where
  pub behind : List ℕ
  pub text : input ≡ front.text ++ behind
  pub within : length input ≤ LONGEST_INPUT
  pub accepted : IsAccepted behind done

-- no line comes whole: the input stops, or the line or the input is too long
pub data IsStop (room : ℕ) (rest : List ℕ) (reason : Reason) : Type 0 where
  Stops : (partial : ℕ) (part : IsPartial room rest partial) (is : reason ≡ EndReason) → IsStop room rest reason
  LineTooLong : (long : BeginsTooLong room rest) (is : reason ≡ TooLong) → IsStop room rest reason
  InputTooLong : (long : IsTooMuch room rest) (is : reason ≡ TooMuch) → IsStop room rest reason

-- nothing comes behind a whole dossier
pub record IsEnd (done : List Dossier) (lines : List (List ℕ)) (rest : List ℕ) : Type 0 where
  pub some : done ≢ []
  pub between : lines ≡ []
  pub none : rest ≡ []

-- the first line of the input that is refused, behind the front and these dossiers, numbered from 1, and why
pub data IsRefusal (front : Front) (input : List ℕ) (done : List Dossier) (number : ℕ) (reason : Reason) : Type 0 where
  -- a line breaks a rule
  BadLine : (lines : List (List ℕ)) (line after : List ℕ) (due : Reading) (read : HasRead front input done lines (with_feed line ++ after) due)
      (plain : IsLine line) (fits : length line < room_after front done lines) (answer : Says due (words_of line) (Refuses reason))
      (is : number ≡ suc (lines_before front done lines)) → IsRefusal front input done number reason
  -- no line comes whole where one is due
  NoLine : (lines : List (List ℕ)) (rest : List ℕ) (due : Reading) (read : HasRead front input done lines rest due)
      (stop : IsStop (room_after front done lines) rest reason) (more : IsEnd done lines rest → ⊥)
      (is : number ≡ suc (lines_before front done lines)) → IsRefusal front input done number reason

-- what holds of a reader that has handed out so many lines
pub record IsGoing (reader : Reader) (count : ℕ) : Type 0 where
  pub going : reader.stopped ≡ None
  pub limit : reader.limit ≡ LONGEST_INPUT
  pub within : reader.handed ≤ LONGEST_INPUT
  pub few : count ≤ reader.handed

-- a checker has read nothing yet, or its last line ended a dossier
pub data IsAtFirst (checker : Checked) : Type 0 where
  Fresh : (is : checker ≡ opened_at checker.lines) → IsAtFirst checker
  Behind : (ended : IsEnded checker.at) → IsAtFirst checker

-- the reader can go on, and the checker has judged the lines that it handed out, to the end of a dossier
pub record CanGoOn (reader : Reader) (checker : Checked) : Type 0 where
  pub going : IsGoing reader checker.lines
  pub first : IsAtFirst checker

-- the reader has handed out the front and these dossiers, and is to hand out the next one; the checker has judged them
pub record IsBetween (front : Front) (input : List ℕ) (done : List Dossier) (reader : Reader) (left : Option (List ℕ)) (checker : Checked) : Type 0 where
  pub rest : List ℕ
  pub is : rest_of reader left ≡ Some rest
  pub read : HasRead front input done [] rest Form
  pub handed : reader.handed ≡ length (text_before front done [])
  pub number : checker.lines ≡ lines_before front done []
  pub ended : IsEnded checker.at ↔ (done ≢ [])

-- a read failed: no line that was read before is refused, and what is held is the front of one more
pub record IsInterrupted (front : Front) (input : List ℕ) (done : List Dossier) (reader : Reader) (left : Option (List ℕ)) : Type 0 where
  pub lines : List (List ℕ)
  pub rest : List ℕ
  pub due : Reading
  pub is : rest_of reader left ≡ Some rest
  pub read : HasRead front input done lines rest due
  pub part : IsPartial (room_after front done lines) reader.held (length reader.held)

-- why no line comes, as the checker is told it
abbrev pub told_of : Progress → Option Stop
told_of progress.Line = None
told_of progress.TooLong = Some stops.TooLong
told_of progress.TooMuch = Some stops.TooMuch
told_of (progress.End partial) = Some (stops.End partial)
told_of progress.ReadFault = None

-- the outcome where no line comes whole, and the checker before and after
pub data IsOutcomeAtStop (old : Checked) (answer : Progress) (new : Checked) (outcome : Outcome) : Type 0 where
  Over : (end : answer ≡ progress.End 0) (ended : IsEnded old.at) (same : new ≡ old) (is : outcome ≡ End) → IsOutcomeAtStop old answer new outcome
  Short : (why : Stop) (told : told_of answer ≡ Some why) (more : IsEnded old.at → why ≡ stops.End 0 → ⊥)
      (refused : new ≡ refused_at old (stop_reason_of why)) (is : outcome ≡ No (old.lines + 1) (stop_reason_of why)) → IsOutcomeAtStop old answer new outcome
  Fault : (told : told_of answer ≡ None) (same : new ≡ old) (is : outcome ≡ ReadFault) → IsOutcomeAtStop old answer new outcome

-- the checker has a dossier that is whole, of which this is said: it is good, its plan is legal, and every legal plan
-- leaves at least its bound unassigned
pub record IsYes (verdict : Verdict) (checker : Checked) : Type 0 where
  pub dossier : Dossier
  pub whole : IsWholeAt checker.at dossier
  pub says : verdict ≡ verdict_of dossier
  pub true_yes : IsTrueYes dossier

-- the next dossier is whole, of which this is said, and it is so
pub record IsNextDossier (front : Front) (input : List ℕ) (done : List Dossier) (verdict : Verdict) (reader : Reader) (left : Option (List ℕ)) (checker : Checked) : Type 0 where
  pub dossier : Dossier
  pub whole : IsWholeAt checker.at dossier
  pub says : verdict ≡ verdict_of dossier
  pub true_yes : IsTrueYes dossier
  pub between : IsBetween front input (done ++ dossier ∷ []) reader left checker

-- what a reading behind these dossiers found
abbrev pub IsOutcome : Front → List ℕ → List Dossier → Reader → Option (List ℕ) → Checked → Outcome → Type 0
IsOutcome front input done reader left checker (Yes verdict) = IsNextDossier front input done verdict reader left checker
IsOutcome front input done reader left checker End = IsAcceptedBehind front input done
IsOutcome front input done reader left checker (No line reason) = IsRefusal front input done line reason
IsOutcome front input done reader left checker ReadFault = IsInterrupted front input done reader left

-- after a dossier the reader and the checker can go on, more was handed out, and the yes is true; at the end the checker's last dossier
-- is still whole, a line that is refused stays so, and behind a read that failed a line is due still
abbrev pub OpensNext : Reader → Reader → Checked → Outcome → Type 0
OpensNext old new checker (Yes verdict) = CanGoOn new checker × (old.handed < new.handed) × IsYes verdict checker
OpensNext old new checker End = IsEnded checker.at
OpensNext old new checker (No line reason) = checker.at ≡ Refused line reason
OpensNext old new checker ReadFault = IsDue checker.at

-- from the one to the other the reader has handed out these bytes
abbrev pub HasHandedOut : Reader → Option (List ℕ) → List ℕ → Reader → Option (List ℕ) → Type 0
HasHandedOut old left bytes new later = rest_of old left ≡ with_left bytes (rest_of new later)

-- the bytes of a whole dossier are kept
abbrev pub KeepsDossier : Reader → Option (List ℕ) → List ℕ → Reader → Option (List ℕ) → Outcome → Type 0
KeepsDossier old left kept new later (Yes verdict) = HasHandedOut old left kept new later
KeepsDossier old left kept new later _ = Unit {0}
