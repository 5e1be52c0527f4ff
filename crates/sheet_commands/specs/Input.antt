-- an input as a reading finds it: sheets that are whole, and the first line that is refused
use Rattle.std.specs.Prelude.{◌≡◌, ◌≢◌, ◌≤◌, ◌<◌, ◌+◌, ◌-◌, ◌++◌, ◌↔◌, ℕ, suc, List, [], ◌∷◌, Option, None, Some, length, map, All}
use Rattle.std.specs.List.{flat_map}
use Rattle.crew_terms.specs.Legal.{IsLegal}
use Rattle.crew_terms.specs.Plan.{Plan, unassigned_count}
use Rattle.crew_terms.specs.Words.{IsLine, words_of, with_feed}
use Rattle.crew_terms.specs.declared.TheConstants.{LONGEST_INPUT}
use Rattle.crew_io.specs.Lines.{Reader, IsPartial, rest_of}
use Rattle.crew_io.specs.declared.lines.Progress.{Progress}
use Rattle.crew_io.specs.declared.lines.Progress.TheVariants as progress
use Rattle.dossier_terms.specs.declared.Reason.{Reason}
use Rattle.cert_checker.specs.Checked.{stop_reason_of}
use Rattle.cert_checker.specs.declared.checker.Stop.{Stop}
use Rattle.cert_checker.specs.declared.checker.Stop.TheVariants as stops
use Rattle.dossier_commands.specs.Input.{IsGoing, IsStop, text_of_lines, told_of}
use Rattle.sheet_terms.specs.Sheet.{Sheet, IsGoodSheet}
use Rattle.sheet_terms.specs.Lines.{lines_of_sheet, text_of_sheet}
use Rattle.sheet_terms.specs.Reading.{SheetReading, First, No as Refuses}
use Rattle.sheet_terms.specs.Table.{SaysOfSheet, ReachesInSheet}
use Rattle.sheet_texts.specs.Accepted.{AreAcceptedSheets}
use Rattle.sheet_checker.specs.Checked.{Checked, IsOpen as IsDue, fresh_checker, refused_at}
use Rattle.sheet_checker.specs.declared.checker.State.TheVariants.{Refused, Whole}
use Rattle.sheet_commands.specs.declared.input.Outcome.{Outcome}
use Rattle.sheet_commands.specs.declared.input.Outcome.TheVariants.{Yes, End, No, ReadFault}

-- the bytes of whole sheets and of the lines behind them
abbrev pub text_before : List Sheet → List (List ℕ) → List ℕ
text_before done lines = flat_map text_of_sheet done ++ text_of_lines lines

-- how many lines these are
abbrev pub lines_before : List Sheet → List (List ℕ) → ℕ
lines_before done lines = length (flat_map lines_of_sheet done) + length lines

-- the input begins with these good sheets and these lines of the next one, which lead to what is due, within the bytes that an
-- input may have; the rest is left
pub record HasRead (input : List ℕ) (done : List Sheet) (lines : List (List ℕ)) (rest : List ℕ) (due : SheetReading) : Type 0 where
  pub text : input ≡ text_before done lines ++ rest
  pub within : length (text_before done lines) ≤ LONGEST_INPUT
  pub good : All IsGoodSheet done
  pub each : All IsLine lines
  pub leads : ReachesInSheet First (map words_of lines) due

-- how many bytes may come after these lines
abbrev pub room_after : List Sheet → List (List ℕ) → ℕ
room_after done lines = LONGEST_INPUT - length (text_before done lines)

-- nothing comes behind a whole sheet
pub record IsEnd (done : List Sheet) (lines : List (List ℕ)) (rest : List ℕ) : Type 0 where
  pub some : done ≢ []
  pub between : lines ≡ []
  pub none : rest ≡ []

-- the first line of the input that is refused, behind these sheets, numbered from 1, and why
pub data IsRefusal (input : List ℕ) (done : List Sheet) (number : ℕ) (reason : Reason) : Type 0 where
  -- a line breaks a rule
  BadLine : (lines : List (List ℕ)) (line after : List ℕ) (due : SheetReading) (read : HasRead input done lines (with_feed line ++ after) due)
      (plain : IsLine line) (fits : length line < room_after done lines) (answer : SaysOfSheet due (words_of line) (Refuses reason))
      (is : number ≡ suc (lines_before done lines)) → IsRefusal input done number reason
  -- no line comes whole where one is due
  NoLine : (lines : List (List ℕ)) (rest : List ℕ) (due : SheetReading) (read : HasRead input done lines rest due)
      (stop : IsStop (room_after done lines) rest reason) (more : IsEnd done lines rest → ⊥)
      (is : number ≡ suc (lines_before done lines)) → IsRefusal input done number reason

-- the sheet is good, and no legal plan of its instance leaves fewer tasks unassigned than its bound
pub record IsTrueSheet (s : Sheet) : Type 0 where
  pub good : IsGoodSheet s
  pub bound : (p : Plan) → IsLegal s.instance p → s.bound ≤ unassigned_count p

-- a checker has read nothing yet, or its last line ended a sheet
pub data IsAtFirst (checker : Checked) : Type 0 where
  Fresh : (is : checker ≡ fresh_checker) → IsAtFirst checker
  Behind : (ended : checker.at ≡ Whole) → IsAtFirst checker

-- the reader can go on, and the checker has judged the lines that it handed out, to the end of a sheet
pub record CanGoOn (reader : Reader) (checker : Checked) : Type 0 where
  pub going : IsGoing reader checker.lines
  pub first : IsAtFirst checker

-- the reader has handed out these sheets, and is to hand out the next one; the checker has judged them
pub record IsBetween (input : List ℕ) (done : List Sheet) (reader : Reader) (left : Option (List ℕ)) (checker : Checked) : Type 0 where
  pub rest : List ℕ
  pub is : rest_of reader left ≡ Some rest
  pub read : HasRead input done [] rest First
  pub handed : reader.handed ≡ length (text_before done [])
  pub number : checker.lines ≡ lines_before done []
  pub ended : (checker.at ≡ Whole) ↔ (done ≢ [])

-- a read failed: no line that was read before is refused, and what is held is the front of one more
pub record IsInterrupted (input : List ℕ) (done : List Sheet) (reader : Reader) (left : Option (List ℕ)) : Type 0 where
  pub lines : List (List ℕ)
  pub rest : List ℕ
  pub due : SheetReading
  pub is : rest_of reader left ≡ Some rest
  pub read : HasRead input done lines rest due
  pub part : IsPartial (room_after done lines) reader.held (length reader.held)

-- the outcome where no line comes whole, and the checker before and after
pub data IsOutcomeAtStop (old : Checked) (answer : Progress) (new : Checked) (outcome : Outcome) : Type 0 where
  Over : (end : answer ≡ progress.End 0) (ended : old.at ≡ Whole) (same : new ≡ old) (is : outcome ≡ End) → IsOutcomeAtStop old answer new outcome
  Short : (why : Stop) (told : told_of answer ≡ Some why) (more : old.at ≡ Whole → why ≡ stops.End 0 → ⊥)
      (refused : new ≡ refused_at old (stop_reason_of why)) (is : outcome ≡ No (old.lines + 1) (stop_reason_of why)) → IsOutcomeAtStop old answer new outcome
  Fault : (told : told_of answer ≡ None) (same : new ≡ old) (is : outcome ≡ ReadFault) → IsOutcomeAtStop old answer new outcome

-- the next sheet is whole and has this bound, and what it says is true
pub record IsNextSheet (input : List ℕ) (done : List Sheet) (l : ℕ) (reader : Reader) (left : Option (List ℕ)) (checker : Checked) : Type 0 where
  pub sheet : Sheet
  pub says : l ≡ sheet.bound
  pub true_yes : IsTrueSheet sheet
  pub between : IsBetween input (done ++ sheet ∷ []) reader left checker

-- what a reading behind these sheets found
abbrev pub IsOutcome : List ℕ → List Sheet → Reader → Option (List ℕ) → Checked → Outcome → Type 0
IsOutcome input done reader left checker (Yes l) = IsNextSheet input done l reader left checker
IsOutcome input done reader left checker End = AreAcceptedSheets input done
IsOutcome input done reader left checker (No line reason) = IsRefusal input done line reason
IsOutcome input done reader left checker ReadFault = IsInterrupted input done reader left

-- after a sheet the reader and the checker can go on, and more was handed out; at the end the checker's last sheet is still
-- whole, a line that is refused stays so, and behind a read that failed a line is due still
abbrev pub OpensNext : Reader → Reader → Checked → Outcome → Type 0
OpensNext old new checker (Yes l) = CanGoOn new checker × (old.handed < new.handed)
OpensNext old new checker End = checker.at ≡ Whole
OpensNext old new checker (No line reason) = checker.at ≡ Refused line reason
OpensNext old new checker ReadFault = IsDue checker.at
