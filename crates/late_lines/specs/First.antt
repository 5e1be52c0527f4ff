-- an input as it is read up to the line `dossier`
use Rattle.std.specs.Prelude.{◌≡◌, ◌≤◌, ◌<◌, ◌-◌, ◌++◌, ℕ, suc, List, Option, None, Some, length, map}
use Rattle.crew_terms.specs.Words.{IsLine, words_of, with_feed}
use Rattle.crew_terms.specs.declared.TheConstants.{LONGEST_INPUT}
use Rattle.crew_io.specs.Lines.{Reader, IsPartial, rest_of}
use Rattle.crew_io.specs.declared.lines.Progress.{Progress}
use Rattle.crew_io.specs.declared.lines.Progress.TheVariants as progress
use Rattle.dossier_terms.specs.declared.Reason.{Reason}
use Rattle.dossier_terms.specs.declared.Reason.TheVariants as reasons
use Rattle.line_in.specs.declared.faults.LineFault.{LineFault}
use Rattle.line_in.specs.Faults.{reason_for}
use Rattle.dossier_commands.specs.Input.{IsStop, text_of_lines}
use Rattle.late_lines.specs.declared.first_line.LateLine.{LateLine}
use Rattle.late_lines.specs.declared.halt.Halt.{Halt}
use Rattle.late_lines.specs.declared.halt.Halt.TheVariants.{No, ReadFault, OutOfMemory}
use Rattle.late_lines.specs.Lines.{AreLateLines, IsLineFault, late_text}

-- the input begins with these lines, within the bytes that an input may have; the rest is left
pub record BeginsWith (lines : List (List ℕ)) (input rest : List ℕ) : Type 0 where
  pub text : input ≡ text_of_lines lines ++ rest
  pub within : length (text_of_lines lines) ≤ LONGEST_INPUT

-- how many bytes may come after these lines
abbrev pub room_past : List (List ℕ) → ℕ
room_past lines = LONGEST_INPUT - length (text_of_lines lines)

-- the first line of the input that is refused, before a dossier and after these lines, numbered from 1, and why
pub data IsFirstRefusal (input : List ℕ) (number : ℕ) (reason : Reason) : Type 0 where
  -- a line has a fault
  BadLine : (lates : List LateLine) (are : AreLateLines lates) (line after : List ℕ) (read : BeginsWith (map late_text lates) input (with_feed line ++ after))
      (plain : IsLine line) (fits : length line < room_past (map late_text lates)) (fault : LineFault) (how : IsLineFault lates (words_of line) fault)
      (is : number ≡ suc (length lates)) (why : reason ≡ reason_for fault) → IsFirstRefusal input number reason
  -- no line comes whole where one is due
  NoLine : (lates : List LateLine) (are : AreLateLines lates) (rest : List ℕ) (read : BeginsWith (map late_text lates) input rest)
      (stop : IsStop (room_past (map late_text lates)) rest reason) (is : number ≡ suc (length lates)) → IsFirstRefusal input number reason

-- a read failed: no line that was read before is refused, a front of one more may be read, and this is unseen
pub record IsInterruptedFirst (input : List ℕ) (left : Option (List ℕ)) : Type 0 where
  pub lates : List LateLine
  pub are : AreLateLines lates
  pub part : List ℕ
  pub unseen : List ℕ
  pub rest : left ≡ Some unseen
  pub read : BeginsWith (map late_text lates) input (part ++ unseen)
  pub front : IsPartial (room_past (map late_text lates)) part (length part)

-- the reader has handed out these lines, with which the input begins
pub record IsAfter (lines : List (List ℕ)) (input : List ℕ) (reader : Reader) (left : Option (List ℕ)) : Type 0 where
  pub rest : List ℕ
  pub is : rest_of reader left ≡ Some rest
  pub read : BeginsWith lines input rest
  pub handed : reader.handed ≡ length (text_of_lines lines)

-- why the reading of the lines before a dossier goes no further
abbrev pub HaltsFirst : List ℕ → Option (List ℕ) → Halt → Type 0
HaltsFirst input left (No line reason) = IsFirstRefusal input line reason
HaltsFirst input left ReadFault = IsInterruptedFirst input left
HaltsFirst input left OutOfMemory = Unit {0}

-- why the line of this number does not come whole
abbrev pub halt_of : ℕ → Progress → Option Halt
halt_of line progress.Line = None
halt_of line progress.TooLong = Some (No line reasons.TooLong)
halt_of line progress.TooMuch = Some (No line reasons.TooMuch)
halt_of line (progress.End partial) = Some (No line reasons.End)
halt_of line progress.ReadFault = Some ReadFault
