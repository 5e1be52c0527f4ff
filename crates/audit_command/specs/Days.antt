-- a day, the line behind it, and what comes behind that
use Rattle.std.specs.Prelude.{◌≡◌, ◌≢◌, ◌≤◌, ◌<◌, ◌-◌, ◌++◌, ℕ, List, length, codes, All}
use Rattle.crew_terms.specs.Words.{IsLine, with_feed}
use Rattle.crew_terms.specs.declared.TheConstants.{LONGEST_DAY, LONGEST_INPUT}
use Rattle.crew_io.specs.Lines.{BeginsTooLong, IsPartial, IsTooMuch}
use Rattle.cert_checker.specs.declared.checker.Stop.{Stop}
use Rattle.cert_checker.specs.declared.checker.Stop.TheVariants as stops
use Rattle.dossier_commands.specs.Input.{Front, text_of_lines}

-- the line behind a day
abbrev pub dossiers_line : List ℕ
dossiers_line = codes "dossiers"

-- lines of a day: none of them is the one behind it
pub record AreDayLines (lines : List (List ℕ)) : Type 0 where
  pub each : All IsLine lines
  pub others : All (λ line. line ≢ dossiers_line) lines

-- the input begins with these lines of a day, within the bytes that an input may have, and the rest is left
pub record BeginsWithDay (input : List ℕ) (lines : List (List ℕ)) (rest : List ℕ) : Type 0 where
  pub are : AreDayLines lines
  pub parts : input ≡ text_of_lines lines ++ rest
  pub within : length (text_of_lines lines) ≤ LONGEST_INPUT

-- what comes before the dossiers, none of whose lines counts: the day, and the line behind it
abbrev pub front_of_day : List ℕ → Front
front_of_day text = record { text = text ++ with_feed dossiers_line; count = 0 }

-- the input is the text of a day, the line behind it, within the bytes that an input may have, and then these bytes
pub record HasDay (input text behind : List ℕ) : Type 0 where
  pub lines : List (List ℕ)
  pub are : AreDayLines lines
  pub text_is : text ≡ text_of_lines lines
  pub parts : input ≡ (front_of_day text).text ++ behind
  pub within : length (front_of_day text).text ≤ LONGEST_INPUT

-- no line comes whole within this room, and why
abbrev pub Lacks : ℕ → List ℕ → Stop → Type 0
Lacks room rest (stops.End partial) = IsPartial room rest partial
Lacks room rest stops.TooLong = BeginsTooLong room rest
Lacks room rest stops.TooMuch = IsTooMuch room rest

-- no line `dossiers` comes behind the lines of a day, and why
pub record HasNoDay (input : List ℕ) (why : Stop) : Type 0 where
  pub lines : List (List ℕ)
  pub rest : List ℕ
  pub begins : BeginsWithDay input lines rest
  pub lacks : Lacks (LONGEST_INPUT - length (text_of_lines lines)) rest why

-- the input has a day that is longer than one may be
pub record HasLongDay (input : List ℕ) : Type 0 where
  pub text : List ℕ
  pub behind : List ℕ
  pub day : HasDay input text behind
  pub more : LONGEST_DAY < length text
