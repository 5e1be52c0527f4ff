-- the lines of a stream
use Rattle.std.specs.Prelude.{◌≡◌, ◌≢◌, ◌≤◌, ◌<◌, ◌+◌, ◌-◌, ◌++◌, ℕ, List, [], length, take, drop, Option, None, Some, All, slice_index}
use Rattle.std.specs.Option.{option_map}
use Rattle.crew_terms.specs.Words.{IsLine, with_feed}
use Rattle.crew_terms.specs.declared.TheConstants.{LONGEST_LINE}
use Rattle.crew_io.specs.Io.{MOST}
use Rattle.crew_io.specs.declared.lines.Progress.{Progress}
use Rattle.crew_io.specs.declared.lines.Progress.TheVariants.{Line, TooLong, TooMuch, End, ReadFault}

-- a reader: how many bytes it may hand out and has handed out, the bytes that it holds, the line that it read last, and the answer that it stopped with
pub record Reader : Type 0 where
  pub limit : ℕ
  pub handed : ℕ
  pub held : List ℕ
  pub line : List ℕ
  pub stopped : Option Progress

-- a reader that has read nothing yet
abbrev pub fresh_reader : ℕ → Reader
fresh_reader limit = record { limit = limit; handed = 0; held = []; line = []; stopped = None }

-- how many bytes the reader may still hand out
abbrev pub allowance : Reader → ℕ
allowance r = r.limit - r.handed

-- bytes, and what is left behind them, where it is told
abbrev pub with_left : List ℕ → Option (List ℕ) → Option (List ℕ)
with_left bytes left = option_map (λ more. bytes ++ more) left

-- the bytes to come: those held and those left in the source, where it tells them
abbrev pub rest_of : Reader → Option (List ℕ) → Option (List ℕ)
rest_of r left = with_left r.held left

-- no LF stands among the bytes
abbrev pub NoFeed : List ℕ → Type 0
NoFeed bytes = All (λ b. b ≢ 10) bytes

-- n bytes stand before the first LF, or are all
pub record IsLineLength (bytes : List ℕ) (n : ℕ) : Type 0 where
  pub within : n ≤ length bytes
  pub plain : NoFeed (take n bytes)
  pub feed : n < length bytes → slice_index bytes n ≡ 10

-- the reader after it took a line of n bytes, and its LF
abbrev pub took_line : Reader → ℕ → Reader
took_line r n = record r { handed = r.handed + (n + 1); held = drop (n + 1) r.held; line = take n r.held }

-- the rest is a line with its LF, which the allowance has room for, and what comes after
pub record BeginsWithLine (allowed : ℕ) (rest line after : List ℕ) : Type 0 where
  pub plain : IsLine line
  pub fits : length line < allowed
  pub parts : rest ≡ with_feed line ++ after

-- more bytes without an LF than the longest line has, where the allowance is larger than that line
pub record BeginsTooLong (allowed : ℕ) (rest : List ℕ) : Type 0 where
  pub large : LONGEST_LINE < allowed
  pub more : LONGEST_LINE < length rest
  pub whole : NoFeed (take (LONGEST_LINE + 1) rest)

-- more bytes than the allowance, which is no larger than the longest line, and no LF among as many as it allows
pub record IsTooMuch (allowed : ℕ) (rest : List ℕ) : Type 0 where
  pub small : allowed ≤ LONGEST_LINE
  pub more : allowed < length rest
  pub whole : NoFeed (take allowed rest)

-- the rest is the front of a line, without its LF, and within the allowance
pub record IsPartial (allowed : ℕ) (rest : List ℕ) (partial : ℕ) : Type 0 where
  pub plain : IsLine rest
  pub fits : length rest ≤ allowed
  pub count : partial ≡ length rest

-- what the answer says of the rest, and what the rest is afterwards: just one answer but ReadFault fits
abbrev pub Answers : ℕ → List ℕ → Progress → List ℕ → List ℕ → Type 0
Answers allowed rest Line line after = BeginsWithLine allowed rest line after
Answers allowed rest TooLong line after = BeginsTooLong allowed rest × (after ≡ rest)
Answers allowed rest TooMuch line after = IsTooMuch allowed rest × (after ≡ rest)
Answers allowed rest (End partial) line after = IsPartial allowed rest partial × (after ≡ rest)
Answers allowed rest ReadFault line after = after ≡ rest

-- what a reader hands out with an answer
abbrev pub handed_out : Progress → List ℕ → List ℕ
handed_out Line line = with_feed line
handed_out _ line = []

-- a line was read, or none is kept
abbrev pub KeepsLine : Progress → List ℕ → Type 0
KeepsLine Line line = IsLine line
KeepsLine _ line = line ≡ []

-- every answer but a line stops the reader
abbrev pub stop_of : Progress → Option Progress
stop_of Line = None
stop_of stop = Some stop

-- what is told of the rest, before and after
abbrev pub AnswersTold : ℕ → Option (List ℕ) → Progress → List ℕ → Option (List ℕ) → Type 0
AnswersTold allowed None answer line later = later ≡ None
AnswersTold allowed (Some rest) answer line later = (after : List ℕ) × (later ≡ Some after) × Answers allowed rest answer line after

-- one call of a reader that has not stopped: the reader and what its source has left, before and after; where a read
-- failed, what is held is the front of a line
pub record Advances (old : Reader) (left : Option (List ℕ)) (answer : Progress) (new : Reader) (later : Option (List ℕ)) : Type 0 where
  pub limit : new.limit ≡ old.limit
  pub handed : new.handed ≡ old.handed + length (handed_out answer new.line)
  pub within : new.handed ≤ new.limit
  pub most : new.limit ≤ MOST
  pub line : KeepsLine answer new.line
  pub stopped : new.stopped ≡ stop_of answer
  pub rest : AnswersTold (allowance old) (rest_of old left) answer new.line (rest_of new later)
  pub fault : answer ≡ ReadFault → IsPartial (allowance old) new.held (length new.held)

-- one call: a reader that has stopped gives its answer again, and looks at no source
pub record Steps (old : Reader) (left : Option (List ℕ)) (answer : Progress) (new : Reader) (later : Option (List ℕ)) : Type 0 where
  pub advances : old.stopped ≡ None → Advances old left answer new later
  pub again : (stop : Progress) → old.stopped ≡ Some stop → (answer ≡ stop) × (new ≡ old) × (later ≡ left)
