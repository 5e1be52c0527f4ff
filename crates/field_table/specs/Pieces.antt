-- pieces of a line
use Rattle.std.specs.Prelude.{◌≡◌, ◌≢◌, ◌≤◌, ◌<◌, ◌+◌, ◌++◌, ℕ, ℤ, List, Option, All, FitsSigned, MatchOption, length, map, take, drop, slice_index, slice_range}
use Rattle.std.specs.Int.{w64}
use Rattle.std.specs.Fmt.{signed_decimal}
use Rattle.crew_terms.specs.Words.{Words, words_of}
use Rattle.field_table.specs.declared.cuts.Cut.{Cut}

-- the bytes of the line from the cut's first place to before its second
abbrev pub piece_of : List ℕ → Cut → List ℕ
piece_of line cut = slice_range line cut.from cut.until

-- the pieces at the cuts
abbrev pub pieces_of : List ℕ → List Cut → Words
pieces_of line cuts = map (piece_of line) cuts

-- the number is the one whose canonical decimal the word is; none where it is that of no number of 64 bits
abbrev pub IsNumberOf : Option ℤ → List ℕ → Type 0
IsNumberOf number word = MatchOption number ((z : ℤ) → FitsSigned w64 z → word ≢ signed_decimal z) (λ z. word ≡ signed_decimal z)

-- a cut of this line: its piece lies in the line, and its number is the one that the piece spells
pub record IsCutOf (line : List ℕ) (cut : Cut) : Type 0 where
  pub order : cut.from ≤ cut.until
  pub within : cut.until ≤ length line
  pub number : IsNumberOf cut.number (piece_of line cut)

-- the word of the line that begins at this place: a space follows it, or the line ends
pub record IsWordAt (line : List ℕ) (from : ℕ) (cut : Cut) : Type 0 where
  pub begins : cut.from ≡ from
  pub is_cut : IsCutOf line cut
  pub whole : All (λ b. b ≢ 32) (piece_of line cut)
  pub ended : cut.until < length line → slice_index line cut.until ≡ 32

-- the first cuts, so many, are the words of the line up to this place, at which the next one begins, or up to its end
pub record IsCutUpTo (line : List ℕ) (cuts : List Cut) (count from : ℕ) : Type 0 where
  pub order : count ≤ from
  pub within : from ≤ length line + 1
  pub are_cuts : All (IsCutOf line) (take count cuts)
  pub words : from ≤ length line → words_of line ≡ pieces_of line (take count cuts) ++ words_of (drop from line)
  pub all : length line < from → pieces_of line (take count cuts) ≡ words_of line
