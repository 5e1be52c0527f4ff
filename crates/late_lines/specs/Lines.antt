-- lines before a dossier, and the first fault of one
use Rattle.std.specs.Prelude.{◌≡◌, ◌≢◌, ◌≤◌, ◌<◌, ◌++◌, ℕ, List, [], ◌∷◌, length, codes, map, slice_index_or, All, AllPairs}
use Rattle.std.specs.Fmt.{decimal}
use Rattle.crew_terms.specs.Name.{IsName}
use Rattle.crew_terms.specs.Words.{Words, line_of}
use Rattle.delay_wave.specs.declared.lates.TheConstants.{LATEST_END}
use Rattle.dossier_terms.specs.Rules.{IsShape}
use Rattle.dossier_terms.specs.Ranges.{HasName}
use Rattle.line_in.specs.declared.faults.LineFault.{LineFault}
use Rattle.line_in.specs.declared.faults.LineFault.TheVariants.{Shape, Number, Name}
use Rattle.late_lines.specs.declared.first_line.FirstLine.{FirstLine}
use Rattle.late_lines.specs.declared.first_line.FirstLine.TheVariants.{Late, Dossier}
use Rattle.late_lines.specs.declared.first_line.LateLine.{LateLine}
use Rattle.late_lines.specs.declared.first_line.TheConstants.{MOST_LATES}

-- the first word of a line that tells of a late task
abbrev pub late_word : List ℕ
late_word = codes "late"

-- the line before the first one of the dossier
abbrev pub dossier_words : Words
dossier_words = codes "dossier" ∷ []

-- the words of a line that tells of a late task, and the line
abbrev pub late_words : LateLine → Words
late_words line = late_word ∷ line.name ∷ decimal line.end ∷ []

abbrev pub late_text : LateLine → List ℕ
late_text line = line_of (late_words line)

-- the lines before a dossier
abbrev pub first_lines : List LateLine → List (List ℕ)
first_lines lates = map late_text lates ++ line_of dossier_words ∷ []

-- a name, and a minute in range
pub record IsLateLine (line : LateLine) : Type 0 where
  pub name : IsName line.name
  pub end : line.end ≤ LATEST_END

-- not too many lines, each with a name that no other has
pub record AreLateLines (lates : List LateLine) : Type 0 where
  pub few : length lates ≤ MOST_LATES
  pub each : All IsLateLine lates
  pub differ : AllPairs (λ (a b : LateLine). a.name ≢ b.name) lates

-- the line may stand after these: it is not one too many, and none of them has its name
pub record MayFollow (before : List LateLine) (line : LateLine) : Type 0 where
  pub few : length before < MOST_LATES
  pub is : IsLateLine line
  pub new : All (λ other. other.name ≢ line.name) before

-- what was read of the words of a line after these
abbrev pub IsRead : List LateLine → Words → FirstLine → Type 0
IsRead before words Dossier = words ≡ dossier_words
IsRead before words (Late line) = MayFollow before line × (words ≡ late_words line)

-- the first fault of the words after the first one: a misspelled name, or an end out of range
pub data IsWordFault (words : Words) (fault : LineFault) : Type 0 where
  Misspelled : (name : HasName words → ⊥) (is : fault ≡ Name) → IsWordFault words fault
  OutOfRange : (name : HasName words) (end : (n : ℕ) → n ≤ LATEST_END → slice_index_or words 2 [] ≢ decimal n) (is : fault ≡ Number) → IsWordFault words fault

-- the first fault of a line after these
pub data IsLineFault (before : List LateLine) (words : Words) (fault : LineFault) : Type 0 where
  -- it is neither of the two, or one too many
  Misshapen : (other : words ≢ dossier_words) (shape : length before < MOST_LATES → IsShape late_word 2 words → ⊥) (is : fault ≡ Shape) → IsLineFault before words fault
  BadWord : (few : length before < MOST_LATES) (shape : IsShape late_word 2 words) (how : IsWordFault words fault) → IsLineFault before words fault
  Repeated : (few : length before < MOST_LATES) (line : LateLine) (line_is : IsLateLine line) (words_are : words ≡ late_words line)
      (old : All (λ other. other.name ≢ line.name) before → ⊥) (is : fault ≡ Name) → IsLineFault before words fault
