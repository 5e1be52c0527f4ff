-- numbers in a line
use Rattle.std.specs.Prelude.{◌≡◌, ◌≤◌, ◌<◌, ◌≤ℤ◌, ◌+◌, ◌*◌, slice_index_or, ℕ, ℤ, pos, FitsSigned, List, [], ◌∷◌, length, map}
use Rattle.std.specs.List.{AllByRecursion, flat_map}
use Rattle.std.specs.Int.{w64}
use Rattle.std.specs.Fmt.{decimal, signed_decimal}
use Rattle.crew_terms.specs.Words.{Words}
use Rattle.crew_terms.specs.Leaf.{IsPrice}
use Rattle.crew_terms.specs.declared.Visit.{Visit}
use Rattle.crew_terms.specs.declared.TheConstants.{LAST_MINUTE}
use Rattle.dossier_terms.specs.Dossier.{IsSigned}
use Rattle.dossier_terms.specs.Runs.{Run}
use Rattle.dossier_terms.specs.Lines.{visit_words, run_words}
use Rattle.field_table.specs.declared.fields.Field.{Field}

-- a number of 64 bits that lies in the field's range
pub record IsIn (field : Field) (n : ℤ) : Type 0 where
  pub fits : FitsSigned w64 n
  pub low : field.low ≤ℤ n
  pub high : n ≤ℤ field.high

-- the word is the decimal of a number in the field's range
abbrev pub SpellsOne : Field → List ℕ → Type 0
SpellsOne field w = (n : ℤ) × IsIn field n × (w ≡ signed_decimal n)

-- the pairs of words from a place on are the decimals of two numbers, each in its field's range
abbrev pub ArePairs : Field → Field → ℕ → Words → Type 0
ArePairs first second from words = (k : ℕ) → from + 2 * k + 1 < length words
    → SpellsOne first (slice_index_or words (from + 2 * k) []) × SpellsOne second (slice_index_or words (from + 2 * k + 1) [])

-- the words are the decimals of these numbers, which lie in the field's range
pub record SpellIn (field : Field) (ns : List ℤ) (words : Words) : Type 0 where
  pub each : AllByRecursion (IsIn field) ns
  pub spelled : words ≡ map signed_decimal ns

-- the words are the decimals of these numbers, which are prices
pub record SpellPrices (ns : List ℤ) (words : Words) : Type 0 where
  pub each : AllByRecursion IsPrice ns
  pub spelled : words ≡ map signed_decimal ns

-- the words are the decimals of these numbers, which are below a bound
pub record SpellBelow (past : ℕ) (ns : List ℕ) (words : Words) : Type 0 where
  pub below : AllByRecursion (λ n. n < past) ns
  pub spelled : words ≡ map decimal ns

-- the task of a visit, and its minute
abbrev pub visit_numbers : Visit → List ℕ
visit_numbers v = v.task ∷ v.start ∷ []

-- the words are those of these visits, whose tasks are below a count
pub record SpellVisits (tasks : ℕ) (vs : List Visit) (words : Words) : Type 0 where
  pub known : AllByRecursion (λ (v : Visit). v.task < tasks) vs
  pub starts : AllByRecursion (λ (v : Visit). v.start ≤ LAST_MINUTE) vs
  pub spelled : words ≡ flat_map visit_words vs

-- the minute of a run, and its number
abbrev pub run_numbers : Run → List ℤ
run_numbers r = pos r.from ∷ r.value ∷ []

-- the words are those of these runs
pub record SpellRuns (runs : List Run) (words : Words) : Type 0 where
  pub minutes : AllByRecursion (λ (r : Run). r.from ≤ LAST_MINUTE) runs
  pub numbers : AllByRecursion (λ (r : Run). IsSigned r.value) runs
  pub spelled : words ≡ flat_map run_words runs

-- the first word, the decimal of a number, and n words more
abbrev pub IsRowOf : List ℕ → ℕ → ℕ → Words → Type 0
IsRowOf word number n words = (rest : Words) × (words ≡ word ∷ decimal number ∷ rest) × (length rest ≡ n)
