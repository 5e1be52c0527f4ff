-- words that fields accept, and rows of fields
use Rattle.std.specs.Prelude.{◌≡◌, ◌≤◌, ◌<◌, ◌+◌, ◌≤ℤ◌, [], ◌∷◌, ℕ, ℤ, pos, List, Result, Ok, Err, Some, FitsSigned, length, take, drop, slice_get, slice_index_or}
use Rattle.std.specs.Int.{w64}
use Rattle.std.specs.Fmt.{signed_decimal}
use Rattle.crew_terms.specs.Words.{Words}
use Rattle.crew_terms.specs.Name.{IsName}
use Rattle.field_table.specs.Clocks.{clock_text}
use Rattle.field_table.specs.declared.fields.Kind.{Kind}
use Rattle.field_table.specs.declared.fields.Kind.TheVariants.{Number, Clock, Name}
use Rattle.field_table.specs.declared.fields.Cause.{Cause}
use Rattle.field_table.specs.declared.fields.Cause.TheVariants.{Count, Spelling, Range}
use Rattle.field_table.specs.declared.fields.Field.{Field}
use Rattle.field_table.specs.declared.fields.FieldFault.{FieldFault}

-- the word spells the number: its canonical decimal, its clock text, or a name of this length
abbrev pub Spells : Kind → List ℕ → ℤ → Type 0
Spells Number word z = FitsSigned w64 z × (word ≡ signed_decimal z)
Spells Clock word z = (n : ℕ) × (n < 6000) × (z ≡ pos n) × (word ≡ clock_text n)
Spells Name word z = IsName word × (z ≡ pos (length word))

-- a field accepts a word as the number that it spells, which lies in the field's range
pub record Accepts (field : Field) (word : List ℕ) (z : ℤ) : Type 0 where
  pub spelled : Spells field.kind word z
  pub low : field.low ≤ℤ z
  pub high : z ≤ℤ field.high

-- a field refuses a word: it spells no number, or one out of the field's range
abbrev pub Refuses : Field → List ℕ → Cause → Type 0
Refuses field word Count = ⊥
Refuses field word Spelling = (z : ℤ) → Spells field.kind word z → ⊥
Refuses field word Range = (z : ℤ) × Spells field.kind word z × (Accepts field word z → ⊥)

-- the number of a word, or why its field refuses it
abbrev pub ReadsWord : Field → List ℕ → ℕ → Result ℤ FieldFault → Type 0
ReadsWord field word place (Ok z) = Accepts field word z
ReadsWord field word place (Err fault) = (fault.place ≡ place) × Refuses field word fault.cause

-- each field accepts the word at its place as the number there
abbrev pub AllAccept : List Field → Words → List ℤ → Type 0
AllAccept [] [] [] = Unit {0}
AllAccept (f ∷ fs) (w ∷ ws) (z ∷ zs) = Accepts f w z × AllAccept fs ws zs
AllAccept _ _ _ = ⊥

-- the numbers of the words after the first, one for each field; further words do not count
pub record AreValues (fields : List Field) (words : Words) (values : List ℤ) : Type 0 where
  pub enough : length fields < length words
  pub accepted : AllAccept fields (take (length fields) (drop 1 words)) values

-- why the fields refuse the words after the first: too few words, or the first that its field refuses
pub data IsFirstFault (fields : List Field) (words : Words) (fault : FieldFault) : Type 0 where
  TooFew : (few : length words ≤ length fields) (is : fault ≡ record { place = length words; cause = Count }) → IsFirstFault fields words fault
  Refused : (enough : length fields < length words) (before : ℕ) (place : fault.place ≡ before + 1)
      (field : Field) (at : slice_get fields before ≡ Some field)
      (refused : Refuses field (slice_index_or words (before + 1) []) fault.cause)
      (values : List ℤ) (accepted : AllAccept (take before fields) (take before (drop 1 words)) values)
      → IsFirstFault fields words fault

-- what a row reads: the numbers of the words, or the first fault
abbrev pub ReadsRow : List Field → Words → Result (List ℤ) FieldFault → Type 0
ReadsRow fields words (Ok values) = AreValues fields words values
ReadsRow fields words (Err fault) = IsFirstFault fields words fault
