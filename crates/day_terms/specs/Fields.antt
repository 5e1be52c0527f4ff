-- good and bad fields of a record
use Rattle.std.specs.Prelude.{◌≡◌, ◌<◌, ◌+◌, ◌^◌, ◌↔◌, ◌⊎◌, ℕ, ℤ, pos, List, [], ◌∷◌, Contains}
use Rattle.std.specs.List.{AllByRecursion, AllZip}
use Rattle.std.specs.Int.{bit_at}
use Rattle.crew_terms.specs.declared.TheConstants.{LONGEST_NAME, SKILLS}
use Rattle.crew_terms.specs.Name.{IsName}
use Rattle.crew_terms.specs.Words.{Words, words_of}
use Rattle.field_table.specs.Fields.{Spells, Accepts, Refuses}
use Rattle.field_table.specs.declared.fields.Kind.TheVariants.{Number, Name}
use Rattle.field_table.specs.declared.fields.Cause.{Cause}
use Rattle.field_table.specs.declared.fields.Cause.TheVariants.{Count, Spelling, Range}
use Rattle.field_table.specs.declared.fields.Field.{Field}
use Rattle.field_table.specs.declared.fields.FieldFault.{FieldFault}
use Rattle.day_terms.specs.Records.{field_of}
use Rattle.day_terms.specs.Forms.{Slot, Named, Ranged, Skilled, Value, Maker}
use Rattle.day_terms.specs.declared.Entry.{Entry}

-- a list of skills cut at each space; an empty one has no words
abbrev pub skill_words : List ℕ → Words
skill_words [] = []
skill_words (b ∷ bs) = words_of (b ∷ bs)

-- each word spells the number at its place
abbrev pub SpellAll : Words → List ℤ → Type 0
SpellAll words numbers = AllZip (Spells Number) words numbers

-- the number of a skill
abbrev pub IsSkill : ℤ → Type 0
IsSkill z = (n : ℕ) × (n < SKILLS) × (z ≡ pos n)

-- the set has a bit for each of the numbers, and no other
pub record IsSetOf (numbers : List ℤ) (set : ℕ) : Type 0 where
  pub small : set < 2 ^ SKILLS
  pub members : (n : ℕ) → (bit_at set n ≡ 1) ↔ Contains numbers (pos n)

-- the set of the skills that a field lists, in any order
pub record ListsSet (field : List ℕ) (set : ℕ) : Type 0 where
  pub numbers : List ℤ
  pub spelled : SpellAll (skill_words field) numbers
  pub known : AllByRecursion IsSkill numbers
  pub is : IsSetOf numbers set

-- the field of a name
abbrev pub name_field : Field
name_field = record { low = pos 1; high = pos LONGEST_NAME; kind = Name }

-- a field of the slot's kind and range; a list of skills has none of its own
abbrev pub field_in : Slot → Field
field_in Named = name_field
field_in (Ranged kind low high) = record { low = pos low; high = pos high; kind = kind }
field_in Skilled = name_field

-- the field is good, and gives this
abbrev pub Gives : (s : Slot) → List ℕ → Value s → Type 0
Gives Named field name = IsName field × (name ≡ field)
Gives (Ranged kind low high) field n = Accepts (field_in (Ranged kind low high)) field (pos n)
Gives Skilled field set = ListsSet field set

-- why the field is bad; a list of skills is judged as a whole
abbrev pub IsBad : Slot → List ℕ → Cause → Type 0
IsBad Skilled field Count = ⊥
IsBad Skilled field Spelling = (numbers : List ℤ) → SpellAll (skill_words field) numbers → ⊥
IsBad Skilled field Range = (numbers : List ℤ) × SpellAll (skill_words field) numbers × (AllByRecursion IsSkill numbers → ⊥)
IsBad s field cause = Refuses (field_in s) field cause

-- the fields from this place on are good, and the entry is made of what they give
abbrev pub AllGive : (ss : List Slot) → Maker ss → Words → ℕ → Entry → Type 0
AllGive [] maker fields place entry = entry ≡ maker
AllGive (s ∷ ss) maker fields place entry = (v : Value s) × Gives s (field_of fields place) v × AllGive ss (maker v) fields (place + 1) entry

-- of the fields from this place on, the fault is that of the first bad one
abbrev pub IsFirstBad : List Slot → Words → ℕ → FieldFault → Type 0
IsFirstBad [] fields place fault = ⊥
IsFirstBad (s ∷ ss) fields place fault =
    ((fault.place ≡ place) × IsBad s (field_of fields place) fault.cause)
    ⊎ ((v : Value s) × Gives s (field_of fields place) v × IsFirstBad ss fields (place + 1) fault)
