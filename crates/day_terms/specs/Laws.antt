-- the words of the laws of a day
use Rattle.std.specs.Prelude.{◌≡◌, ◌<◌, ◌+◌, ℕ, Bool, true, false, List, All, Some, slice_get, take}
use Rattle.crew_terms.specs.Words.{Words}
use Rattle.field_table.specs.declared.fields.FieldFault.{FieldFault}
use Rattle.day_terms.specs.Records.{field_of}
use Rattle.day_terms.specs.Forms.{Slot, Value}
use Rattle.day_terms.specs.Fields.{Gives, IsBad}
use Rattle.day_terms.specs.State.{DayState}
use Rattle.day_terms.specs.Rounds.{lacks_time}
use Rattle.day_terms.specs.declared.Entry.{Entry}
use Rattle.day_terms.specs.declared.Entry.TheVariants.{Plan}

-- the entry is one of a plan
abbrev pub is_plan : Entry → Bool
is_plan (Plan nodes) = true
is_plan _ = false

-- the places with these numbers lack the time from the one to the other; none is lacking from a place before the first, nor from the first to one before the second
pub record IsFirstLack (s : DayState) (from to : List ℕ) : Type 0 where
  pub from_number : ℕ
  pub to_number : ℕ
  pub from_is : slice_get s.places from_number ≡ Some from
  pub to_is : slice_get s.places to_number ≡ Some to
  pub lacks : lacks_time s (from, to) ≡ true
  pub from_earlier : All (λ x. All (λ y. lacks_time s (x, y) ≡ false) s.places) (take from_number s.places)
  pub to_earlier : All (λ y. lacks_time s (from, y) ≡ false) (take to_number s.places)

-- the slot with this number, from 0, has a good field, where the fields of the slots begin at a place
abbrev pub HasGood : List Slot → Words → ℕ → ℕ → Type 0
HasGood slots fields place k = (s : Slot) → slice_get slots k ≡ Some s → (v : Value s) × Gives s (field_of fields (place + k)) v

-- the slot with this number has a bad field, of which the fault tells the place and the cause, and those before it have good ones
pub record IsBadAt (slots : List Slot) (fields : Words) (place : ℕ) (fault : FieldFault) (n : ℕ) : Type 0 where
  pub slot : Slot
  pub slot_is : slice_get slots n ≡ Some slot
  pub place_is : fault.place ≡ place + n
  pub bad : IsBad slot (field_of fields (place + n)) fault.cause
  pub good : (k : ℕ) → k < n → HasGood slots fields place k
