-- what a day's text says
use Rattle.std.specs.Prelude.{◌≡◌, ◌+◌, ◌++◌, ℕ, List, ◌∷◌, length, Option, None, Some, Result, Ok, Err}
use Rattle.std.specs.List.{AllZip}
use Rattle.crew_terms.specs.Words.{Words}
use Rattle.field_table.specs.declared.fields.Cause.TheVariants.{Count}
use Rattle.field_table.specs.declared.fields.FieldFault.{FieldFault}
use Rattle.day_terms.specs.Records.{records_of_text, field_of}
use Rattle.day_terms.specs.Forms.{form_of}
use Rattle.day_terms.specs.Fields.{AllGive, IsFirstBad}
use Rattle.day_terms.specs.declared.RecordKind.{RecordKind}
use Rattle.day_terms.specs.declared.Entry.{Entry}
use Rattle.day_terms.specs.declared.Refused.{Refused}
use Rattle.day_terms.specs.declared.DayCause.{DayCause}
use Rattle.day_terms.specs.declared.DayCause.TheVariants.{Kind, Field}

-- the record is of this kind
abbrev pub IsOfKind : Words → RecordKind → Type 0
IsOfKind fields kind = field_of fields 0 ≡ (form_of kind).key

-- a record of this kind has as many fields as the kind
abbrev pub IsCounted : Words → RecordKind → Type 0
IsCounted fields kind = length fields ≡ length (form_of kind).slots + 1

-- what a record says in itself: an entry, or why it is refused; its kind is looked at first, then the number of its fields, then each field in turn
pub data ReadsRecord (fields : Words) (told : Result Entry DayCause) : Type 0 where
  OfNoKind : (unknown : (kind : RecordKind) → IsOfKind fields kind → ⊥) (is : told ≡ Err Kind) → ReadsRecord fields told
  Miscounted : (kind : RecordKind) (of : IsOfKind fields kind) (miscounted : IsCounted fields kind → ⊥)
      (is : told ≡ Err (Field (record { place = length fields; cause = Count }))) → ReadsRecord fields told
  BadField : (kind : RecordKind) (of : IsOfKind fields kind) (counted : IsCounted fields kind)
      (fault : FieldFault) (first : IsFirstBad (form_of kind).slots fields 1 fault) (is : told ≡ Err (Field fault)) → ReadsRecord fields told
  Good : (kind : RecordKind) (of : IsOfKind fields kind) (counted : IsCounted fields kind)
      (entry : Entry) (gives : AllGive (form_of kind).slots (form_of kind).entry fields 1 entry) (is : told ≡ Ok entry) → ReadsRecord fields told

-- each record says the entry at its place
abbrev pub SayEntries : List Words → List Entry → Type 0
SayEntries records entries = AllZip (λ fields entry. ReadsRecord fields (Ok entry)) records entries

-- the entries of the records before the first bad one, and the refusal of that one, with its number from 1
pub data ReadsRecords (records : List Words) (entries : List Entry) (stop : Option Refused) : Type 0 where
  AllGood : (entries_of : SayEntries records entries) (is : stop ≡ None) → ReadsRecords records entries stop
  StopsAt : (front : List Words) (bad : Words) (back : List Words) (parts : records ≡ front ++ bad ∷ back) (entries_of : SayEntries front entries)
      (cause : DayCause) (refused : ReadsRecord bad (Err cause)) (is : stop ≡ Some (record { number = length front + 1; cause = cause }))
      → ReadsRecords records entries stop

-- what a day's text says: the entries before its first bad record, and why that one is refused
abbrev pub IsDayOf : List ℕ → List Entry → Option Refused → Type 0
IsDayOf text entries stop = ReadsRecords (records_of_text text) entries stop
