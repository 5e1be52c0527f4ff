-- what a record of a known kind and with the right number of fields says
use Rattle.std.specs.Prelude.{◌≡◌, ℕ, List, Result, Ok, Err}
use Rattle.crew_terms.specs.Words.{Words}
use Rattle.field_table.specs.declared.fields.FieldFault.{FieldFault}
use Rattle.day_terms.specs.Forms.{Form, Skilled, form_of}
use Rattle.day_terms.specs.Fields.{AllGive, IsFirstBad, ListsSet, IsBad}
use Rattle.day_terms.specs.declared.RecordKind.{RecordKind}
use Rattle.day_terms.specs.declared.Entry.{Entry}

-- the set that a field of skills lists, or why it is bad
abbrev pub ReadsSkills : List ℕ → ℕ → Result ℕ FieldFault → Type 0
ReadsSkills field place (Ok set) = ListsSet field set
ReadsSkills field place (Err fault) = (fault.place ≡ place) × IsBad Skilled field fault.cause

-- the entry of the fields after the first, or the first bad one
abbrev pub ReadsFields : Form → Words → Result Entry FieldFault → Type 0
ReadsFields form fields (Ok entry) = AllGive form.slots form.entry fields 1 entry
ReadsFields form fields (Err fault) = IsFirstBad form.slots fields 1 fault

-- the first field of the records of this kind
abbrev pub IsKeyOf : List ℕ → RecordKind → Type 0
IsKeyOf key kind = key ≡ (form_of kind).key

-- of no kind
abbrev pub IsNoKey : List ℕ → Type 0
IsNoKey key = (kind : RecordKind) → IsKeyOf key kind → ⊥
