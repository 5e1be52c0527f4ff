-- the sheets of dossiers
use Rattle.std.specs.Prelude.{◌≡◌, ℕ, List, [], ◌∷◌, Result, Ok, Err}
use Rattle.std.specs.List.{flat_map}
use Rattle.crew_terms.specs.Instance.{Instance}
use Rattle.crew_terms.specs.declared.Visit.{Visit}
use Rattle.crew_io.specs.Puts.{Puts}
use Rattle.crew_io.specs.declared.sink.Sink.{Ghosts}
use Rattle.dossier_terms.specs.Dossier.{Dossier}
use Rattle.sheet_terms.specs.Lines.{text_of_sheet}
use Rattle.sheet_terms.specs.Sheet.{IsGoodSheet, Sheet}
use Rattle.squeeze_terms.specs.Run.{prices_after}
use Rattle.squeeze_terms.specs.Squeezed.{IsSqueezed}
use Rattle.cert_write.specs.declared.faults.PutFault.{PutFault}
use Rattle.cert_write.specs.declared.faults.PutFault.TheVariants.{WriteFault, OutOfMemory}

-- a good sheet of the instance and its node budget, with the prices and the bound that a price run of so many steps hands out
pub record IsSqueezedSheet (i : Instance) (nodes steps : ℕ) (s : Sheet) : Type 0 where
  pub instance : s.instance ≡ i
  pub budget : s.budget ≡ nodes
  pub best : ℕ
  pub trace : List (List (List Visit))
  pub run : IsSqueezed i steps best s.bound trace
  pub prices : s.prices ≡ prices_after i trace best
  pub good : IsGoodSheet s

-- the call writes such a sheet: all of it, or after a write fault a front of it
pub record PutsSqueezedSheet {K T E : Type 0} (sink : Ghosts K) (i : Instance) (nodes steps : ℕ) (old new : K) (result : Result T E) : Type 0 where
  pub sheet : Sheet
  pub is : IsSqueezedSheet i nodes steps sheet
  pub puts : Puts sink (text_of_sheet sheet) old new result

-- the same; for want of memory nothing is written
abbrev pub PutsSqueezed : {K : Type 0} → Ghosts K → Instance → ℕ → ℕ → K → K → Result (Unit {0}) PutFault → Type 0
PutsSqueezed sink i nodes steps old new (Ok done) = PutsSqueezedSheet {T = Unit {0}} {E = PutFault} sink i nodes steps old new (Ok done)
PutsSqueezed sink i nodes steps old new (Err WriteFault) = PutsSqueezedSheet {T = Unit {0}} {E = PutFault} sink i nodes steps old new (Err WriteFault)
PutsSqueezed sink i nodes steps old new (Err OutOfMemory) = new ≡ old

-- such a sheet for each dossier, in order
abbrev pub AreSheetsOf : ℕ → List Dossier → List Sheet → Type 0
AreSheetsOf steps [] [] = Unit {0}
AreSheetsOf steps [] (s ∷ sheets) = ⊥
AreSheetsOf steps (d ∷ dossiers) [] = ⊥
AreSheetsOf steps (d ∷ dossiers) (s ∷ sheets) = IsSqueezedSheet d.instance d.budget steps s × AreSheetsOf steps dossiers sheets

-- the text is that of these sheets
pub record IsTextOfSheets (steps : ℕ) (dossiers : List Dossier) (text : List ℕ) : Type 0 where
  pub sheets : List Sheet
  pub each : AreSheetsOf steps dossiers sheets
  pub is : text ≡ flat_map text_of_sheet sheets
