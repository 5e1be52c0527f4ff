-- the sheet of its parts: what is written of them
use Rattle.std.specs.Prelude.{◌≡◌, ◌++◌, ℕ, List, [], ◌∷◌, Result, Ok, Err}
use Rattle.crew_terms.specs.Limits.{root_limits, teams_in}
use Rattle.crew_terms.specs.Words.{Words}
use Rattle.crew_io.specs.Puts.{Puts}
use Rattle.crew_io.specs.declared.sink.Sink.{Ghosts}
use Rattle.dossier_terms.specs.Lines.{frozen_lines, instance_lines}
use Rattle.dossier_terms.specs.declared.DossierForm.TheVariants.{Two}
use Rattle.sheet_terms.specs.Lines.{bound_line, squeeze_line, text_of_sheet}
use Rattle.sheet_terms.specs.Sheet.{IsGoodSheet, Sheet}
use Rattle.cert_write.specs.declared.faults.PutFault.{PutFault}
use Rattle.cert_write.specs.declared.faults.PutFault.TheVariants.{WriteFault, OutOfMemory}
use Rattle.sheet_write.specs.Given.{IsProved, SheetGiven}
use Rattle.sheet_write.specs.Teams.{AreTeamTables}

-- the lines before the prices
abbrev pub head_lines : SheetGiven → List Words
head_lines g = squeeze_line ∷ (instance_lines g.instance g.budget ++ frozen_lines Two g.instance.frozen ++ bound_line g.bound ∷ [])

-- a sheet of these parts, with the worth of each team at the root, and potentials that hold
pub record IsSheetOf (g : SheetGiven) (s : Sheet) : Type 0 where
  pub instance : s.instance ≡ g.instance
  pub budget : s.budget ≡ g.budget
  pub bound : s.bound ≡ g.bound
  pub prices : s.prices ≡ g.prices
  pub tables : AreTeamTables (root_limits g.instance) g.prices 0 (teams_in (root_limits g.instance)) s.tables

-- the call writes a sheet of these parts, which is good where they are proved: all of it, or after a write fault a front of it
pub record PutsSheet {K T E : Type 0} (sink : Ghosts K) (g : SheetGiven) (old new : K) (result : Result T E) : Type 0 where
  pub sheet : Sheet
  pub parts : IsSheetOf g sheet
  pub good : IsProved g → IsGoodSheet sheet
  pub puts : Puts sink (text_of_sheet sheet) old new result

-- the same; for want of memory nothing is written
abbrev pub WritesSheet : {K : Type 0} → Ghosts K → SheetGiven → K → K → Result (Unit {0}) PutFault → Type 0
WritesSheet sink g old new (Ok done) = PutsSheet {T = Unit {0}} {E = PutFault} sink g old new (Ok done)
WritesSheet sink g old new (Err WriteFault) = PutsSheet {T = Unit {0}} {E = PutFault} sink g old new (Err WriteFault)
WritesSheet sink g old new (Err OutOfMemory) = new ≡ old
