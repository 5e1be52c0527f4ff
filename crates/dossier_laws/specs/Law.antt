-- the table of lines reads what is good, and nothing else
use Rattle.std.specs.Prelude.{◌≡◌, ◌≤◌, ◌+◌, ◌++◌, ℕ, ℤ, List, length}
use Rattle.std.specs.List.{AllByRecursion}
use Rattle.crew_terms.specs.Instance.{Instance}
use Rattle.crew_terms.specs.Rules.{IsInstance}
use Rattle.crew_terms.specs.Words.{Words}
use Rattle.crew_terms.specs.declared.TheConstants.{MOST_NODES}
use Rattle.dossier_terms.specs.Dossier.{Dossier, IsGood, IsSigned}
use Rattle.dossier_terms.specs.declared.DossierForm.TheVariants.{Two}
use Rattle.dossier_terms.specs.Lines.{lines_of, instance_lines, frozen_lines}
use Rattle.dossier_terms.specs.Ranges.{IsStepsLine}
use Rattle.dossier_terms.specs.Reading.{Form}
use Rattle.dossier_terms.specs.Runs.{Run, AreRuns, runs_of, values_of}
use Rattle.dossier_terms.specs.Table.{Ended}

-- these are the lines of the dossier, and it is good
pub record IsWhole (lines : List Words) (d : Dossier) : Type 0 where
  pub spelled : lines ≡ lines_of d
  pub good : IsGood d

-- lines by which the table ends a dossier
abbrev pub IsRead : List Words → Dossier → Type 0
IsRead lines d = Ended Form lines d

-- these are the lines of the instance and of its frozen jobs, which is within its limits, as is the node budget
pub record IsHeadOf (lines : List Words) (i : Instance) (b : ℕ) : Type 0 where
  pub spelled : lines ≡ instance_lines i b ++ frozen_lines Two i.frozen
  pub instance : IsInstance i
  pub budget : b ≤ MOST_NODES

-- the runs, from minute `first` to before `past`, are those of a row with this number for each minute, and may stand in a line
pub record AreRunsOfRow (first past : ℕ) (runs : List Run) (row : List ℤ) : Type 0 where
  pub count : first + length row ≡ past
  pub signed : AllByRecursion IsSigned row
  pub runs_are : AreRuns first past runs
  pub line : IsStepsLine runs
  pub runs_again : runs ≡ runs_of first row
  pub row_again : row ≡ values_of past runs
