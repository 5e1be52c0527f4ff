-- what a reading for the command `delays` gives, and why it goes no further
use Rattle.std.specs.Prelude.{◌≡◌, ◌++◌, ℕ, List, Option, Some, All}
use Rattle.delay_wave.specs.Waits.{AreWaits}
use Rattle.delay_wave.specs.declared.waits.Wait.{Wait}
use Rattle.dossier_terms.specs.Dossier.{Dossier}
use Rattle.cert_checker.specs.Checked.{Checked, IsEnded, IsTrueYes, IsWholeAt}
use Rattle.late_lines.specs.declared.first_line.LateLine.{LateLine}
use Rattle.late_lines.specs.declared.halt.Halt.{Halt}
use Rattle.late_lines.specs.declared.halt.Halt.TheVariants.{No, ReadFault, OutOfMemory}
use Rattle.delay_command.specs.Delays.{IsDelays, IsDelaysRefusal, IsUnrefused}
use Rattle.delay_command.specs.Tasks.{lates_in}

-- the checker has a dossier that is whole and what it says, and these are the waits of its plan, if its tasks end as late as the lines tell
pub record HasWaits (lines : List LateLine) (checker : Checked) (waits : List (Option Wait)) : Type 0 where
  pub dossier : Dossier
  pub whole : IsWholeAt checker.at dossier
  pub true_yes : IsTrueYes dossier
  pub are : (d : Dossier) → IsWholeAt checker.at d → AreWaits d.instance d.plan (lates_in d.instance lines) waits

-- the input is of the form, with the dossier that the checker has
pub record Gives (input : List ℕ) (lines : List LateLine) (checker : Checked) : Type 0 where
  pub dossier : Dossier
  pub whole : IsWholeAt checker.at dossier
  pub true_yes : IsTrueYes dossier
  pub form : IsDelays input lines dossier

-- no line that was read is refused; the input is what was read and what is left
pub record IsCutOff (input : List ℕ) (left : Option (List ℕ)) : Type 0 where
  pub part : List ℕ
  pub unseen : List ℕ
  pub rest : left ≡ Some unseen
  pub read : IsUnrefused input part unseen

-- why the reading goes no further
abbrev pub HaltsAt : List ℕ → Option (List ℕ) → Halt → Type 0
HaltsAt input left (No number reason) = IsDelaysRefusal input number reason
HaltsAt input left ReadFault = IsCutOff input left
HaltsAt input left OutOfMemory = Unit {0}
