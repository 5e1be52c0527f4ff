-- what the dossiers of parts come to
use Rattle.std.specs.Prelude.{◌≡◌, ◌≤◌, ◌+◌, ℕ, List, length, take}
use Rattle.crew_terms.specs.declared.TheConstants.{MOST_TASKS}
use Rattle.dossier_terms.specs.Dossier.{Dossier}
use Rattle.part_texts.specs.Bundle.{Bundle, HaveTasks, IsGoodBundle, sum_of_bounds}
use Rattle.bundle_join.specs.declared.tally.Tally.{Tally}
use Rattle.bundle_join.specs.declared.join.JoinFault.{JoinFault}
use Rattle.bundle_join.specs.declared.join.JoinFault.TheVariants.{NoPart, WriteFault, OutOfMemory}

-- the dossiers are of parts of the day, which have the tasks that are taken; this is the sum of their bounds
pub record IsTally (day : Dossier) (parts : List Dossier) (tally : Tally) : Type 0 where
  pub taken : HaveTasks day.instance parts tally.taken
  pub bounds : tally.bounds ≡ sum_of_bounds parts

-- and there are no more of them than an instance may have tasks
pub record IsTallied (day : Dossier) (parts : List Dossier) (tally : Tally) : Type 0 where
  pub few : length parts ≤ MOST_TASKS
  pub told : IsTally day parts tally

-- no bundle of a day with this instance has these parts, from the first to the one with this number
abbrev pub IsNoPart : Dossier → List Dossier → ℕ → Type 0
IsNoPart day parts number = (b : Bundle) → b.day.instance ≡ day.instance → b.parts ≡ take (number + 1) parts → IsGoodBundle b → ⊥

-- why the dossiers are none of a bundle
abbrev pub IsNoBundle : Dossier → List Dossier → JoinFault → Type 0
IsNoBundle day parts (NoPart number) = IsNoPart day parts number
IsNoBundle day parts WriteFault = ⊥
IsNoBundle day parts OutOfMemory = Unit {0}
