-- what is written of the dossiers of a day and of its parts
use Rattle.std.specs.Prelude.{◌≡◌, ◌≤◌, ℕ, List, Option, Result, Ok, Err}
use Rattle.crew_io.specs.Io.{Appended, AppendedPart}
use Rattle.crew_terms.specs.Plan.{unassigned_count}
use Rattle.dossier_terms.specs.Dossier.{Dossier}
use Rattle.part_texts.specs.Bundle.{Bundle, IsGoodBundle, bound_of, sum_of_bounds}
use Rattle.part_texts.specs.Lines.{text_of_bundle}
use Rattle.bundle_join.specs.Firsts.{IsChosen}
use Rattle.bundle_join.specs.Tallies.{IsNoPart}
use Rattle.bundle_join.specs.declared.join.JoinFault.{JoinFault}
use Rattle.bundle_join.specs.declared.join.JoinFault.TheVariants.{NoPart, WriteFault, OutOfMemory}
use Rattle.bundle_join.specs.declared.join.Proves.{Proves}

-- a good bundle of these parts, which proves no less than the day's own dossier: that one stands first in it, or one whose plan leaves
-- fewer tasks
pub record IsJoined (d : Dossier) (parts : List Dossier) (b : Bundle) : Type 0 where
  pub good : IsGoodBundle b
  pub have : b.parts ≡ parts
  pub day : IsChosen d (sum_of_bounds parts) b.day
  pub proves : d.bound ≤ bound_of b

-- what it says
pub record SaysSo (proves : Proves) (b : Bundle) : Type 0 where
  pub unassigned : proves.unassigned ≡ unassigned_count b.day.plan
  pub bound : proves.bound ≡ bound_of b

-- what was written: the bundle; after a write fault a front of it; else nothing
abbrev pub IsJoinedPut : Dossier → List Dossier → Result Proves JoinFault → Option (List ℕ) → Option (List ℕ) → Type 0
IsJoinedPut d parts (Ok proves) got later = (b : Bundle) × IsJoined d parts b × SaysSo proves b × Appended got later (text_of_bundle b)
IsJoinedPut d parts (Err WriteFault) got later = (b : Bundle) × IsJoined d parts b × AppendedPart got later (text_of_bundle b)
IsJoinedPut d parts (Err (NoPart number)) got later = IsNoPart d parts number × (later ≡ got)
IsJoinedPut d parts (Err OutOfMemory) got later = later ≡ got
