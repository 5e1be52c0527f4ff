-- bundles of a day's dossier, and what is written of one
use Rattle.std.specs.Prelude.{◌≡◌, ◌≢◌, ◌≤◌, ℕ, List, Option, Result, Ok, Err, AllPairs, length}
use Rattle.std.specs.List.{flat_map}
use Rattle.crew_terms.specs.Instance.{Instance}
use Rattle.crew_terms.specs.declared.TheConstants.{MOST_TASKS}
use Rattle.crew_io.specs.Io.{Appended, AppendedPart}
use Rattle.dossier_terms.specs.Dossier.{Dossier}
use Rattle.cert_write.specs.declared.faults.PutFault.{PutFault}
use Rattle.cert_write.specs.declared.faults.PutFault.TheVariants.{WriteFault, OutOfMemory}
use Rattle.part_texts.specs.Bundle.{Bundle}
use Rattle.part_texts.specs.Lines.{text_of_bundle}
use Rattle.bundle_join.specs.Joined.{IsJoined, SaysSo}
use Rattle.bundle_join.specs.declared.join.Proves.{Proves}
use Rattle.bundle_write.specs.Parts.{ArePartDossiers, AreTaskLists}

-- lists of tasks, no task in two of them, and no more lists than an instance may have tasks
pub record AreApart (i : Instance) (lists : List (List ℕ)) : Type 0 where
  pub few : length lists ≤ MOST_TASKS
  pub lists_of : AreTaskLists i lists
  pub once : AllPairs (λ t u. t ≢ u) (flat_map (λ (tasks : List ℕ). tasks) lists)

-- a good bundle of this dossier, which proves no less than it, with a dossier of each part, planned on its own with so many steps or with
-- up to twice as many
pub record IsBundleOf (d : Dossier) (nodes : ℕ) (b : Bundle) : Type 0 where
  pub lists : List (List ℕ)
  pub planned : ArePartDossiers d.instance nodes lists b.parts
  pub joined : IsJoined d b.parts b

-- what was written: a bundle, which says this; after a write fault a front of one; for want of memory nothing
abbrev pub IsBundlePut : Dossier → ℕ → Result Proves PutFault → Option (List ℕ) → Option (List ℕ) → Type 0
IsBundlePut d nodes (Ok proves) got later = (b : Bundle) × IsBundleOf d nodes b × SaysSo proves b × Appended got later (text_of_bundle b)
IsBundlePut d nodes (Err WriteFault) got later = (b : Bundle) × IsBundleOf d nodes b × AppendedPart got later (text_of_bundle b)
IsBundlePut d nodes (Err OutOfMemory) got later = later ≡ got
