-- bundles: the dossier of a day with dossiers of its parts, and when they are good
use Rattle.std.specs.Prelude.{◌≡◌, ◌≤◌, ℕ, List, length, map, max, All, flat_map}
use Rattle.std.specs.List.{sum_by}
use Rattle.crew_terms.specs.Instance.{Instance}
use Rattle.crew_terms.specs.Legal.{IsLegal}
use Rattle.crew_terms.specs.Plan.{Plan, unassigned_count}
use Rattle.crew_terms.specs.declared.TheConstants.{MOST_TASKS}
use Rattle.dossier_terms.specs.Dossier.{Dossier, IsGood}
use Rattle.part_terms.specs.Parts.{AreDisjointParts, Part}

-- the dossier of a day, and those of its parts
pub record Bundle : Type 0 where
  pub day : Dossier
  pub parts : List Dossier

-- the instances of parts
abbrev pub instances_in : List Part → List Instance
instances_in parts = map (λ (part : Part). part.instance) parts

-- the instances of dossiers
abbrev pub instances_of : List Dossier → List Instance
instances_of dossiers = map (λ (d : Dossier). d.instance) dossiers

-- the dossiers are of parts of the instance, which have these tasks in turn: each restricts it to a list of its tasks, and no task is in two of
-- these lists
pub record HaveTasks (i : Instance) (dossiers : List Dossier) (tasks : List ℕ) : Type 0 where
  pub parts : List Part
  pub instances : instances_of dossiers ≡ instances_in parts
  pub disjoint : AreDisjointParts i parts
  pub are : tasks ≡ flat_map (λ (part : Part). part.tasks) parts

-- the dossiers are of parts of the instance
abbrev pub ArePartsOf : Instance → List Dossier → Type 0
ArePartsOf i dossiers = (tasks : List ℕ) × HaveTasks i dossiers tasks

-- the rules of a bundle: there are no more parts than an instance may have tasks
pub record IsGoodBundle (b : Bundle) : Type 0 where
  pub day : IsGood b.day
  pub few : length b.parts ≤ MOST_TASKS
  pub good : All IsGood b.parts
  pub divided : ArePartsOf b.day.instance b.parts

-- the sum of the bounds of dossiers
abbrev pub sum_of_bounds : List Dossier → ℕ
sum_of_bounds dossiers = sum_by (λ (d : Dossier). d.bound) dossiers

-- what a bundle proves: the bound of the day's dossier, or the sum of those of the parts where that is greater
abbrev pub bound_of : Bundle → ℕ
bound_of b = max b.day.bound (sum_of_bounds b.parts)

-- a good bundle is what it says: the day's plan is legal, and every legal plan of the day leaves at least its bound unassigned
pub record IsTrueBundle (b : Bundle) : Type 0 where
  pub good : IsGoodBundle b
  pub legal : IsLegal b.day.instance b.day.plan
  pub bound : (p : Plan) → IsLegal b.day.instance p → bound_of b ≤ unassigned_count p
