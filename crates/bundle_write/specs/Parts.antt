-- dossiers of parts that are planned on their own
use Rattle.std.specs.Prelude.{◌≡◌, ◌≤◌, ◌<◌, ◌*◌, ◌↔◌, ℕ, List, [], ◌∷◌, All, IsTrue, length}
use Rattle.std.specs.List.Sorted.{IsStrictlyIncreasing}
use Rattle.crew_terms.specs.Instance.{Instance}
use Rattle.crew_terms.specs.Plan.{unassigned_count}
use Rattle.dossier_terms.specs.Dossier.{Dossier}
use Rattle.dossier_terms.specs.Lines.{text_of}
use Rattle.part_terms.specs.Parts.{Restricts}
use Rattle.replan.specs.Alone.{IsDossierAlone}
use Rattle.bundle_write.specs.declared.parts.PlannedPart.{PlannedPart}

-- lists of the instance's tasks, each of which rises
pub record AreTaskLists (i : Instance) (lists : List (List ℕ)) : Type 0 where
  pub known : All (λ list. All (λ t. t < length i.tasks) list) lists
  pub rising : All IsStrictlyIncreasing lists

-- a dossier of the part of the instance that has these tasks, which is planned on its own with so many steps, or with up to twice as many
pub record IsPartDossier (i : Instance) (nodes : ℕ) (tasks : List ℕ) (d : Dossier) : Type 0 where
  pub part : Restricts i d.instance tasks
  pub few : d.budget ≤ 2 * nodes
  pub alone : IsDossierAlone d.instance d.budget d

-- one for each of these lists of tasks, in order
abbrev pub ArePartDossiers : Instance → ℕ → List (List ℕ) → List Dossier → Type 0
ArePartDossiers i nodes [] [] = Unit {0}
ArePartDossiers i nodes [] (d ∷ ds) = ⊥
ArePartDossiers i nodes (tasks ∷ lists) [] = ⊥
ArePartDossiers i nodes (tasks ∷ lists) (d ∷ ds) = IsPartDossier i nodes tasks d × ArePartDossiers i nodes lists ds

-- what is told of a part is of this dossier
pub record IsToldOf (planned : PlannedPart) (d : Dossier) : Type 0 where
  pub text : planned.text.items ≡ text_of d
  pub proved : IsTrue planned.proved ↔ (d.bound ≡ unassigned_count d.plan)

-- the part is planned with so many steps
abbrev pub IsPlannedAlone : Instance → ℕ → PlannedPart → Type 0
IsPlannedAlone part nodes planned = (d : Dossier) × IsDossierAlone part nodes d × IsToldOf planned d

-- the part with these tasks is planned
abbrev pub IsPartPlanned : Instance → ℕ → List ℕ → PlannedPart → Type 0
IsPartPlanned i nodes tasks planned = (d : Dossier) × IsPartDossier i nodes tasks d × IsToldOf planned d
