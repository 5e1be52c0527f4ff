-- what `day` writes of the rounds of a day: a dossier of each
use Rattle.std.specs.Prelude.{◌≡◌, ◌<◌, ℕ, List, [], All, Any, map}
use Rattle.std.specs.List.{flat_map}
use Rattle.crew_terms.specs.Plan.{Plan, unassigned_count}
use Rattle.dossier_terms.specs.Dossier.{Dossier}
use Rattle.dossier_terms.specs.Lines.{text_of}
use Rattle.day_terms.specs.Rounds.{Round}
use Rattle.replan.specs.Rounds.{AreRoundDossiers}

-- the plans of dossiers
abbrev pub plans_in : List Dossier → List Plan
plans_in dossiers = map (λ d. d.plan) dossiers

-- the text is that of these dossiers of the rounds, the first of which is handed no routes; the rounds have their plans
pub record AreTextsOf (plans : List Plan) (rounds : List Round) (text : List ℕ) (dossiers : List Dossier) : Type 0 where
  pub dossiers_are : AreRoundDossiers [] rounds dossiers
  pub plans_are : plans ≡ plans_in dossiers
  pub texts : text ≡ flat_map text_of dossiers

-- the dossier's plan leaves as few tasks unassigned as any
abbrev pub IsProved : Dossier → Type 0
IsProved d = d.bound ≡ unassigned_count d.plan

-- the dossier does not show whether another plan leaves fewer
abbrev pub IsUnproved : Dossier → Type 0
IsUnproved d = d.bound < unassigned_count d.plan

-- the text is that of a dossier for each round
abbrev pub AreDossiers : List Plan → List Round → List ℕ → Type 0
AreDossiers plans rounds text = (dossiers : List Dossier) × AreTextsOf plans rounds text dossiers

-- each of them is proved
abbrev pub AreProved : List Plan → List Round → List ℕ → Type 0
AreProved plans rounds text = (dossiers : List Dossier) × AreTextsOf plans rounds text dossiers × All IsProved dossiers

-- some of them is not
abbrev pub AreUnproved : List Plan → List Round → List ℕ → Type 0
AreUnproved plans rounds text = (dossiers : List Dossier) × AreTextsOf plans rounds text dossiers × Any IsUnproved dossiers
