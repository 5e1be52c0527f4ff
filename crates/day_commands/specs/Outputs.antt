-- what a command over days takes, and which texts it writes of a day's rounds
use Rattle.std.specs.Prelude.{◌≡◌, ℕ, Bool, true, false, List, [], ◌∷◌}
use Rattle.crew_terms.specs.Legal.{IsLegal}
use Rattle.crew_terms.specs.Plan.{Plan}
use Rattle.day_terms.specs.Rounds.{Round}
use Rattle.day_commands.specs.Instances.{AreInstances}
use Rattle.day_commands.specs.Dossiers.{AreDossiers, AreProved, AreUnproved}
use Rattle.day_commands.specs.declared.ended.DayOutput.{DayOutput}
use Rattle.day_commands.specs.declared.ended.DayOutput.TheVariants.{Instances, Dossiers}

-- the plans are legal ones of the first rounds, one for each
abbrev pub AreLegal : List Plan → List Round → Type 0
AreLegal [] rounds = Unit {0}
AreLegal (p ∷ ps) [] = ⊥
AreLegal (p ∷ ps) (r ∷ rs) = IsLegal r.instance p × AreLegal ps rs

-- the plans are ones that the rounds may have, as far as they are known: none where no plan is made, else legal ones
abbrev pub MayHave : DayOutput → List Plan → List Round → Type 0
MayHave Instances = λ plans rounds. plans ≡ []
MayHave Dossiers = AreLegal

-- the text is one of rounds with these plans
abbrev pub TextsOf : DayOutput → List Plan → List Round → List ℕ → Type 0
TextsOf Instances = AreInstances
TextsOf Dossiers = AreDossiers

-- and if it is of dossiers, each is proved
abbrev pub ProvedOf : DayOutput → List Plan → List Round → List ℕ → Type 0
ProvedOf Instances = AreInstances
ProvedOf Dossiers = AreProved

-- it is of dossiers, and some is not
abbrev pub UnprovedOf : DayOutput → List Plan → List Round → List ℕ → Type 0
UnprovedOf Instances = λ plans rounds text. ⊥
UnprovedOf Dossiers = AreUnproved

-- dossiers are written
abbrev pub are_dossiers : DayOutput → Bool
are_dossiers Instances = false
are_dossiers Dossiers = true
