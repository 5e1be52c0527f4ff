-- what `apply` writes of the rounds of a day: their instances
use Rattle.std.specs.Prelude.{◌≡◌, ℕ, List, []}
use Rattle.std.specs.List.{flat_map}
use Rattle.crew_terms.specs.Plan.{Plan}
use Rattle.dossier_terms.specs.Lines.{instance_text}
use Rattle.day_terms.specs.Rounds.{Round}

-- the instances of rounds, each with its budget, one after another
abbrev pub rounds_text : List Round → List ℕ
rounds_text rounds = flat_map (λ r. instance_text r.instance r.nodes) rounds

-- the text is that of the rounds' instances, and no round has a plan
abbrev pub AreInstances : List Plan → List Round → List ℕ → Type 0
AreInstances plans rounds text = (plans ≡ []) × (text ≡ rounds_text rounds)
