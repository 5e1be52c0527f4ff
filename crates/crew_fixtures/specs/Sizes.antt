-- what tests have to know of a fixture
use Rattle.std.specs.Prelude.{◌≡◌, ℕ, List, length}
use Rattle.crew_terms.specs.Instance.{Instance}
use Rattle.crew_terms.specs.declared.Team.{Team}
use Rattle.crew_terms.specs.declared.Task.{Task}
use Rattle.crew_instance.specs.Draft.{Draft}

-- p places, k teams and j tasks
pub record HasSizes (p k j : ℕ) (i : Instance) : Type 0 where
  pub places : length i.places ≡ p
  pub teams : length i.teams ≡ k
  pub tasks : length i.tasks ≡ j

-- p places, and these teams and tasks
pub record HasParts (p : ℕ) (the_teams : List Team) (the_tasks : List Task) (d : Draft) : Type 0 where
  pub places : length d.places ≡ p
  pub teams : d.teams ≡ the_teams
  pub tasks : d.tasks ≡ the_tasks
