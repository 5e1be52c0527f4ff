-- lists of skills
use Rattle.std.specs.Prelude.{◌<◌, ℕ, List, All}
use Rattle.std.specs.List.Sorted.{IsStrictlyIncreasing}
use Rattle.crew_terms.specs.declared.TheConstants.{SKILLS}

-- skills from 0 to 63, rising
pub record IsSkillList (skills : List ℕ) : Type 0 where
  pub rising : IsStrictlyIncreasing skills
  pub known : All (λ s. s < SKILLS) skills
