-- the numbers at the end of a route's line
use Rattle.std.specs.Prelude.{◌≡◌, ◌<◌, ◌^◌, ℤ, pos, List, [], ◌∷◌, map}
use Rattle.std.specs.List.{AllByRecursion, flat_map}
use Rattle.crew_terms.specs.declared.Visit.{Visit}

-- of each visit in turn its task and its minute, in 32 bits
pub record AreNumbersOf (visits : List Visit) (numbers : List ℤ) : Type 0 where
  pub spelled : numbers ≡ map pos (flat_map (λ (v : Visit). v.task ∷ v.start ∷ []) visits)
  pub tasks : AllByRecursion (λ (v : Visit). v.task < 2 ^ 32) visits
  pub starts : AllByRecursion (λ (v : Visit). v.start < 2 ^ 32) visits
