-- a pricer, as contracts see it
use Rattle.std.specs.Prelude.{◌≡◌, ℕ, ℤ, List, length}
use Rattle.crew_terms.specs.Instance.{Instance}
use Rattle.crew_terms.specs.declared.Visit.{Visit}

-- for how many places there is room; the route that was found last; the worths that were found last
pub record Pricing : Type 0 where
  pub places : ℕ
  pub route : List Visit
  pub worths : List ℤ

-- there is room for any team of the instance
abbrev pub HasRoom : Instance → Pricing → Type 0
HasRoom i room = length i.places ≡ room.places
