-- the places of a task's row and of a pair's
use Rattle.std.specs.Prelude.{ℕ, List, [], ◌∷◌}
use Rattle.search_terms.specs.declared.Place.{Place}
use Rattle.search_terms.specs.declared.Place.TheVariants.{Shortage, Excess, Missed, Repeated}

abbrev pub both_of_task : ℕ → List Place
both_of_task j = Shortage j ∷ Excess j ∷ []

abbrev pub both_of_pair : ℕ × ℕ → List Place
both_of_pair p = Missed p.0 p.1 ∷ Repeated p.0 p.1 ∷ []
