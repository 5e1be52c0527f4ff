-- the first missing time, and the rounds of a day
use Rattle.std.specs.Prelude.{◌++◌, ◌&&◌, ℕ, Bool, List, [], ◌∷◌, Option, not, bytes_eq, is_none, find, flat_map, map}
use Rattle.crew_terms.specs.Instance.{Instance}
use Rattle.day_terms.specs.State.{DayState, start_with}
use Rattle.day_terms.specs.Instances.{day_instance, minutes_given}
use Rattle.day_terms.specs.Entries.{after_entry}
use Rattle.crew_terms.specs.Plan.{Plan as Jobs}
use Rattle.day_terms.specs.declared.Entry.{Entry}
use Rattle.day_terms.specs.declared.Entry.TheVariants.{Plan}

-- the pairs of places, by the first and then by the second
abbrev pub pairs_of : List (List ℕ) → List (List ℕ × List ℕ)
pairs_of places = flat_map (λ from. map (λ to. (from, to)) places) places

-- two different places, of which nothing says the time from the one to the other
abbrev pub lacks_time : DayState → List ℕ × List ℕ → Bool
lacks_time s p = not (bytes_eq p.0 p.1) && is_none (minutes_given s p.0 p.1) && is_none s.default_minutes

-- the first such pair
abbrev pub first_missing : DayState → Option (List ℕ × List ℕ)
first_missing s = find (lacks_time s) (pairs_of s.places)

-- what is to be planned, and the budget of nodes for it
pub record Round : Type 0 where
  pub instance : Instance
  pub nodes : ℕ

-- the round that begins with the entry, if it is one of a plan
abbrev pub round_at : DayState → Entry → List Round
round_at s (Plan nodes) = record { instance = day_instance s; nodes = nodes } ∷ []
round_at s _ = []

-- the rounds of these entries, from a state on
abbrev pub rounds_from : DayState → List Entry → List Round
rounds_from s [] = []
rounds_from s (entry ∷ entries) = round_at s entry ++ rounds_from (after_entry s entry) entries

-- for each entry of a plan, the instance after all earlier entries, where the rounds among these have these plans, and its
-- budget
abbrev pub rounds_of : List Jobs → List Entry → List Round
rounds_of plans entries = rounds_from (start_with plans) entries
