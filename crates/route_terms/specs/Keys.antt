-- routes as keys: when two are equal, and what is hashed of one
use Rattle.std.specs.Prelude.{ℕ, Bool, nat_eq, List, ◌++◌}
use Rattle.std.specs.List.{flat_map}
use Rattle.std.specs.Cmp.Lexicographic.{pointwise}
use Rattle.std.specs.Hash as fed
use Rattle.std.specs.Ordering.{on, eq_of_both}
use Rattle.crew_terms.specs.declared.Visit.{Visit}
use Rattle.crew_terms.specs.Limits.{Route}

-- the same task and the same minute
abbrev pub same_visit : Visit → Visit → Bool
same_visit = eq_of_both (on (λ (v : Visit). v.task) nat_eq) (on (λ (v : Visit). v.start) nat_eq)

-- the same team and the same visits
abbrev pub same_route : Route → Route → Bool
same_route = eq_of_both (on (λ (r : Route). r.team) nat_eq) (on (λ (r : Route). r.visits) (pointwise same_visit))

abbrev pub visit_input : Visit → List (List ℕ)
visit_input v = fed.u32 v.task ++ fed.u32 v.start

-- the team, and then each visit's task and minute
abbrev pub route_input : Route → List (List ℕ)
route_input r = fed.u32 r.team ++ flat_map visit_input r.visits
