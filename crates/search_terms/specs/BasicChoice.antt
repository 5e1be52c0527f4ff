-- the fractional choice that the basic solution of a run's rows is
use Rattle.std.specs.Prelude.{◌≡◌, ◌≤◌, ◌<◌, ◌+◌, ◌==◌, ℕ, suc, pos, ◌*ℤ◌, Bool, false, List, [], ◌∷◌, map, length, sum_by, if◌then◌else◌}
use Rattle.std.specs.List.{range_with_len}
use Rattle.crew_terms.specs.Limits.{Limits, Route, tasks_in}
use Rattle.search_terms.specs.declared.Place.{Place}
use Rattle.search_terms.specs.declared.Place.TheVariants.{Unassigned}
use Rattle.search_terms.specs.declared.TheConstants.{RIGHT}
use Rattle.search_terms.specs.Rows.{Rows, number, row_of, basic_of, last}
use Rattle.search_terms.specs.Opening.{places, place_at, places_where}
use Rattle.share_terms.specs.Shares.{Share, FractionalChoice}

-- the basic solution gives the variable at place j so many of the parts of which `whole` make one
pub record HasParts (t : Rows) (whole j parts : ℕ) : Type 0 where
  pub basic : (h : ℕ) → h < last t → basic_of t h ≡ j →
      number (row_of t h) j *ℤ pos parts ≡ number (row_of t h) RIGHT *ℤ pos whole
  pub idle : ((h : ℕ) → h < last t → basic_of t h ≡ j → ⊥) → parts ≡ 0

-- the place is the unassigned share of task j
abbrev pub is_unassigned_at : ℕ → Place → Bool
is_unassigned_at j (Unassigned i) = i == j
is_unassigned_at j _ = false

-- the positive shares of the routes; that of the first stands at place at
abbrev pub route_shares : (ℕ → ℕ) → ℕ → List Route → List Share
route_shares x at [] = []
route_shares x at (r ∷ rs) =
    if x at == 0 then route_shares x (suc at) rs else record { route = r; parts = x at } ∷ route_shares x (suc at) rs

-- the choice with x of the parts at each place; a task without a place of its unassigned share has none
abbrev pub choice_of : Limits → List Route → ℕ → (ℕ → ℕ) → FractionalChoice
choice_of n routes whole x = record {
  whole = whole;
  shares = route_shares x (length (places n)) routes;
  unassigned = map (λ j. sum_by x (places_where (is_unassigned_at j) 0 (places n))) (range_with_len 0 (tasks_in n));
}

-- x are whole numbers of parts, for the routes and the unassigned shares
pub record AreWholeParts (n : Limits) (routes : List Route) (t : Rows) (whole : ℕ) (x : ℕ → ℕ) : Type 0 where
  pub some : 1 ≤ whole
  pub of_routes : (i : ℕ) → i < length routes → HasParts t whole (length (places n) + i) (x (length (places n) + i))
  pub of_tasks : (i j : ℕ) → i < length (places n) → place_at (places n) i ≡ Unassigned j → HasParts t whole i (x i)
