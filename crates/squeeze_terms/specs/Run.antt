-- price runs: subgradient steps, each after one route of every team
use Rattle.std.specs.Prelude.{◌≡◌, ◌<◌, ◌+◌, ◌*◌, ◌/◌, ◌&&◌, ◌==◌, ℕ, zero, suc, ℤ, pos, neg_ℤ, ◌+ℤ◌, ◌-ℤ◌, ◌*ℤ◌, int_lt, List, [], length, Option, None, map, find, count_by, sum_by, slice_index_or, if◌then◌else◌}
use Rattle.std.specs.List.{range_with_len}
use Rattle.std.specs.Option.{option_map_or}
use Rattle.std.specs.Ordering.{int_eq}
use Rattle.std.specs.Int.{int_min, int_max}
use Rattle.crew_terms.specs.Instance.{Instance, task_of}
use Rattle.crew_terms.specs.Limits.{Limits, IsRoute, root_limits}
use Rattle.crew_terms.specs.Leaf.{IsWorth, rewards}
use Rattle.crew_terms.specs.declared.TheConstants.{D, MOST_PRICE}
use Rattle.crew_terms.specs.declared.Visit.{Visit}
use Rattle.squeeze_terms.specs.MinutePrices.{MinutePrices, minute_price, price_at, price_count, price_place, zero_minute_prices}
use Rattle.squeeze_terms.specs.Possible.{possible_minutes}
use Rattle.squeeze_terms.specs.Bound.{minute_term, teams_price}

-- ---- the routes of a step

-- a route that earns the most, and is empty where nothing can be earned
pub record IsBestRoute (n : Limits) (k : ℕ) (w : ℕ → ℕ → ℤ) (route : List Visit) : Type 0 where
  pub route_is : IsRoute n k route
  pub most : IsWorth n k w (rewards w route)
  pub idle : rewards w route ≡ pos 0 → route ≡ []

-- for each team such a route by minute prices
pub record AreBestRoutes (i : Instance) (p : MinutePrices) (routes : List (List Visit)) : Type 0 where
  pub count : length routes ≡ length i.teams
  pub each : (k : ℕ) → k < length i.teams → IsBestRoute (root_limits i) k (minute_price i p) (slice_index_or routes k [])

-- ---- the prices after a step

-- the first possible minute at which the teams of task j earn least together, if that is less than one task
abbrev pub demand_minute : Instance → MinutePrices → ℕ → Option ℕ
demand_minute i p j =
    if int_lt (minute_term i p j) (pos D) then find (λ t. int_eq (teams_price i p j t) (minute_term i p j)) (possible_minutes i j) else None

-- how many visits the price at place x of task j is to have: as many as the task needs teams, where its demand stands at a minute of this price
abbrev pub demand_at : Instance → MinutePrices → ℕ → ℕ → ℕ
demand_at i p j x = option_map_or (λ t. if price_place (task_of i j) t == x then (task_of i j).teams else 0) (demand_minute i p j) 0

-- how often the visits come to task j at a minute of its price at place x
abbrev pub visits_priced : Instance → ℕ → ℕ → List Visit → ℕ
visits_priced i j x visits = count_by (λ (v : Visit). (v.task == j) && (price_place (task_of i j) v.start == x)) visits

-- how often the routes do
abbrev pub visits_at : Instance → List (List Visit) → ℕ → ℕ → ℕ
visits_at i routes j x = sum_by (visits_priced i j x) routes

-- how far step s, counted from 0, moves a price for each visit that it lacks
abbrev pub stride : ℕ → ℕ
stride s = D / (4 * (s + 1))

-- the number, cut off at the limits of prices
abbrev pub cut_off : ℤ → ℤ
cut_off v = int_max (neg_ℤ (pos MOST_PRICE)) (int_min (pos MOST_PRICE) v)

-- the price at place x of task j after step s
abbrev pub next_price : Instance → ℕ → MinutePrices → List (List Visit) → ℕ → ℕ → ℤ
next_price i s p routes j x = cut_off (price_at p j x +ℤ (pos (stride s) *ℤ (pos (demand_at i p j x) -ℤ pos (visits_at i routes j x))))

-- all prices after step s
abbrev pub next_prices : Instance → ℕ → MinutePrices → List (List Visit) → MinutePrices
next_prices i s p routes = map (λ j. map (next_price i s p routes j) (range_with_len 0 (price_count (task_of i j)))) (range_with_len 0 (length i.tasks))

-- ---- runs

-- the routes of step s of a trace, which has those of each step
abbrev pub routes_at : List (List (List Visit)) → ℕ → List (List Visit)
routes_at trace s = slice_index_or trace s []

-- the prices after so many steps with the routes of the trace
abbrev pub prices_after : Instance → List (List (List Visit)) → ℕ → MinutePrices
prices_after i trace zero = zero_minute_prices i
prices_after i trace (suc s) = next_prices i s (prices_after i trace s) (routes_at trace s)

-- before each step the routes of the trace earn the most by the prices that stand then
abbrev pub IsPriceRun : Instance → List (List (List Visit)) → Type 0
IsPriceRun i trace = (s : ℕ) → s < length trace → AreBestRoutes i (prices_after i trace s) (routes_at trace s)
