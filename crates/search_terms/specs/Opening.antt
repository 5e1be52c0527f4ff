-- the opening rows of a node, and the rows after a route has entered
use Rattle.std.specs.Prelude.{◌≡◌, ◌<◌, ◌==◌, ◌&&◌, not, ℕ, suc, Bool, true, false, ℤ, pos, negsuc, ◌+ℤ◌, ◌-ℤ◌, ◌*ℤ◌, List, [], ◌∷◌, ◌++◌, length, map, filter, flat_map, slice_index_or, if◌then◌else◌}
use Rattle.std.specs.List.{range_with_len}
use Rattle.crew_terms.specs.Instance.{task_of}
use Rattle.crew_terms.specs.Limits.{Limits, Route, tasks_in, teams_in, has_required}
use Rattle.crew_terms.specs.Minutes.{required_teams}
use Rattle.crew_terms.specs.Total.{total}
use Rattle.search_terms.specs.declared.Place.{Place}
use Rattle.search_terms.specs.declared.Place.TheVariants.{Right, Value, Unused, Unassigned, Shortage, Excess, Missed, Repeated}
use Rattle.share_terms.specs.declared.TheConstants.{BIG_M}
use Rattle.search_terms.specs.declared.TheConstants.{VALUE}
use Rattle.search_terms.specs.Rows.{Row, Rows, number}
use Rattle.share_terms.specs.Shares.{visits_to}

-- the required pairs, by task and then by team
abbrev pub required_pairs : Limits → List (ℕ × ℕ)
required_pairs n = flat_map (λ j. map (λ k. (k, j)) (required_teams n j)) (range_with_len 0 (tasks_in n))

-- the variables of the opening rows, in order
abbrev pub variables : Limits → List Place
variables n = map Unused (range_with_len 0 (teams_in n))
    ++ map Unassigned (filter (λ j. not (has_required n j)) (range_with_len 0 (tasks_in n)))
    ++ flat_map (λ j. Shortage j ∷ Excess j ∷ []) (range_with_len 0 (tasks_in n))
    ++ flat_map (λ (p : ℕ × ℕ). Missed p.0 p.1 ∷ Repeated p.0 p.1 ∷ []) (required_pairs n)

-- the places of the opening rows; those of routes come behind
abbrev pub places : Limits → List Place
places n = Right ∷ Value ∷ variables n

-- a row opens with this as its basic variable
abbrev pub opens : Place → Bool
opens (Unused k) = true
opens (Shortage j) = true
opens (Missed k j) = true
opens _ = false

-- the basic variables of the opening rows but the value's, in the order of these rows: per team, task and required pair
abbrev pub basics : List Place → List Place
basics ps = filter opens ps

-- what each opening row opens with; the value's row is the last
abbrev pub openers : List Place → List Place
openers ps = basics ps ++ Value ∷ []

-- what the opening row h opens with, but the value
abbrev pub basic_at : List Place → ℕ → Place
basic_at ps h = slice_index_or (basics ps) h Value

-- what the opening row h opens with
abbrev pub opener : List Place → ℕ → Place
opener ps h = slice_index_or (openers ps) h Value

-- the opening row h of the node opens with this
pub record OpensWith (n : Limits) (h : ℕ) (p : Place) : Type 0 where
  pub known : h < length (openers (places n))
  pub is : opener (places n) h ≡ p

-- the numbers, from at on, of the places that pass the test
abbrev pub places_where : (Place → Bool) → ℕ → List Place → List ℕ
places_where test at [] = []
places_where test at (p ∷ ps) = if test p then at ∷ places_where test (suc at) ps else places_where test (suc at) ps

-- 1 or 0
abbrev pub one_if : Bool → ℤ
one_if b = if b then pos 1 else pos 0

-- minus 1, or 0
abbrev pub less_one_if : Bool → ℤ
less_one_if b = if b then negsuc 0 else pos 0

-- how many teams task j needs
abbrev pub teams_for : Limits → ℕ → ℕ
teams_for n j = (task_of n.instance j).teams

-- the shares of a team's routes and its unused share sum to 1
abbrev pub team_number : ℕ → Place → ℤ
team_number k Right = pos 1
team_number k (Unused h) = one_if (h == k)
team_number k _ = pos 0

-- the visits to a task and its shortage, less its excess, are its teams times its assigned share
abbrev pub task_number : Limits → ℕ → Place → ℤ
task_number n j Right = pos (teams_for n j)
task_number n j (Unassigned i) = if i == j then pos (teams_for n j) else pos 0
task_number n j (Shortage i) = one_if (i == j)
task_number n j (Excess i) = less_one_if (i == j)
task_number n j _ = pos 0

-- a required team's visits to its task and the missed part, less the repeated part, are 1
abbrev pub pair_number : ℕ → ℕ → Place → ℤ
pair_number k j Right = pos 1
pair_number k j (Missed h i) = one_if ((h == k) && (i == j))
pair_number k j (Repeated h i) = less_one_if ((h == k) && (i == j))
pair_number k j _ = pos 0

-- the number at place p of the row that opens with b
abbrev pub basic_number : Limits → Place → Place → ℤ
basic_number n (Unused k) p = team_number k p
basic_number n (Shortage j) p = task_number n j p
basic_number n (Missed k j) p = pair_number k j p
basic_number n _ p = pos 0

-- what a unit costs. The value is the sum of the costs, so that all costs less the value are 0
abbrev pub cost : Place → ℤ
cost Value = negsuc 0
cost (Unassigned j) = pos 1
cost (Shortage j) = pos BIG_M
cost (Excess j) = pos BIG_M
cost (Missed k j) = pos BIG_M
cost (Repeated k j) = pos BIG_M
cost _ = pos 0

-- the costs of the rows' basic variables, each times the number that its row has
abbrev pub cost_sum : List Place → (Place → ℤ) → ℤ
cost_sum ps a = total (length (basics ps)) (λ h. cost (basic_at ps h) *ℤ a (basic_at ps h))

-- the value's row has the costs, less what the other rows say of their basic variables: so it has 0 at these
abbrev pub opening_number : Limits → Place → Place → ℤ
opening_number n Value p = cost_sum (places n) (λ b. basic_number n b p) -ℤ cost p
opening_number n b p = basic_number n b p

-- the places of the openers
abbrev pub opening_basis : List Place → List ℕ
opening_basis ps = places_where opens 0 ps ++ VALUE ∷ []

-- the opening rows of a node
abbrev pub opening : Limits → Rows
opening n = record {
  rows = map (λ b. map (opening_number n b) (places n)) (openers (places n));
  basis = opening_basis (places n);
}

-- the number of a route in the row that opens with b
abbrev pub visit_number : Route → Place → ℤ
visit_number r (Unused k) = one_if (k == r.team)
visit_number r (Shortage j) = pos (visits_to j r.visits)
visit_number r (Missed k j) = if k == r.team then pos (visits_to j r.visits) else pos 0
visit_number r _ = pos 0

-- the same, and in the value's row, since a route costs nothing
abbrev pub route_number : List Place → Route → Place → ℤ
route_number ps r Value = cost_sum ps (visit_number r)
route_number ps r b = visit_number r b

-- how many times a row has the opening row h: its number at the variable with which that row opened
abbrev pub times : List Place → Row → ℕ → ℤ
times ps row h = number row (slice_index_or (opening_basis ps) h 0)

-- the number of an entered route: what the opening rows that the row is made of say of it
abbrev pub entry : List Place → Route → Row → ℤ
entry ps r row = total (length (openers ps)) (λ h. times ps row h *ℤ route_number ps r (opener ps h))

-- the route is the last variable
abbrev pub entered : List Place → Route → Rows → Rows
entered ps r t = record t { rows = map (λ row. row ++ entry ps r row ∷ []) t.rows }

-- the routes are the last variables
abbrev pub all_entered : List Place → List Route → Rows → Rows
all_entered ps [] t = t
all_entered ps (r ∷ rs) t = all_entered ps rs (entered ps r t)

-- the opening rows with these routes as variables: no pivot is made
abbrev pub with_routes : Limits → List Route → Rows
with_routes n routes = all_entered (places n) routes (opening n)

-- the dual number of the opening row h, over the value's basic entry: minus the worth of a team, the price of a task, or
-- the extra of a required pair
abbrev pub dual : List Place → Row → ℕ → ℤ
dual ps value h = times ps value h +ℤ (number value VALUE *ℤ cost (opener ps h))

-- what stands at place j
abbrev pub place_at : List Place → ℕ → Place
place_at ps j = slice_index_or ps j Right

-- what a route earns by these duals: the prices of its visits with the extras, less its team's worth
abbrev pub dual_sum : List Place → Row → Route → ℤ
dual_sum ps value r = total (length (basics ps)) (λ h. dual ps value h *ℤ visit_number r (basic_at ps h))
