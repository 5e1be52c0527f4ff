-- shares of routes: solutions of the master problem of branch and price, in which a route may be taken in part
use Rattle.std.specs.Prelude.{◌≡◌, ◌≤◌, ◌<◌, ◌+◌, ◌-◌, ◌*◌, ◌==◌, ◌≤ℤ◌, ◌+ℤ◌, ◌*ℤ◌, ℕ, ℤ, pos, true, List, length, filter, sum_by, count_by, slice_index_or, if◌then◌else◌, All}
use Rattle.crew_terms.specs.Instance.{task_of}
use Rattle.crew_terms.specs.Limits.{Limits, Route, IsRoute, tasks_in, teams_in, pair_of, is_required, has_required}
use Rattle.crew_terms.specs.Total.{total}
use Rattle.crew_terms.specs.declared.Visit.{Visit}
use Rattle.share_terms.specs.declared.TheConstants.{BIG_M}

-- how often the visits come to task j
abbrev pub visits_to : ℕ → List Visit → ℕ
visits_to j visits = count_by (λ (v : Visit). v.task == j) visits

-- a route of a team in the node
pub record IsRouteIn (n : Limits) (r : Route) : Type 0 where
  pub team : r.team < teams_in n
  pub route : IsRoute n r.team r.visits

-- a route, and how many parts of it are taken
pub record Share : Type 0 where
  pub route : Route
  pub parts : ℕ

-- shares of routes, and for each task the share of it that is left unassigned, in parts of which `whole` make one
pub record FractionalChoice : Type 0 where
  pub whole : ℕ
  pub shares : List Share
  pub unassigned : List ℕ

-- the unassigned share of task j
abbrev pub unassigned_of : FractionalChoice → ℕ → ℕ
unassigned_of c j = slice_index_or c.unassigned j 0

-- those of team k's routes
abbrev pub shares_of : List Share → ℕ → List Share
shares_of shares k = filter (λ (s : Share). k == s.route.team) shares

-- the sum of the shares
abbrev pub parts_of : List Share → ℕ
parts_of shares = sum_by (λ (s : Share). s.parts) shares

-- the visits of these shares to task j, those of each route by its share
abbrev pub weighed_visits : List Share → ℕ → ℕ
weighed_visits shares j = sum_by (λ (s : Share). s.parts * visits_to j s.route.visits) shares

-- the shares are of routes in the node, at most a whole for each team; a task with a required pair is assigned
pub record IsFractional (n : Limits) (c : FractionalChoice) : Type 0 where
  pub some : 1 ≤ c.whole
  pub routes : All (λ (s : Share). IsRouteIn n s.route) c.shares
  pub most : (k : ℕ) → k < teams_in n → parts_of (shares_of c.shares k) ≤ c.whole
  pub tasks : length c.unassigned ≡ tasks_in n
  pub unassigned : (j : ℕ) → unassigned_of c j ≤ c.whole
  pub required : (j : ℕ) → has_required n j ≡ true → unassigned_of c j ≡ 0

-- how far two numbers lie apart
abbrev pub distance : ℕ → ℕ → ℕ
distance a b = (a - b) + (b - a)

-- how far the visits to task j are from what its assigned share needs
abbrev pub task_gap : Limits → FractionalChoice → ℕ → ℤ
task_gap n c j = pos (distance ((task_of n.instance j).teams * (c.whole - unassigned_of c j)) (weighed_visits c.shares j))

-- how far the visits of team k to task j are from one, where they are required
abbrev pub pair_gap : Limits → FractionalChoice → ℕ → ℕ → ℤ
pair_gap n c k j = if is_required (pair_of n k j) then pos (distance c.whole (weighed_visits (shares_of c.shares k) j)) else pos 0

-- the value in parts: what is left unassigned, and the penalty for each part that is missing or too much
abbrev pub choice_value : Limits → FractionalChoice → ℤ
choice_value n c = total (tasks_in n) (λ j. pos (unassigned_of c j))
    +ℤ ((pos BIG_M *ℤ total (tasks_in n) (task_gap n c))
    +ℤ (pos BIG_M *ℤ total (teams_in n) (λ k. total (tasks_in n) (pair_gap n c k))))

-- the value is at most `most` of the parts of which `of` make one
abbrev pub IsLoose : Limits → FractionalChoice → ℕ → ℕ → Type 0
IsLoose n c most of = (pos of *ℤ choice_value n c) ≤ℤ (pos most *ℤ pos c.whole)
