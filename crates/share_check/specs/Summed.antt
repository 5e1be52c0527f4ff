-- the sums of the shares of a cause
use Rattle.std.specs.Prelude.{◌≡◌, ◌<◌, ◌+◌, ◌-◌, ◌*◌, ℕ, List, length, slice_index_or}
use Rattle.crew_terms.specs.Limits.{Limits, tasks_in, teams_in}
use Rattle.share_terms.specs.Shares.{Share, FractionalChoice, IsFractional, IsLoose, parts_of, shares_of, weighed_visits}
use Rattle.share_check.specs.CellSums.{AreSums, IsSum}
use Rattle.share_check.specs.declared.sums.Sums.{Sums}
use Rattle.share_check.specs.declared.sums.ShareSums.{ShareSums}

-- the sums of these shares, and of their visits to n tasks
pub record IsSumsOf (n whole : ℕ) (shares : List Share) (s : Sums) : Type 0 where
  pub count : length s.visits.items ≡ n
  pub share : IsSum whole s.share (parts_of shares)
  pub visits : AreSums whole s.visits.items (weighed_visits shares)

-- there are sums for each team and task of the node
pub record HasRoom (n : Limits) (s : ShareSums) : Type 0 where
  pub all : length s.all.visits.items ≡ tasks_in n
  pub count : length s.teams.items ≡ teams_in n
  pub teams : (k : ℕ) (d : Sums) → k < teams_in n → length (slice_index_or s.teams.items k d).visits.items ≡ tasks_in n

-- they are the sums of these shares: of all, and of each team's
pub record IsSharesOf (n : Limits) (whole : ℕ) (shares : List Share) (s : ShareSums) : Type 0 where
  pub all : IsSumsOf (tasks_in n) whole shares s.all
  pub count : length s.teams.items ≡ teams_in n
  pub teams : (k : ℕ) (d : Sums) → k < teams_in n → IsSumsOf (tasks_in n) whole (shares_of shares k) (slice_index_or s.teams.items k d)

-- the choice is a fractional one in the node, and it leaves at most now - 1 tasks and a thousandth of one unassigned
pub record IsLooseChoice (n : Limits) (c : FractionalChoice) (now : ℕ) : Type 0 where
  pub choice : IsFractional n c
  pub loose : IsLoose n c ((now - 1) * 1000 + 1) 1000
