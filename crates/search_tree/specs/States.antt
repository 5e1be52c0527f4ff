-- states of a search whose open leaves wait under keys
use Rattle.std.specs.Prelude.{◌≡◌, ◌≤◌, ◌↔◌, ℕ, ℤ}
use Rattle.crew_terms.specs.Instance.{Instance}
use Rattle.crew_terms.specs.Leaf.{IsOnRequired, Prices, Proves}
use Rattle.crew_terms.specs.Limits.{Limits, root_limits, tasks_in}
use Rattle.crew_terms.specs.Plan.{Plan, unassigned_count}
use Rattle.search_tree.specs.Keyed.{IsWaiting, Keyed}
use Rattle.search_terms.specs.Inside.{IsNode}
use Rattle.search_terms.specs.Proven.{PricesProve}
use Rattle.search_terms.specs.Search.{SearchState}
use Rattle.search_terms.specs.SearchTree.{SplitCause}
use Rattle.search_terms.specs.Ways.{IsOpenAt, limits_at, prices_at}
use Rattle.search_tree.specs.Numbered.{tree_of, way_of}
use Rattle.node_limits.specs.Walks.{CanBranch, limits_after}
use Rattle.search_tree.specs.Ways.{turns_of}

-- the state, where p are the prices and c the causes of their numbers
abbrev pub state_in : (ℕ → Prices) → (ℕ → SplitCause) → Plan → ℕ → Keyed → SearchState
state_in p c plan left k = record { plan = plan; tree = tree_of p c k.nodes; left = left }

-- the limits of the node n, by the turns to it
abbrev pub limits_of : Instance → Keyed → ℕ → Limits
limits_of i k n = limits_after (root_limits i) (turns_of k.nodes n)

-- the bound decides what the prices prove in the node
abbrev pub DecidesProved : Limits → Prices → ℤ → Type 0
DecidesProved n prices bound = (l : ℕ) → l ≤ tasks_in n → PricesProve n prices l ↔ Proves bound l

-- each bound that waits decides what the prices of its leaf prove there
abbrev pub AreBoundsIn : Limits → (ℕ → Prices) → (ℕ → SplitCause) → Keyed → Type 0
AreBoundsIn root p c k = (key n : ℕ) (bound : ℤ) → IsWaiting k key n bound →
    DecidesProved (limits_at root (tree_of p c k.nodes) (way_of k.nodes n)) (prices_at (tree_of p c k.nodes) (way_of k.nodes n)) bound

-- the node n is an open leaf of the tree, with the prices of the number
pub record HasLeaf (i : Instance) (p : ℕ → Prices) (c : ℕ → SplitCause) (k : Keyed) (n number : ℕ) : Type 0 where
  pub leads : IsOpenAt (tree_of p c k.nodes) (way_of k.nodes n)
  pub prices : prices_at (tree_of p c k.nodes) (way_of k.nodes n) ≡ p number
  pub limits : limits_at (root_limits i) (tree_of p c k.nodes) (way_of k.nodes n) ≡ limits_of i k n
  pub can : CanBranch (root_limits i) (turns_of k.nodes n)
  pub node : IsNode (limits_of i k n)
  pub priced : IsOnRequired (limits_of i k n) (p number)

-- b is the least of what the plan leaves unassigned and of the greatest number of tasks that the bound proves
pub record IsLeastCount (i : Instance) (plan : Plan) (bound : ℤ) (b : ℕ) : Type 0 where
  pub most : b ≤ unassigned_count plan
  pub known : unassigned_count plan ≤ tasks_in (root_limits i)
  pub proves : Proves bound b
  pub greatest : (l : ℕ) → l ≤ unassigned_count plan → Proves bound l → l ≤ b
