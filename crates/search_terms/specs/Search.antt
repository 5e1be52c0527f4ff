-- runs of a search by branch and price: its steps, for every order of open leaves
use Rattle.std.specs.Prelude.{◌≡◌, ◌≤◌, ◌<◌, ◌+◌, ◌++◌, ℕ, List, length, All}
use Rattle.crew_terms.specs.Instance.{Instance}
use Rattle.crew_terms.specs.Plan.{Plan, unassigned_count}
use Rattle.crew_terms.specs.Legal.{IsLegal, IsPacked}
use Rattle.crew_terms.specs.Limits.{Limits, Route, root_limits, tasks_in}
use Rattle.crew_terms.specs.Leaf.{Prices, zero_prices}
use Rattle.crew_terms.specs.Branches.{LeafNode, SplitNode, Bare}
use Rattle.crew_terms.specs.Tree.{Tree}
use Rattle.crew_terms.specs.declared.Side.{Side}
use Rattle.search_terms.specs.declared.TheConstants.{PIVOTS}
use Rattle.search_terms.specs.Choice.{IsValidChoice}
use Rattle.search_terms.specs.Proven.{PricesProve, ProveAsMuch}
use Rattle.share_terms.specs.Shares.{IsRouteIn}
use Rattle.search_terms.specs.Earned.{IsEarned}
use Rattle.search_terms.specs.SearchTree.{SearchTree, OpenLeaf, ClosedLeaf, Split, EachOpen, IsTreeOf}
use Rattle.search_terms.specs.Ways.{IsOpenAt, limits_at, prices_at, replaced}

-- the best plan so far, the tree, and how many steps are left
pub record SearchState : Type 0 where
  pub plan : Plan
  pub tree : SearchTree
  pub left : ℕ

-- how many tasks the best plan leaves unassigned
abbrev pub best : SearchState → ℕ
best s = unassigned_count s.plan

-- a plan that a search keeps
pub record IsKeepable (i : Instance) (p : Plan) : Type 0 where
  pub legal : IsLegal i p
  pub packed : IsPacked i p

-- a search begins with a packed plan, and the root open at zero prices
pub record IsStart (i : Instance) (budget : ℕ) (s : SearchState) : Type 0 where
  pub plan : IsKeepable i s.plan
  pub tree : s.tree ≡ LeafNode (OpenLeaf (zero_prices (root_limits i)))
  pub left : s.left ≡ budget

-- ---- steps

-- the plan stays, or a better one takes its place
pub data Improves (i : Instance) (old new : Plan) : Type 0 where
  Stays : (same : new ≡ old) → Improves i old new
  Betters : (plan : IsKeepable i new) (fewer : unassigned_count new < unassigned_count old) → Improves i old new

-- a route that a node may add to the columns
pub record IsColumn (n : Limits) (r : Route) : Type 0 where
  pub legal : IsRouteIn n r
  pub some : 1 ≤ length r.visits

-- routes of the node are added to the columns
pub record Extends (n : Limits) (columns more : List Route) : Type 0 where
  pub added : List Route
  pub all : more ≡ columns ++ added
  pub routes : All (IsColumn n) added

-- both children get the prices that the step found, or the node's own where these prove more in the node
pub data IsHandedOn (n : Limits) (own found handed : Prices) : Type 0 where
  Found : (enough : ProveAsMuch n found own) (is : handed ≡ found) → IsHandedOn n own found handed
  Own : (l : ℕ) (known : l ≤ tasks_in n) (more : PricesProve n own l) (less : PricesProve n found l → ⊥) (is : handed ≡ own)
      → IsHandedOn n own found handed

-- the node is split by a valid choice, which the columns earn, while the plan leaves `now` tasks unassigned
pub record IsSplit (now pivots : ℕ) (columns : List Route) (n : Limits) (own handed : Prices) (split : Split) : Type 0 where
  pub valid : IsValidChoice n split.choice
  pub some : 1 ≤ now
  pub count : split.cause.now ≡ now
  pub found : Prices
  pub earned : IsEarned n now found pivots columns split.cause.why
  pub on : IsHandedOn n own found handed

-- what an open leaf with these prices becomes: a leaf whose prices prove `now`, or a split with two open leaves
pub data Becomes (now pivots : ℕ) (columns : List Route) (n : Limits) (own : Prices) (new : SearchTree) : Type 0 where
  Closes : (prices : Prices) (proved : PricesProve n prices now)
      (is : new ≡ LeafNode (ClosedLeaf prices)) → Becomes now pivots columns n own new
  Splits : (split : Split) (handed : Prices) (valid : IsSplit now pivots columns n own handed split)
      (is : new ≡ SplitNode split (LeafNode (OpenLeaf handed)) (LeafNode (OpenLeaf handed)))
      → Becomes now pivots columns n own new

-- the open leaf at the end of the way is closed or split, with these columns
pub record IsSearchStep (i : Instance) (way : List Side) (pivots : ℕ) (columns more : List Route) (s t : SearchState) : Type 0 where
  pub leads : IsOpenAt s.tree way
  pub plan : Improves i s.plan t.plan
  pub extends : Extends (limits_at (root_limits i) s.tree way) columns more
  pub new : SearchTree
  pub becomes : Becomes (best t) pivots more (limits_at (root_limits i) s.tree way) (prices_at s.tree way) new
  pub tree : t.tree ≡ replaced s.tree way new
  pub left : s.left ≡ t.left + 1

-- ---- runs

-- steps from the start lead here, each with any open leaf, any columns and any number of pivots
pub data IsRun (i : Instance) (budget : ℕ) : SearchState → Type 0 where
  Start : (s : SearchState) (start : IsStart i budget s) → IsRun i budget s
  Then : (s t : SearchState) (way : List Side) (pivots : ℕ) (columns more : List Route) (run : IsRun i budget s)
      (step : IsSearchStep i way pivots columns more s t) → IsRun i budget t

-- steps lead here, the first with the kept routes and each further one with the columns that the one before left; the last
-- leaves this pool
pub data IsSearchRun (i : Instance) (budget : ℕ) (kept : List Route) : List Route → SearchState → Type 0 where
  Starts : (s : SearchState) (start : IsStart i budget s) → IsSearchRun i budget kept kept s
  Goes : (columns pool : List Route) (s t : SearchState) (way : List Side) (run : IsSearchRun i budget kept columns s)
      (step : IsSearchStep i way PIVOTS columns pool s t) → IsSearchRun i budget kept pool t

-- ---- what a state proves, and what is handed out of it

-- every open leaf proves l, and the plan leaves at least l tasks unassigned
pub record IsProved (i : Instance) (s : SearchState) (l : ℕ) : Type 0 where
  pub plan : l ≤ best s
  pub leaves : EachOpen (λ n prices. PricesProve n prices l) (root_limits i) s.tree

-- the least of what the plan leaves unassigned and what the open leaves prove
pub record IsBound (i : Instance) (s : SearchState) (b : ℕ) : Type 0 where
  pub proved : IsProved i s b
  pub greatest : (l : ℕ) → IsProved i s l → l ≤ b

-- the tree that is handed out: that of the search, or a bare leaf where no step took the root and nothing is unassigned
pub data IsHandedOut (s : SearchState) (t : Tree) : Type 0 where
  Whole : (has : IsTreeOf s.tree t) → IsHandedOut s t
  Untaken : (prices : Prices) (root : s.tree ≡ LeafNode (OpenLeaf prices)) (none : best s ≡ 0)
      (is : t ≡ LeafNode Bare) → IsHandedOut s t

-- what a search hands out: a plan, a tree, and a pool of routes
pub record SearchOutcome : Type 0 where
  pub plan : Plan
  pub tree : Tree
  pub pool : List Route

-- a run of the search over the pool ends in s, with this plan and this tree
pub record IsSearched (i : Instance) (budget : ℕ) (kept : List Route) (outcome : SearchOutcome) (s : SearchState) : Type 0 where
  pub run : IsSearchRun i budget kept outcome.pool s
  pub plan : outcome.plan ≡ s.plan
  pub tree : IsHandedOut s outcome.tree
