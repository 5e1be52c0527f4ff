-- steps of a search by their keys, and what it hands out
use Rattle.std.specs.Prelude.{◌≡◌, ◌≢◌, ◌+◌, ◌-◌, ◌++◌, ◌⊎◌, ℕ, List, Option, All, map, unwrap_or}
use Rattle.branch_tree.specs.Entries.{EachSplitOf}
use Rattle.branch_tree.specs.Trees.{preorder}
use Rattle.crew_terms.specs.Branches.{LeafNode, splits}
use Rattle.crew_terms.specs.Instance.{Instance}
use Rattle.crew_terms.specs.Leaf.{Prices}
use Rattle.crew_terms.specs.Limits.{Route, root_limits}
use Rattle.crew_terms.specs.Plan.{Plan, unassigned_count}
use Rattle.search_tree.specs.Aged.{leaves_of, leaves_without}
use Rattle.search_tree.specs.Keyed.{IsKeyed, Keyed}
use Rattle.search_core.specs.Searching.{Searching, IsOpenKey, split_cause, state_of, way_to}
use Rattle.search_core.specs.Shown.{AreLoosePriced, AreShown, IsShownCause}
use Rattle.search_core.specs.declared.causes.Cause.{Cause}
use Rattle.search_core.specs.declared.causes.Outcome.{Outcome}
use Rattle.search_terms.specs.BestFirst.{AgedLeaf, ComeOf, IsBestFirst}
use Rattle.search_terms.specs.Caused.{AreLooseShown}
use Rattle.search_terms.specs.Search.{IsBound, IsRun, IsSearchRun, IsSearchStep, SearchState, best}
use Rattle.search_terms.specs.SearchTree.{ClosedLeaf, causes, closed_leaves}
use Rattle.search_terms.specs.Ways.{replaced}
use Rattle.search_core.specs.Outline.{handed_out}
use Rattle.search_core.specs.Visited.{HasPricesOf}

-- steps from the start lead to the state of the search, whatever columns its causes are of; its open leaves wait under keys
pub record IsSearching (s : Searching) : Type 0 where
  pub run : (columns : List Route) → IsRun s.instance s.budget (state_of columns s)
  pub keyed : IsKeyed s.keyed

-- the search after a step: with a better plan, if there is one, and one step less
abbrev pub after_step : Searching → Option Plan → Keyed → List Prices → List Cause → Searching
after_step s found keyed prices causes = record {
  instance = s.instance;
  budget = s.budget;
  plan = unwrap_or found s.plan;
  left = s.left - 1;
  keyed = keyed;
  prices = prices;
  causes = causes;
}

-- the open leaves are the others, which stay in order, and behind them those that come of the one under the key
pub record AgeOn (held : List Route) (key : ℕ) (s t : Searching) : Type 0 where
  pub new : List AgedLeaf
  pub come : ComeOf (root_limits s.instance) (way_to s key) (state_of held s).tree (state_of held t).tree new
  pub leaves : leaves_of t.keyed ≡ leaves_without s.keyed key ++ new

-- the open leaf under the key is closed or split, by this many pivots, with these columns
pub record IsKeyStep (key pivots : ℕ) (columns more : List Route) (s t : Searching) : Type 0 where
  pub instance : t.instance ≡ s.instance
  pub budget : t.budget ≡ s.budget
  -- where the causes of splits show by the columns of before, all do by those of after
  pub shown : AreShown columns s → AreShown more t
  -- and where the open leaves below loose splits prove what their shares nearly prove, they go on to
  pub priced : AreLoosePriced columns s → AreLoosePriced more t
  pub step : (held : List Route) → IsSearchStep s.instance (way_to s key) pivots columns more (state_of held s) (state_of held t)
  -- the open leaves by age
  pub aged : (held : List Route) → AgeOn held key s t
  -- the other keys stay, with their leaves
  pub stay : (other : ℕ) → other ≢ key → IsOpenKey s other → IsOpenKey t other × (way_to t other ≡ way_to s other)
  -- and this one is gone
  pub gone : IsOpenKey t key → ⊥

-- the leaf under the key is closed
abbrev pub IsClosed : List Route → ℕ → Searching → Searching → Type 0
IsClosed held key s t = (prices : Prices) × ((state_of held t).tree ≡ replaced (state_of held s).tree (way_to s key) (LeafNode (ClosedLeaf prices)))

-- splits, closed leaves and the steps that are left make the budget
abbrev pub IsCounted : ℕ → SearchState → Type 0
IsCounted budget s = splits s.tree + closed_leaves s.tree + s.left ≡ budget

-- the plan of the search, its bound, its tree in preorder, and the causes of its splits in preorder, of these columns
pub record IsOutcome (i : Instance) (held : List Route) (s : SearchState) (o : Outcome) : Type 0 where
  pub plan : o.plan ≡ s.plan
  pub bound : IsBound i s o.bound
  pub tree : o.tree ≡ preorder (handed_out s)
  pub prices : All (HasPricesOf (root_limits i)) o.tree
  pub causes : map (split_cause held) o.causes.items ≡ causes s.tree

-- nothing better is possible, or no step is left
abbrev pub IsDone : Instance → SearchState → Type 0
IsDone i s = IsBound i s (best s) ⊎ (s.left ≡ 0)

-- each cause of the outcome shows in its node, of this pool
abbrev pub IsShownOutcome : Instance → List Route → SearchState → Outcome → Type 0
IsShownOutcome i pool s o = EachSplitOf (IsShownCause pool (unassigned_count o.plan)) (root_limits i) (handed_out s) o.causes.items

-- a search of so many steps from the kept columns comes to the outcome, over this pool; each step is at the oldest open leaf
-- of least bound
pub record IsSolved (i : Instance) (nodes : ℕ) (kept pool : List Route) (o : Outcome) : Type 0 where
  pub state : SearchState
  pub run : IsSearchRun i nodes kept pool state
  pub leaves : List AgedLeaf
  pub order : IsBestFirst i nodes kept pool state leaves
  pub outcome : IsOutcome i pool state o
  pub shown : IsShownOutcome i pool state o
  pub loose : AreLooseShown (root_limits i) state.tree
  pub done : IsDone i state
