-- a search, as contracts see it
use Rattle.std.specs.Prelude.{ℕ, ℤ, Option, None, Some, List, slice_index_or}
use Rattle.crew_terms.specs.Instance.{Instance}
use Rattle.crew_terms.specs.Leaf.{Prices}
use Rattle.crew_terms.specs.Limits.{Limits, Route, root_limits}
use Rattle.crew_terms.specs.Plan.{Plan}
use Rattle.crew_terms.specs.declared.Side.{Side}
use Rattle.search_tree.specs.Aged.{leaves_of, leaves_without}
use Rattle.search_tree.specs.Keyed.{Keyed, IsKey}
use Rattle.node_queue.specs.Waits.{found}
use Rattle.node_queue.specs.declared.Waiting.{Waiting}
use Rattle.node_solver.specs.Causes.{cause_of}
use Rattle.node_solver.specs.declared.step.Why.TheVariants.{Spent}
use Rattle.search_core.specs.declared.causes.Cause.{Cause}
use Rattle.search_terms.specs.BestFirst.{IsDue}
use Rattle.search_terms.specs.Search.{SearchState}
use Rattle.search_terms.specs.SearchTree.{SplitCause}
use Rattle.search_terms.specs.Ways.{limits_at}
use Rattle.search_tree.specs.Numbered.{tree_of, way_of}
pub use Rattle.search_core.specs.Outline.{price_at}

-- the instance and the budget; the best plan, how many steps are left, and the tree with its open leaves under keys, in which
-- prices and causes are numbers
pub record Searching : Type 0 where
  pub instance : Instance
  pub budget : ℕ
  pub plan : Plan
  pub left : ℕ
  pub keyed : Keyed
  pub prices : List Prices
  pub causes : List Cause

-- a cause, of the columns that are held
abbrev pub split_cause : List Route → Cause → SplitCause
split_cause columns cause = record { now = cause.now; why = cause_of columns cause.why }

-- the cause of a number
abbrev pub cause_at : List Route → List Cause → ℕ → SplitCause
cause_at columns causes k = split_cause columns (slice_index_or causes k (record { now = 0; why = Spent }))

-- the state of the search, where the causes of its splits are of these columns
abbrev pub state_of : List Route → Searching → SearchState
state_of columns s = record {
  plan = s.plan;
  tree = tree_of (price_at s.prices) (cause_at columns s.causes) s.keyed.nodes;
  left = s.left;
}

-- ---- open leaves by their keys

-- an open leaf waits under the key
abbrev pub IsOpenKey : Searching → ℕ → Type 0
IsOpenKey s key = IsKey s.keyed key

-- the number of what is found
abbrev pub item_or : Option Waiting → ℕ
item_or None = 0
item_or (Some w) = w.item

-- the way to the open leaf under the key
abbrev pub way_to : Searching → ℕ → List Side
way_to s key = way_of s.keyed.nodes (item_or (found s.keyed.waits key))

-- the limits of its node
abbrev pub limits_of_key : List Route → Searching → ℕ → Limits
limits_of_key columns s key = limits_at (root_limits s.instance) (state_of columns s).tree (way_to s key)

-- it is the oldest of those of least bound
abbrev pub IsDueKey : Searching → ℕ → Type 0
IsDueKey s key = (bound : ℤ) × IsDue (leaves_of s.keyed) (record { way = way_to s key; bound = bound }) (leaves_without s.keyed key)
