-- how a step of the search ends a node
use Rattle.std.specs.Prelude.{◌≤◌, ℕ, List}
use Rattle.crew_terms.specs.Leaf.{Prices}
use Rattle.crew_terms.specs.Limits.{Limits, Route}
use Rattle.crew_terms.specs.declared.Choice.{Choice}
use Rattle.search_terms.specs.Choice.{IsValidChoice}
use Rattle.search_terms.specs.Earned.{IsEarned}
use Rattle.search_terms.specs.Proven.{PricesProve, ProveAsMuch}
use Rattle.node_solver.specs.Causes.{cause_of}
use Rattle.node_solver.specs.declared.step.NodeEnd.{NodeEnd}
use Rattle.node_solver.specs.declared.step.NodeEnd.TheVariants.{Closed, Split}
use Rattle.node_solver.specs.declared.step.Why.{Why}
use Rattle.node_solver.specs.declared.step.Why.TheVariants.{Loose, Overflow, Spent}

-- the prices with which a node ends
abbrev pub prices_of : NodeEnd → Prices
prices_of (Closed prices) = prices
prices_of (Split choice why prices) = prices

-- the choice splits the node, and the columns earn it
pub record IsEarnedSplit (n : Limits) (now pivots : ℕ) (columns : List Route) (choice : Choice) (why : Why) (prices : Prices) : Type 0 where
  pub valid : IsValidChoice n choice
  pub some : 1 ≤ now
  pub earned : IsEarned n now prices pivots columns (cause_of columns why)

-- the node is closed by prices that prove `now`, or split by a choice that the columns earn
abbrev pub Ends : Limits → ℕ → ℕ → List Route → NodeEnd → Type 0
Ends n now pivots columns (Closed prices) = PricesProve n prices now
Ends n now pivots columns (Split choice why prices) = IsEarnedSplit n now pivots columns choice why prices

-- of a split that isn't loose the prices prove what those with which the node began prove
abbrev pub KeepsProved : Limits → Prices → NodeEnd → Type 0
KeepsProved n start (Closed prices) = Unit {0}
KeepsProved n start (Split choice (Loose den shares left_open) prices) = Unit {0}
KeepsProved n start (Split choice (Overflow fault) prices) = ProveAsMuch n prices start
KeepsProved n start (Split choice Spent prices) = ProveAsMuch n prices start
