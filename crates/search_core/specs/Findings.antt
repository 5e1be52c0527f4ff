-- what a step finds in a node
use Rattle.std.specs.Prelude.{◌≤◌, ℕ, List, IfSome}
use Rattle.crew_terms.specs.Leaf.{Prices}
use Rattle.crew_terms.specs.Limits.{Limits, Route}
use Rattle.crew_terms.specs.declared.Choice.{Choice}
use Rattle.search_core.specs.Handed.{IsHanded}
use Rattle.search_core.specs.declared.handing.Handed.{Handed}
use Rattle.node_solver.specs.Causes.{cause_of}
use Rattle.node_solver.specs.Plans.{IsBetterPlan, now_after}
use Rattle.node_solver.specs.declared.step.Why.{Why}
use Rattle.potentials.specs.Prices.{ArePricesOf}
use Rattle.search_core.specs.Shown.{IsShownWhy}
use Rattle.search_core.specs.declared.finding.Ending.{Ending}
use Rattle.search_core.specs.declared.finding.Ending.TheVariants.{Closed, Split}
use Rattle.search_core.specs.declared.finding.Finding.{Finding}
use Rattle.search_terms.specs.Caused.{LooseProves}
use Rattle.search_terms.specs.Choice.{IsValidChoice}
use Rattle.search_terms.specs.Earned.{IsEarned}
use Rattle.search_terms.specs.Proven.{PricesProve}
use Rattle.search_terms.specs.Search.{Extends}

-- the choice splits the node, the columns earn it, its reason shows in the node, the found prices prove what loose shares nearly
-- prove, and what is handed on proves what these and the own prove
pub record IsHandedSplit (n : Limits) (now pivots : ℕ) (columns : List Route) (own : Prices) (choice : Choice) (why : Why) (handed : Handed) : Type 0 where
  pub valid : IsValidChoice n choice
  pub some : 1 ≤ now
  pub found : Prices
  pub earned : IsEarned n now found pivots columns (cause_of columns why)
  pub shown : IsShownWhy columns n now why
  pub near : LooseProves n found (cause_of columns why)
  pub on : IsHanded n choice own found handed

-- the prices close the node
pub record IsClosing (n : Limits) (now : ℕ) (prices : Prices) : Type 0 where
  pub proved : PricesProve n prices now
  pub shape : ArePricesOf n prices

-- the node is closed or split
abbrev pub IsEnding : Limits → ℕ → ℕ → List Route → Prices → Ending → Type 0
IsEnding n now pivots columns own (Closed prices) = IsClosing n now prices
IsEnding n now pivots columns own (Split choice why handed) = IsHandedSplit n now pivots columns own choice why handed

-- a better plan, if there is one, and how the node ends with it, by this many pivots and with these columns
pub record IsFinding (n : Limits) (best pivots : ℕ) (columns more : List Route) (own : Prices) (found : Finding) : Type 0 where
  pub plan : IfSome found.plan (IsBetterPlan n.instance best)
  pub ending : IsEnding n (now_after best found.plan) pivots more own found.ending
  pub extends : Extends n columns more
