-- what the causes of splits show in their nodes
use Rattle.std.specs.Prelude.{◌≤◌, ◌<◌, ◌+◌, ◌-◌, ◌*◌, ◌++◌, ℕ, ℤ, List, length}
use Rattle.crew_num.specs.Exact.{IsOverflow}
use Rattle.crew_terms.specs.Leaf.{Prices}
use Rattle.crew_terms.specs.Limits.{Limits, Route, root_limits, tasks_in}
use Rattle.crew_terms.specs.Plan.{unassigned_count}
use Rattle.frac_master.specs.declared.shares.Share.{Share}
use Rattle.master_run.specs.Shares.{fractional_of}
use Rattle.node_solver.specs.Loose.{AreHeld}
use Rattle.node_solver.specs.declared.step.Why.{Why}
use Rattle.node_solver.specs.declared.step.Why.TheVariants as whys
use Rattle.search_core.specs.Ordered.{cause_with}
use Rattle.search_core.specs.Searching.{Searching, state_of}
use Rattle.search_core.specs.declared.causes.Cause.{Cause}
use Rattle.search_terms.specs.Caused.{AreLooseShown}
use Rattle.search_terms.specs.Earned.{Spent}
use Rattle.share_terms.specs.Shares.{IsFractional, IsLoose}
use Rattle.search_terms.specs.SearchTree.{EachSplit, SplitCause}
use Rattle.search_tree.specs.Numbered.{tree_of}

-- shares of columns that are routes in the node, by rising number: a fractional choice that leaves at most now - 1 tasks and a
-- thousandth of one unassigned
pub record ShowsLoose (columns : List Route) (n : Limits) (now : ℕ) (den : ℤ) (shares : List Share) (left_open : List ℤ) : Type 0 where
  pub held : AreHeld n columns den shares left_open
  pub fractional : IsFractional n (fractional_of columns den shares left_open)
  pub loose : IsLoose n (fractional_of columns den shares left_open) (1000 * (now - 1) + 1) 1000

-- what the reason of a split shows in its node
abbrev pub IsShownWhy : List Route → Limits → ℕ → Why → Type 0
IsShownWhy columns n now (whys.Loose den shares left_open) = ShowsLoose columns n now den shares left_open
IsShownWhy columns n now (whys.Overflow fault) = IsOverflow fault
IsShownWhy columns n now whys.Spent = Unit {0}

-- at the step some of the node's tasks were left unassigned, not fewer than u, and the reason shows in the node
pub record IsShownCause (columns : List Route) (u : ℕ) (n : Limits) (c : Cause) : Type 0 where
  pub some : 1 ≤ c.now
  pub known : c.now ≤ tasks_in n
  pub enough : u ≤ c.now
  pub why : IsShownWhy columns n c.now c.why

-- ---- the causes of a search between two steps

-- a number in the place of a cause
abbrev pub numbered : ℕ → SplitCause
numbered k = record { now = k; why = Spent }

-- the number is that of a cause which shows in the node
pub record IsShownNumber (columns : List Route) (u : ℕ) (causes : List Cause) (n : Limits) (k : SplitCause) : Type 0 where
  pub known : k.now < length causes
  pub shown : IsShownCause columns u n (cause_with causes k.now)

-- the cause of each split shows in its node, of these columns; the leaves may have any prices
abbrev pub AreShown : List Route → Searching → Type 0
AreShown columns s = (p : ℕ → Prices) → EachSplit (λ n k t. IsShownNumber columns (unassigned_count s.plan) s.causes n k)
    (root_limits s.instance) (tree_of p numbered s.keyed.nodes)

-- each open leaf below a loose split proves what its shares nearly prove, of these columns, and of more
abbrev pub AreLoosePriced : List Route → Searching → Type 0
AreLoosePriced columns s = (rest : List Route) → AreLooseShown (root_limits s.instance) (state_of (columns ++ rest) s).tree
