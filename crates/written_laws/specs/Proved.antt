-- parts whose dossier is good
use Rattle.std.specs.Prelude.{◌≡◌, ◌≢◌, ◌≤◌, ◌<◌, ◌+◌, ℕ, List, length, All, AllPairs}
use Rattle.crew_terms.specs.Branches.{LeafNode, SplitNode, splits}
use Rattle.crew_terms.specs.Leaf.{Prices}
use Rattle.crew_terms.specs.Legal.{IsLegal}
use Rattle.crew_terms.specs.Limits.{Limits, Route, root_limits}
use Rattle.crew_terms.specs.Plan.{unassigned_count}
use Rattle.crew_terms.specs.Rules.{IsInstance}
use Rattle.crew_terms.specs.Tree.{CanSplit, child}
use Rattle.crew_terms.specs.declared.Side.TheVariants.{First, Second}
use Rattle.crew_terms.specs.declared.TheConstants.{MOST_NODES, MOST_NUMBER}
use Rattle.dossier_terms.specs.Causes.{Cause, IsCauseIn}
use Rattle.dossier_terms.specs.Dossier.{IsPooled}
use Rattle.branch_tree.specs.Entries.{EachSplitOf}
use Rattle.branch_tree.specs.Trees.{BranchTree, closed, preorder}
use Rattle.branch_tree.specs.declared.tree.LeafState.{LeafState}
use Rattle.branch_tree.specs.declared.tree.LeafState.TheVariants.{Bare, Open, Closed}
use Rattle.search_terms.specs.Proven.{PricesProve}
use Rattle.cert_write.specs.Given.{Given, IsPriced, IsWritable}

-- what a leaf in this state claims of its prices holds: that they prove l and, where it is closed, u too
abbrev pub IsProvedLeaf : Limits → ℕ → ℕ → LeafState → Prices → Type 0
IsProvedLeaf n l u Bare p = l ≡ 0
IsProvedLeaf n l u Open p = PricesProve n p l
IsProvedLeaf n l u Closed p = PricesProve n p l × PricesProve n p u

-- each split is one of its node, each leaf has prices of its node, and what it claims of them holds
abbrev pub IsProvedTree : Limits → ℕ → ℕ → BranchTree → Type 0
IsProvedTree n l u (LeafNode leaf) = IsPriced n leaf.prices × IsProvedLeaf n l u leaf.state leaf.prices
IsProvedTree n l u (SplitNode choice first second) =
    CanSplit n choice × IsProvedTree (child n choice First) l u first × IsProvedTree (child n choice Second) l u second

-- such a tree can be written
pub proved_is_writable : (n : Limits) (l u : ℕ) (t : BranchTree) → IsProvedTree n l u t → IsWritable n t
proved_is_writable n l u (LeafNode leaf) is = is.0
proved_is_writable n l u (SplitNode choice first second) is =
    (is.0, proved_is_writable (child n choice First) l u first is.1, proved_is_writable (child n choice Second) l u second is.2)

-- the causes of a tree's splits, in preorder, may be told of their nodes, where the plan leaves u tasks unassigned
abbrev pub AreCauses : List Route → ℕ → Limits → BranchTree → List Cause → Type 0
AreCauses pool u n tree causes = EachSplitOf (λ (m : Limits) (c : Cause). IsCauseIn pool m u c) n tree causes

-- the rules of the parts of a good dossier
pub record IsProvedGiven (g : Given) : Type 0 where
  pub instance : IsInstance g.instance
  pub budget : g.nodes ≤ MOST_NODES
  pub kept : g.kept ≤ length g.columns
  pub pool_length : length g.columns ≤ MOST_NUMBER
  pub pool : All (IsPooled g.instance) g.columns
  pub differ : AllPairs (λ (a b : Route). a ≢ b) g.columns
  pub plan : IsLegal g.instance g.plan
  pub bound : g.bound ≤ length g.instance.tasks
  pub tree : BranchTree
  pub nodes : g.tree ≡ preorder tree
  pub proved : IsProvedTree (root_limits g.instance) g.bound (unassigned_count g.plan) tree
  pub causes : AreCauses g.columns (unassigned_count g.plan) (root_limits g.instance) tree g.causes
  pub within : splits tree + closed tree ≤ g.nodes
  pub spent : g.bound < unassigned_count g.plan → splits tree + closed tree ≡ g.nodes
