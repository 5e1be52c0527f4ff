-- what a dossier is written from
use Rattle.std.specs.Prelude.{◌≡◌, ℕ, List, length, map}
use Rattle.crew_terms.specs.Instance.{Instance}
use Rattle.crew_terms.specs.Plan.{Plan}
use Rattle.crew_terms.specs.Limits.{Limits, Route, root_limits}
use Rattle.crew_terms.specs.Leaf.{Prices, IsOnRequired}
use Rattle.crew_terms.specs.Branches.{LeafNode, SplitNode, splits}
use Rattle.crew_terms.specs.Tree.{CanSplit, child}
use Rattle.crew_terms.specs.declared.Side.TheVariants.{First, Second}
use Rattle.dossier_terms.specs.Causes.{Cause}
use Rattle.branch_tree.specs.Trees.{BranchTree, preorder}
use Rattle.branch_tree.specs.declared.tree.Node.{Node}
use Rattle.potentials.specs.Prices.{ArePrices, ArePricesOf}
use Rattle.cert_write.specs.Causes.{cause_of}
use Rattle.cert_write.specs.declared.dossier.Parts.{Parts}

-- the parts of a dossier; `tree` has its nodes in preorder, and `causes` one cause for each split, in the order of the nodes
pub record Given : Type 0 where
  pub instance : Instance
  pub nodes : ℕ
  pub kept : ℕ
  pub columns : List Route
  pub plan : Plan
  pub bound : ℕ
  pub tree : List Node
  pub causes : List Cause

-- what the parts are, where `routes` tells the columns' list
abbrev pub given : {C : Type 0} → (C → List Route) → Parts C → Given
given routes parts = record {
  instance = parts.instance.now;
  nodes = parts.nodes;
  kept = parts.kept;
  columns = routes parts.columns.now;
  plan = parts.plan.now;
  bound = parts.bound;
  tree = parts.tree.now;
  causes = map cause_of parts.causes.now;
}

-- prices of a node: each in its range, and only required pairs have one
pub record IsPriced (n : Limits) (p : Prices) : Type 0 where
  pub prices : ArePrices p
  pub counts : ArePricesOf n p
  pub required : IsOnRequired n p

-- each split is one of its node, and each leaf has prices of its node
abbrev pub IsWritable : Limits → BranchTree → Type 0
IsWritable n (LeafNode leaf) = IsPriced n leaf.prices
IsWritable n (SplitNode choice first second) = CanSplit n choice × IsWritable (child n choice First) first × IsWritable (child n choice Second) second

-- the nodes are those of such a tree, with a cause for each split
pub record AreWritable (g : Given) : Type 0 where
  pub tree : BranchTree
  pub nodes : g.tree ≡ preorder tree
  pub valid : IsWritable (root_limits g.instance) tree
  pub causes : length g.causes ≡ splits tree
