-- outcomes of searches whose dossiers are good
use Rattle.std.specs.Prelude.{◌≡◌, ◌≤◌, ◌<◌, ◌+◌, ℕ, length}
use Rattle.branch_tree.specs.Trees.{BranchTree, closed, preorder}
use Rattle.crew_terms.specs.Branches.{splits}
use Rattle.crew_terms.specs.Instance.{Instance}
use Rattle.crew_terms.specs.Limits.{root_limits}
use Rattle.crew_terms.specs.Plan.{unassigned_count}
use Rattle.search_core.specs.declared.causes.Outcome.{Outcome}
use Rattle.search_terms.specs.Search.{IsKeepable}
use Rattle.written_laws.specs.Proved.{IsProvedTree}

-- the plan is legal and packed; the tree is proved at the root with the bound and what the plan leaves unassigned, and has a
-- cause for each split; its splits and closed leaves are within the budget, and make it where a better plan is possible
pub record IsProvedOutcome (i : Instance) (budget : ℕ) (o : Outcome) : Type 0 where
  pub plan : IsKeepable i o.plan
  pub least : o.bound ≤ unassigned_count o.plan
  pub bound : o.bound ≤ length i.tasks
  pub tree : BranchTree
  pub nodes : o.tree ≡ preorder tree
  pub proved : IsProvedTree (root_limits i) o.bound (unassigned_count o.plan) tree
  pub causes : length o.causes.items ≡ splits tree
  pub within : splits tree + closed tree ≤ budget
  pub spent : o.bound < unassigned_count o.plan → splits tree + closed tree ≡ budget
