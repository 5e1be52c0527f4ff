-- laws of the limits at the end of a way
use Rattle.std.proofs.Common.{◌≡◌, ◌≤◌, ◌∙◌, ◌∷◌, [], ℕ, List, length, ap, refl, arith}
use Rattle.crew_terms.specs.Branches.{LeafNode, SplitNode}
use Rattle.crew_terms.specs.Instance.{Instance}
use Rattle.crew_terms.specs.Limits.{Limits, tasks_in}
use Rattle.crew_terms.specs.Nodes.{child_instance}
use Rattle.crew_terms.specs.Tree.{child}
use Rattle.crew_terms.specs.declared.Side.{Side}
use Rattle.crew_terms.specs.declared.Side.TheVariants.{First, Second}
use Rattle.search_terms.specs.SearchTree.{SearchTree}
use Rattle.search_terms.specs.Ways.{limits_at}

-- they are of the same instance
pub at_instance : (n : Limits) (t : SearchTree) (way : List Side) → (limits_at n t way).instance ≡ n.instance
at_instance n (LeafNode leaf) way = refl
at_instance n (SplitNode split first second) [] = refl
at_instance n (SplitNode split first second) (First ∷ way) = at_instance (child n split.choice First) first way ∙ child_instance n split.choice First
at_instance n (SplitNode split first second) (Second ∷ way) = at_instance (child n split.choice Second) second way ∙ child_instance n split.choice Second

-- a number up to that of the tasks is so there
pub tasks_at : (n : Limits) (t : SearchTree) (way : List Side) (l : ℕ) → l ≤ tasks_in n → l ≤ tasks_in (limits_at n t way)
tasks_at n t way l h = let e = ap (λ (i : Instance). length i.tasks) (at_instance n t way) in omega arith
