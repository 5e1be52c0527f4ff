-- lists with an entry for each split of a tree, in preorder
use Rattle.std.specs.Prelude.{List, [], ◌∷◌, drop}
use Rattle.crew_terms.specs.Branches.{LeafNode, SplitNode, splits}
use Rattle.crew_terms.specs.Limits.{Limits}
use Rattle.crew_terms.specs.Tree.{child}
use Rattle.crew_terms.specs.declared.Side.TheVariants.{First, Second}
use Rattle.branch_tree.specs.Trees.{BranchTree}

-- P holds of each split: of the limits of its node, and of its entry; the list begins with the entries of this tree
abbrev pub EachSplitOf : {A : Type 0} → (Limits → A → Type 0) → Limits → BranchTree → List A → Type 0
EachSplitOf P n (LeafNode leaf) entries = Unit {0}
EachSplitOf P n (SplitNode choice first second) [] = ⊥
EachSplitOf P n (SplitNode choice first second) (x ∷ xs) =
    P n x × EachSplitOf P (child n choice First) first xs × EachSplitOf P (child n choice Second) second (drop (splits first) xs)
