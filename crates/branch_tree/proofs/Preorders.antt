-- the nodes of a tree say which tree it is
use Rattle.std.proofs.Common.{◌≡◌, ◌++◌, ◌∷◌, List, [], sym, ap, ◌∙◌, append_assoc}
use Rattle.crew_terms.specs.declared.Choice.{Choice}
use Rattle.branch_tree.specs.declared.tree.Node.{Node}
use Rattle.branch_tree.specs.declared.tree.Node.TheVariants as nodes
use Rattle.crew_terms.specs.Branches.{LeafNode, SplitNode}
use Rattle.branch_tree.specs.Trees.{BranchTree, ClaimedLeaf, preorder}

-- the trees are the same, and so is what comes behind their nodes
record AreSame (t u : BranchTree) (xs ys : List Node) : Type 0 where
  tree : t ≡ u
  rest : xs ≡ ys

same_leaves : (a b : ClaimedLeaf) (xs ys : List Node) → nodes.Leaf a.state a.prices ∷ xs ≡ nodes.Leaf b.state b.prices ∷ ys → AreSame (LeafNode a) (LeafNode b) xs ys
same_leaves a b xs ys e =
    let s : a.state ≡ b.state = cc in
    let p : a.prices ≡ b.prices = cc in
    let r : xs ≡ ys = cc in
    record { tree = λ k. LeafNode (record { state = s k; prices = p k }); rest = r }

same_choices : (c d : Choice) (xs ys : List Node) → nodes.Split c ∷ xs ≡ nodes.Split d ∷ ys → c ≡ d
same_choices c d xs ys e = cc

same_rests : (m n : Node) (xs ys : List Node) → m ∷ xs ≡ n ∷ ys → xs ≡ ys
same_rests m n xs ys e = cc

same_trees : (t u : BranchTree) (xs ys : List Node) → preorder t ++ xs ≡ preorder u ++ ys → AreSame t u xs ys
same_trees (LeafNode a) (LeafNode b) xs ys e = same_leaves a b xs ys e
same_trees (LeafNode a) (SplitNode d v w) xs ys e = let x : nodes.Leaf a.state a.prices ∷ xs ≡ nodes.Split d ∷ ((preorder v ++ preorder w) ++ ys) = e in absurd cc
same_trees (SplitNode c t u) (LeafNode b) xs ys e = let x : nodes.Split c ∷ ((preorder t ++ preorder u) ++ xs) ≡ nodes.Leaf b.state b.prices ∷ ys = e in absurd cc
same_trees (SplitNode c t u) (SplitNode d v w) xs ys e =
    let choice : c ≡ d = same_choices c d ((preorder t ++ preorder u) ++ xs) ((preorder v ++ preorder w) ++ ys) e in
    let rests = same_rests (nodes.Split c) (nodes.Split d) ((preorder t ++ preorder u) ++ xs) ((preorder v ++ preorder w) ++ ys) e in
    let first : AreSame t v (preorder u ++ xs) (preorder w ++ ys) = same_trees t v (preorder u ++ xs) (preorder w ++ ys) (sym (append_assoc (preorder t) (preorder u) xs) ∙ rests ∙ append_assoc (preorder v) (preorder w) ys) in
    let second : AreSame u w xs ys = same_trees u w xs ys first.rest in
    record { tree = λ k. SplitNode (choice k) (first.tree k) (second.tree k); rest = second.rest }

pub one_preorder : (t u : BranchTree) → preorder t ≡ preorder u → t ≡ u
one_preorder t u e = (same_trees t u [] [] (ap (λ ns. ns ++ []) e)).tree
