use Rattle.std.proofs.Common.{◌≡◌, ◌∷◌, ◌++◌, [], List, length, append_assoc, ap, arith, ◌∙◌}
use Rattle.std.proofs.lemmas.List.{length_push}
use Rattle.crew_terms.specs.declared.Choice.{Choice}
use Rattle.crew_terms.specs.declared.Choice.TheVariants as choices
use Rattle.branch_tree.specs.declared.tree.Node.{Node}
use Rattle.branch_tree.specs.declared.tree.Node.TheVariants as nodes
use Rattle.crew_terms.specs.Branches.{SplitNode}
use Rattle.branch_tree.specs.Trees.{BranchTree, IsPreorder, preorder}
use Rattle.node_tests.proofs.trees.chain.Goals as goal

module _ (ns : List Node) (opens : (t : BranchTree) → IsPreorder (ns ++ preorder t)) (leaf : Node) (is : IsPreorder (leaf ∷ [])) where
  opens_more : (choice : Choice) (ms ls : List Node) → ms ≡ ns ++ nodes.Split choice ∷ [] → ls ≡ ms ++ leaf ∷ [] → (t : BranchTree) → IsPreorder (ls ++ preorder t)
  opens_more choice ms ls e f t =
      let whole = opens (SplitNode choice is.0 t) in
      let all : ls ++ preorder t ≡ ns ++ nodes.Split choice ∷ (preorder is.0 ++ preorder t) =
      ap (λ xs. xs ++ preorder t) (f ∙ ap (λ xs. xs ++ leaf ∷ []) e)
      ∙ append_assoc (ns ++ nodes.Split choice ∷ []) (leaf ∷ []) (preorder t)
      ∙ append_assoc ns (nodes.Split choice ∷ []) (leaf ∷ preorder t)
      ∙ ap (λ xs. ns ++ nodes.Split choice ∷ (xs ++ preorder t)) is.1 in
      (whole.0, all ∙ whole.1)

  whole_with : (ms : List Node) → ms ≡ ns ++ leaf ∷ [] → IsPreorder ms
  whole_with ms e = let whole = opens is.0 in (whole.0, e ∙ ap (λ xs. ns ++ xs) is.1 ∙ whole.1)

pub loop-task-init : goal.loop-task-init
loop-task-init c = record { opens = λ t. (t, ap (λ ns. ns ++ preorder t) c.new-nodes.ensures.items); count = ap length c.new-nodes.ensures.items }

pub loop-task-preserved : goal.loop-task-preserved
loop-task-preserved c =
    let choice : Choice = choices.Window c.loop-task.task 420 in
    let first = c.in_ok-push.ensures.items in
    let second = c.in_ok-push-2.ensures.items in
    let one = ap length first ∙ length_push c.loop-task.nodes.items (nodes.Split choice) in
    let two = ap length second ∙ length_push c.push.new.self.items c.in_ok-leaf.field-0 in
    let before = c.loop-task.invariant.count in
    record {
      opens = opens_more c.loop-task.nodes.items c.loop-task.invariant.opens c.in_ok-leaf.field-0 c.in_ok-leaf.ensures choice c.push.new.self.items c.push-in-loop-task.new.self.items first second;
      count = omega arith;
    }

pub returns : goal.returns
returns c =
    let last = c.in_ok-push-3.ensures.items in
    let one = ap length last ∙ length_push c.loop-task.nodes.items c.in_ok-leaf-2.field-0 in
    let before = c.loop-task.invariant.count in
    let a = c.loop-task-test.false in
    let b = c.loop-task.auto.task-end in
    (whole_with c.loop-task.nodes.items c.loop-task.invariant.opens c.in_ok-leaf-2.field-0 c.in_ok-leaf-2.ensures c.push-2.new.self.items last, omega arith)
