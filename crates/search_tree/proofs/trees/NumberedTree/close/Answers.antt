use Rattle.std.proofs.Common.{◌≡◌, ◌<◌, ℕ, List, length, arith, sym, subst, ap, ◌∙◌}
use Rattle.std.proofs.lemmas.List.{length-set}
use Rattle.crew_terms.specs.Leaf.{Prices}
use Rattle.crew_terms.specs.Branches.{LeafNode}
use Rattle.search_terms.specs.SearchTree.{SplitCause, ClosedLeaf}
use Rattle.search_terms.specs.Ways.{replaced}
use Rattle.search_tree.specs.declared.nodes.Node.{Node}
use Rattle.search_tree.specs.declared.nodes.Content.TheVariants as content
use Rattle.search_tree.specs.Numbered.{AreNumbered, IsOpenNode, node_of, with_content, tree_of, way_of}
use Rattle.search_tree.proofs.Numbering.{closes, closed_tree, numbered_after, way_after}
use Rattle.search_tree.proofs.trees.NumberedTree.close.Goals as goal

pub invariant_of-self : goal.invariant_of-self
invariant_of-self c =
    let nodes : List Node = c.self.inside.nodes.items in
    let new : Node = record (node_of nodes c.args.n) { content = content.Closed c.args.prices } in
    let leaf : IsOpenNode nodes c.args.n = subst (λ xs. IsOpenNode xs c.args.n) (sym c.self.view_is) c.requires.leaf in
    let numbered = numbered_after nodes _ c.args.n (closes nodes c.args.n c.args.prices c.self.invariant.numbered leaf) in
    let count : length (with_content nodes c.args.n (content.Closed c.args.prices)) ≡ length nodes = length-set nodes c.args.n new in
    let few = c.self.invariant.few in
    record {
      few = let e = ap length c.put_content.ensures in omega arith;
      numbered = subst AreNumbered (sym c.put_content.ensures) numbered;
    }

-- the same of the value that was
tree_then : (now : List Node) (after nodes : List Node) (n prices : ℕ) → nodes ≡ now → AreNumbered nodes → IsOpenNode now n
    → after ≡ with_content nodes n (content.Closed prices) → (p : ℕ → Prices) (q : ℕ → SplitCause)
    → tree_of p q after ≡ replaced (tree_of p q now) (way_of now n) (LeafNode (ClosedLeaf (p prices)))
tree_then now after nodes n prices same numbered leaf is p q =
    let was : AreNumbered now = subst AreNumbered same numbered in
    let to : after ≡ with_content now n (content.Closed prices) = is ∙ ap (λ (xs : List Node). with_content xs n (content.Closed prices)) same in
    ap (λ (xs : List Node). tree_of p q xs) to ∙ closed_tree p q now n prices was leaf

ways_then : (now : List Node) (after nodes : List Node) (n prices : ℕ) → nodes ≡ now → AreNumbered nodes → IsOpenNode now n
    → after ≡ with_content nodes n (content.Closed prices) → (m : ℕ) → m < length now → way_of after m ≡ way_of now m
ways_then now after nodes n prices same numbered leaf is m l =
    let was : AreNumbered now = subst AreNumbered same numbered in
    let to : after ≡ with_content now n (content.Closed prices) = is ∙ ap (λ (xs : List Node). with_content xs n (content.Closed prices)) same in
    ap (λ (xs : List Node). way_of xs m) to ∙ way_after now _ n (closes now n prices was leaf) m m l

pub returns-clause-tree : goal.returns-clause-tree
returns-clause-tree c =
    tree_then c.args.self.now c.put_content.new.nodes.items c.self.inside.nodes.items c.args.n c.args.prices c.self.view_is
    c.self.invariant.numbered c.requires.leaf c.put_content.ensures

pub returns-clause-ways : goal.returns-clause-ways
returns-clause-ways c =
    ways_then c.args.self.now c.put_content.new.nodes.items c.self.inside.nodes.items c.args.n c.args.prices c.self.view_is
    c.self.invariant.numbered c.requires.leaf c.put_content.ensures
