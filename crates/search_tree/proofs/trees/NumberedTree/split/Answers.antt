use Rattle.std.proofs.Common.{◌≡◌, ◌<◌, ℕ, List, length, arith, sym, subst, ap, ◌∙◌}
use Rattle.std.proofs.lemmas.Grind.{common_steps}
use Rattle.crew_terms.specs.declared.Choice.{Choice}
use Rattle.search_tree.specs.declared.nodes.Node.{Node}
use Rattle.search_tree.specs.declared.nodes.Content.TheVariants as content
use Rattle.search_tree.specs.Numbered.{AreNumbered, HasSplit, IsOpenNode, split_at, with_content, with_children, tree_of, way_of}
use Rattle.search_tree.proofs.Numbering.{has_split, splits_leaf, split_tree, numbered_after, way_after}
use Rattle.search_tree.proofs.trees.NumberedTree.split.Goals as goal

-- what is written is the split
written : (now nodes grown after : List Node) (n first cause prices : ℕ) (choice : Choice) → nodes ≡ now → first ≡ length nodes
    → grown ≡ with_children nodes n prices → after ≡ with_content grown n (content.Split choice cause first)
    → after ≡ split_at now n choice cause prices
written now nodes grown after n first cause prices choice same count children is =
    is ∙ ap (λ (xs : List Node). with_content xs n (content.Split choice cause first)) children
    ∙ ap (λ (m : ℕ). with_content (with_children nodes n prices) n (content.Split choice cause m)) count
    ∙ ap (λ (xs : List Node). split_at xs n choice cause prices) same

ways_then : (now after : List Node) (n cause prices : ℕ) (choice : Choice) → AreNumbered now → IsOpenNode now n
    → after ≡ split_at now n choice cause prices → (m : ℕ) → m < length now → way_of after m ≡ way_of now m
ways_then now after n cause prices choice was leaf to m l =
    ap (λ (xs : List Node). way_of xs m) to
    ∙ way_after now _ n (splits_leaf now _ n choice cause prices was leaf (has_split now n choice cause prices leaf.0)) m m l

pub invariant_of-self-2 : goal.invariant_of-self-2
invariant_of-self-2 c =
    let now : List Node = c.args.self.now in
    let first : c.len-first.result ≡ length c.self.inside.nodes.items = grind (arith, common_steps) in
    let was : AreNumbered now = subst AreNumbered c.self.view_is c.self.invariant.numbered in
    let to : c.put_content.new.nodes.items ≡ split_at now c.args.n c.args.choice c.args.cause c.args.prices =
    written now c.self.inside.nodes.items c.put_children.new.nodes.items c.put_content.new.nodes.items c.args.n c.len-first.result
    c.args.cause c.args.prices c.args.choice c.self.view_is first c.in_ok-put_children.ensures.ok c.put_content.ensures in
    let h : HasSplit now (split_at now c.args.n c.args.choice c.args.cause c.args.prices) c.args.n c.args.choice c.args.cause c.args.prices =
    has_split now c.args.n c.args.choice c.args.cause c.args.prices c.requires.leaf.0 in
    record {
      few = let e = ap length to in let k = h.count in let r = c.requires.room in omega arith;
      numbered = subst AreNumbered (sym to) (numbered_after now _ c.args.n
          (splits_leaf now _ c.args.n c.args.choice c.args.cause c.args.prices was c.requires.leaf h));
    }

pub returns-clause-tree : goal.returns-clause-tree
returns-clause-tree c = λ p q.
    let now : List Node = c.args.self.now in
    let first : c.len-first.result ≡ length c.self.inside.nodes.items = grind (arith, common_steps) in
    let was : AreNumbered now = subst AreNumbered c.self.view_is c.self.invariant.numbered in
    let to : c.put_content.new.nodes.items ≡ split_at now c.args.n c.args.choice c.args.cause c.args.prices =
    written now c.self.inside.nodes.items c.put_children.new.nodes.items c.put_content.new.nodes.items c.args.n c.len-first.result
    c.args.cause c.args.prices c.args.choice c.self.view_is first c.in_ok-put_children.ensures.ok c.put_content.ensures in
    ap (λ (xs : List Node). tree_of p q xs) to ∙ split_tree p q now c.args.n c.args.choice c.args.cause c.args.prices was c.requires.leaf

pub returns-clause-ways : goal.returns-clause-ways
returns-clause-ways c = λ m l.
    let now : List Node = c.args.self.now in
    let first : c.len-first.result ≡ length c.self.inside.nodes.items = grind (arith, common_steps) in
    let was : AreNumbered now = subst AreNumbered c.self.view_is c.self.invariant.numbered in
    let to : c.put_content.new.nodes.items ≡ split_at now c.args.n c.args.choice c.args.cause c.args.prices =
    written now c.self.inside.nodes.items c.put_children.new.nodes.items c.put_content.new.nodes.items c.args.n c.len-first.result
    c.args.cause c.args.prices c.args.choice c.self.view_is first c.in_ok-put_children.ensures.ok c.put_content.ensures in
    ways_then now c.put_content.new.nodes.items c.args.n c.args.cause c.args.prices c.args.choice was c.requires.leaf to m l
