use Rattle.std.proofs.Common.{◌≡◌, ◌<◌, ◌++◌, ◌∷◌, ◌∙◌, [], ℕ, List, length, ap, sym, subst, arith, rules}
use Rattle.std.specs.Prelude.{All}
use Rattle.std.proofs.lemmas.Grind.{common_steps}
use Rattle.std.proofs.lemmas.List.Elements.{All-append, All-push}
use Rattle.branch_tree.specs.Trees.{preorder}
use Rattle.branch_tree.specs.declared.tree.Node.{Node as OutNode}
use Rattle.crew_terms.specs.Leaf.{Prices}
use Rattle.search_tree.specs.Numbers.{HasNumber}
use Rattle.search_terms.specs.Earned.{Spent}
use Rattle.search_terms.specs.SearchTree.{SplitCause}
use Rattle.search_tree.specs.declared.nodes.Content.{Content}
use Rattle.search_tree.specs.declared.nodes.Node.{Node}
use Rattle.search_tree.specs.Numbered.{grown, node_of, subtree}
use Rattle.search_core.specs.Outline.{outline, price_at}
use Rattle.search_core.specs.Visited.{HasPricesOf, cause_in, node_in}
use Rattle.search_core.proofs.Walking.{all_put, cause_known, causes_kept, due_known, fewer_left, has_children, last_due, nodes_count, nodes_kept}
use Rattle.search_core.proofs.outlines.outline_of.Goals as goal

abbrev spent : SplitCause
spent = record { now = 0; why = Spent }

pub visit-requires-clause-children : goal.visit-requires-clause-children
visit-requires-clause-children c =
    let ns = c.args.keyed.now.nodes in
    let n = c.in-Some.n in
    let known = (last_due (λ m. m < length ns) c.loop-n.due.items c.pop.new.self.items n c.in-Some.ensures.items c.loop-n.invariant.known).1 in
    let few = c.nodes.ensures.keyed.few in
    has_children ns n c.node.result.content (ap (λ (m : Node). m.content) (sym c.node.ensures)) (omega arith)
    (λ side m e. c.subtrees_are_grown.ensures.children ns n m side c.nodes.ensures.keyed.numbered known e)

pub loop-n-smaller : goal.loop-n-smaller
loop-n-smaller c =
    let p = price_at c.args.prices.now in
    let ns = c.args.keyed.now.nodes in
    fewer_left (subtree p (λ k. spent) ns) c.loop-n.due.items c.pop.new.self.items c.in-Some.n c.loop-n.nodes.items c.visit.new.nodes.items
    (preorder (outline (subtree p (λ k. spent) ns 0))) (node_in p c.node.result.content) (c.loop-n.invariant.nodes (λ k. spent))
    c.in-Some.ensures.items c.in_ok-visit.ensures.visited.node

pub loop-n-preserved : goal.loop-n-preserved
loop-n-preserved c =
    let p = price_at c.args.prices.now in
    let ns = c.args.keyed.now.nodes in
    let n = c.in-Some.n in
    let k : Content = c.node.result.content in
    let is : (node_of ns n).content ≡ k = ap (λ (m : Node). m.content) (sym c.node.ensures) in
    let numbered = c.nodes.ensures.keyed.numbered in
    let all = c.loop-n.due.items in
    let rest = c.pop.new.self.items in
    let later = c.visit.new.due.items in
    let popped : all ≡ rest ++ n ∷ [] = c.in-Some.ensures.items in
    let last = last_due (λ m. m < length ns) all rest n popped c.loop-n.invariant.known in
    let v = c.in_ok-visit.ensures.visited in
    let made : (q : ℕ → Prices) (f : ℕ → SplitCause) → subtree q f ns n ≡ grown q f k (subtree q f ns) =
    λ q f. c.subtrees_are_grown.ensures.grown q f ns n numbered last.1 ∙ ap (λ (x : Content). grown q f x (subtree q f ns)) is in
    record {
      nodes = λ f. nodes_kept p f k (subtree p f ns) all rest later n c.loop-n.nodes.items c.visit.new.nodes.items popped (made p f) v.node v.children
          ∙ c.loop-n.invariant.nodes f;
      causes = λ q f. causes_kept q f k (subtree q f ns) all rest later n c.loop-n.causes.items c.visit.new.causes.items popped (made q f) v.cause v.children
          ∙ c.loop-n.invariant.causes q f;
      known = subst (λ (d : List ℕ). All (λ m. m < length ns) d) (sym v.children)
          (due_known ns n k rest is (λ side m e. c.subtrees_are_grown.ensures.children ns n m side numbered last.1 e) last.0);
      shapes = λ m all. subst (λ (xs : List OutNode). All (HasPricesOf m) xs) (sym v.node)
          (All-push (HasPricesOf m) c.loop-n.nodes.items (node_in p k) (c.loop-n.invariant.shapes m all) (c.in_ok-visit.ensures.prices m all));
      numbers = λ most have. subst (λ (xs : List ℕ). All (λ x. x < most) xs) (sym v.cause)
          (All-append (λ x. x < most) c.loop-n.causes.items (cause_in k) (c.loop-n.invariant.numbers most have)
          (cause_known (length c.args.prices.now) most k (subst (λ (x : Content). HasNumber (length c.args.prices.now) most x) is (have n))));
    }

pub whole-tree-requires-clause-whole : goal.whole-tree-requires-clause-whole
whole-tree-requires-clause-whole c =
    let p = price_at c.args.prices.now in
    let ns = c.args.keyed.now.nodes in
    let empty : c.loop-n.due.items ≡ [] = first_of (search rules, grind (arith, common_steps)) in
    let below = subtree p (λ k. spent) ns in
    (outline (below 0), all_put below c.loop-n.due.items c.loop-n.nodes.items _ empty (c.loop-n.invariant.nodes (λ k. spent)))

pub whole-tree-requires-clause-few : goal.whole-tree-requires-clause-few
whole-tree-requires-clause-few c =
    let p = price_at c.args.prices.now in
    let ns = c.args.keyed.now.nodes in
    let empty : c.loop-n.due.items ≡ [] = first_of (search rules, grind (arith, common_steps)) in
    let below = subtree p (λ k. spent) ns in
    let is = ap length (all_put below c.loop-n.due.items c.loop-n.nodes.items _ empty (c.loop-n.invariant.nodes (λ k. spent))) in
    let count = nodes_count (below 0) in
    let few = c.requires.few p (λ k. spent) in
    omega arith

pub returns-clause-prices : goal.returns-clause-prices
returns-clause-prices c = λ m all. subst (λ (xs : List OutNode). All (HasPricesOf m) xs) (sym c.whole-tree.ensures) (c.loop-n.invariant.shapes m all)
