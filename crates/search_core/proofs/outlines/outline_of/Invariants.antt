use Rattle.std.proofs.Common.{◌≡◌, ◌<◌, ◌++◌, ◌-◌, ℕ, length, map}
use Rattle.std.specs.Prelude.{All}
use Rattle.branch_tree.specs.Trees.{preorder}
use Rattle.crew_terms.specs.Leaf.{Prices}
use Rattle.crew_terms.specs.Limits.{Limits}
use Rattle.potentials.specs.Prices.{ArePricesOf}
use Rattle.search_terms.specs.Earned.{Spent}
use Rattle.search_terms.specs.SearchTree.{SplitCause, causes}
use Rattle.search_tree.specs.Numbered.{subtree}
use Rattle.search_tree.specs.Numbers.{HaveNumbers}
use Rattle.search_core.specs.Outline.{outline, price_at}
use Rattle.search_core.specs.Visited.{HasPricesOf}
use Rattle.search_core.proofs.Walking.{causes_due, nodes_due}
use Rattle.search_core.proofs.outlines.outline_of.Given as goal

abbrev pub invariant-loop-n : goal.invariant-loop-n
invariant-loop-n l = record {
  nodes : (c : ℕ → SplitCause) → l.nodes.items ++ nodes_due (subtree (price_at l.prices) c l.keyed.nodes) l.due.items
      ≡ preorder (outline (subtree (price_at l.prices) c l.keyed.nodes 0));
  causes : (p : ℕ → Prices) (c : ℕ → SplitCause) → map c l.causes.items ++ causes_due (subtree p c l.keyed.nodes) l.due.items
      ≡ causes (subtree p c l.keyed.nodes 0);
  known : All (λ n. n < length l.keyed.nodes) l.due.items;
  shapes : (n : Limits) → All (ArePricesOf n) l.prices → All (HasPricesOf n) l.nodes.items;
  numbers : (most : ℕ) → HaveNumbers (length l.prices) most l.keyed.nodes → All (λ k. k < most) l.causes.items;
}

abbrev pub decreases-loop-n : goal.decreases-loop-n
decreases-loop-n l =
    length (preorder (outline (subtree (price_at l.prices) (λ _. record { now = 0; why = Spent }) l.keyed.nodes 0))) - length l.nodes.items
