-- an open leaf of a search, as its fields have it
use Rattle.std.proofs.Common.{◌≡◌, ◌≤◌, ◌<◌, ◌∙◌, [], ℕ, ℤ, List, length, get_or, ap, sym, subst, arith}
use Rattle.std.proofs.lemmas.List.{get_or_default}
use Rattle.std.proofs.lemmas.List.Elements.{All-get_or}
use Rattle.crew_terms.specs.Instance.{Instance}
use Rattle.crew_terms.specs.Leaf.{IsOnRequired, Prices}
use Rattle.crew_terms.specs.Limits.{Limits, root_limits, tasks_in}
use Rattle.crew_terms.specs.Plan.{unassigned_count}
use Rattle.search_tree.specs.States.{DecidesProved, HasLeaf, limits_of}
use Rattle.search_tree.specs.Keyed.{IsWaiting}
use Rattle.search_tree.specs.Numbers.{HasNumber}
use Rattle.potentials.specs.Prices.{ArePricesOf}
use Rattle.search_core.specs.Counts.{few_unassigned}
use Rattle.search_core.specs.Kept.{IsKept}
use Rattle.search_core.specs.Searching.{cause_at, price_at}
use Rattle.search_core.specs.declared.searches.Search.TheInside.{Inside}
use Rattle.search_terms.specs.Inside.{IsNode}
use Rattle.search_terms.specs.Search.{IsKeepable}
use Rattle.search_tree.specs.declared.nodes.Content.{Content}
use Rattle.search_tree.specs.declared.nodes.Content.TheVariants as content
use Rattle.node_limits.specs.declared.walks.Branch.{Branch}
use Rattle.search_terms.specs.Ways.{prices_at}
use Rattle.search_tree.specs.Numbered.{node_of, tree_of, way_of}
use Rattle.node_limits.specs.Walks.{CanBranch, limits_after}
use Rattle.search_tree.specs.Ways.{turns_of}
use Rattle.search_core.proofs.Exploring.{after_instance}
use Rattle.search_core.proofs.StepLemmas.{same_shape}

-- what is known at the limits to which the turns lead
pub record IsSite (n : Limits) (own : Prices) (bound : ℤ) (best : ℕ) : Type 0 where
  pub node : IsNode n
  pub shape : ArePricesOf n own
  pub required : IsOnRequired n own
  pub decides : DecidesProved n own bound
  pub few : best ≤ tasks_in n

-- the prices of the leaf have a number
pub own_known : (a : Inside) (n own : ℕ) → IsKept a → (node_of a.keyed.nodes n).content ≡ content.Open own → own < length a.prices.items
own_known a n own kept is =
    subst (λ (k : Content). HasNumber (length a.prices.items) (length a.causes.items) k) is (kept.search.fitting.numbers n)

pub site_limits : (a : Inside) (n : ℕ) (turns : List Branch) → IsKept a → turns ≡ turns_of a.keyed.nodes n
    → limits_after a.limits.limits turns ≡ limits_of a.limits.limits.instance a.keyed n
site_limits a n turns kept is =
    ap (λ (ts : List Branch). limits_after a.limits.limits ts) is
    ∙ ap (λ (m : Limits). limits_after m (turns_of a.keyed.nodes n)) kept.root

pub site_turns : (a : Inside) (n own : ℕ) (turns : List Branch) → IsKept a → turns ≡ turns_of a.keyed.nodes n
    → HasLeaf a.limits.limits.instance (price_at a.prices.items) (cause_at [] a.causes.items) a.keyed n own → CanBranch a.limits.limits turns
site_turns a n own turns kept is leaf =
    subst (λ (ts : List Branch). CanBranch a.limits.limits ts) (sym is)
    (subst (λ (m : Limits). CanBranch m (turns_of a.keyed.nodes n)) (sym kept.root) leaf.can)

pub site : (a : Inside) (key n own : ℕ) (bound : ℤ) (price : Prices) → IsKept a → IsWaiting a.keyed key n bound
    → HasLeaf a.limits.limits.instance (price_at a.prices.items) (cause_at [] a.causes.items) a.keyed n own
    → own < length a.prices.items → price ≡ get_or a.prices.items own price → IsKeepable a.limits.limits.instance a.plan
    → IsSite (limits_of a.limits.limits.instance a.keyed n) price bound (unassigned_count a.plan)
site a key n own bound price kept w leaf known is keepable =
    let i = a.limits.limits.instance in
    let N : Limits = limits_of i a.keyed n in
    let same : N.instance ≡ i = after_instance (root_limits i) (turns_of a.keyed.nodes n) in
    let at : price ≡ price_at a.prices.items own = is ∙ get_or_default a.prices.items own price (record { pi = []; rho = [] }) known in
    let shape : ArePricesOf (root_limits i) (price_at a.prices.items own) =
    All-get_or (ArePricesOf (root_limits i)) a.prices.items own (record { pi = []; rho = [] }) known kept.search.fitting.shapes in
    let few = few_unassigned i a.plan keepable in
    let count = ap (λ (j : Instance). length j.tasks) same in
    record {
      node = leaf.node;
      shape = subst (λ (p : Prices). ArePricesOf N p) (sym at) (same_shape (root_limits i) N (price_at a.prices.items own) (sym same) shape);
      required = subst (λ (p : Prices). IsOnRequired N p) (sym at) leaf.priced;
      decides = subst (λ (p : Prices). DecidesProved N p bound) (sym at)
          (subst (λ (p : Prices). DecidesProved N p bound) leaf.prices
          (subst (λ (m : Limits). DecidesProved m (prices_at (tree_of (price_at a.prices.items) (cause_at [] a.causes.items) a.keyed.nodes) (way_of a.keyed.nodes n)) bound) leaf.limits (kept.search.bounds [] key n bound w)));
      few = omega arith;
    }
