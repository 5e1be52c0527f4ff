use Rattle.std.proofs.Common.{◌≡◌, ◌≢◌, ◌∙◌, List, ap, sym, subst, refl}
use Rattle.crew_terms.specs.Branches.{LeafNode}
use Rattle.crew_terms.specs.Leaf.{Prices}
use Rattle.crew_terms.specs.Limits.{Limits, root_limits}
use Rattle.crew_terms.specs.Plan.{unassigned_count}
use Rattle.crew_terms.specs.declared.Side.{Side}
use Rattle.search_tree.specs.States.{DecidesProved, limits_of}
use Rattle.search_tree.specs.Keyed.{IsWaiting}
use Rattle.search_terms.specs.Proven.{PricesProve}
use Rattle.search_terms.specs.Search.{Closes, Extends}
use Rattle.search_terms.specs.SearchTree.{ClosedLeaf, SearchTree}
use Rattle.search_terms.specs.Ways.{limits_at, prices_at, replaced}
use Rattle.search_tree.specs.Numbered.{tree_of, way_of}
use Rattle.search_tree.proofs.step_laws.steps_at_closed.Goals as goal

pub returns-clause-step : goal.returns-clause-step
returns-clause-step x = λ i pivots left key n number bound p q c d plan better columns more old new keyed w taken same improves extends proved.
    let o = keyed.leaves key n bound w in
    let here = limits_at (root_limits i) (tree_of p c old.nodes) (way_of old.nodes n) in
    let limits : here ≡ limits_of i old n =
    x.ways_are_of_nodes.ensures.limits p c old.nodes n (root_limits i) keyed.numbered o.0 in
    let leaf : SearchTree = LeafNode (ClosedLeaf (q number)) in
    record {
      leads = x.ways_are_of_nodes.ensures.leads p c old.nodes n o.1 keyed.numbered o.0 o.2;
      plan = improves;
      extends = subst (λ (m : Limits). Extends m columns more) (sym limits) extends;
      new = leaf;
      becomes = Closes (q number) (subst (λ (m : Limits). PricesProve m (q number) (unassigned_count better)) (sym limits) proved) refl;
      tree = taken.tree q d ∙ ap (λ (t : SearchTree). replaced t (way_of old.nodes n) leaf) same;
      left = refl;
    }

pub returns-clause-bounds : goal.returns-clause-bounds
returns-clause-bounds x = λ i key n number bound p q c d old new keyed after w taken same bounds other m b v.
    let root : Limits = root_limits i in
    let r = taken.before other m b v in
    let here = keyed.leaves key n bound w in
    let there = keyed.leaves other m b r.1 in
    let t = tree_of p c old.nodes in
    let u = tree_of q d new.nodes in
    let leaf : SearchTree = LeafNode (ClosedLeaf (q number)) in
    let to : u ≡ replaced t (way_of old.nodes n) leaf = taken.tree q d ∙ ap (λ (y : SearchTree). replaced y (way_of old.nodes n) leaf) same in
    let apart : way_of old.nodes m ≢ way_of old.nodes n = λ e.
    let one : m ≡ n = x.ways_are_of_nodes.ensures.one old.nodes m n keyed.numbered there.0 here.0 e in
    r.0 (keyed.one other key n b bound (subst (λ j. IsWaiting old other j b) one r.1) w) in
    let stays = x.ways_are_leaves.ensures.others root t (way_of old.nodes n) (way_of old.nodes m) leaf
    (x.ways_are_of_nodes.ensures.leads p c old.nodes n here.1 keyed.numbered here.0 here.2)
    (x.ways_are_of_nodes.ensures.leads p c old.nodes m there.1 keyed.numbered there.0 there.2) apart in
    let way : way_of new.nodes m ≡ way_of old.nodes m = taken.ways m there.0 in
    let limits : limits_at root u (way_of new.nodes m) ≡ limits_at root t (way_of old.nodes m) =
    ap (λ (y : List Side). limits_at root u y) way ∙ ap (λ (y : SearchTree). limits_at root y (way_of old.nodes m)) to ∙ stays.limits in
    let prices : prices_at u (way_of new.nodes m) ≡ prices_at t (way_of old.nodes m) =
    ap (λ (y : List Side). prices_at u y) way ∙ ap (λ (y : SearchTree). prices_at y (way_of old.nodes m)) to ∙ stays.prices in
    subst (λ (y : Limits). DecidesProved y (prices_at u (way_of new.nodes m)) b) (sym limits)
    (subst (λ (y : Prices). DecidesProved (limits_at root t (way_of old.nodes m)) y b) (sym prices) (bounds other m b r.1))
