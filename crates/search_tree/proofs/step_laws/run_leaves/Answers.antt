use Rattle.std.proofs.Common.{◌<◌, subst, length}
use Rattle.crew_terms.specs.Leaf.{IsOnRequired, Prices}
use Rattle.crew_terms.specs.Limits.{Limits, root_limits}
use Rattle.search_terms.specs.Inside.{IsNode}
use Rattle.search_terms.specs.Proven.{PricesProve}
use Rattle.search_terms.specs.Ways.{limits_at, prices_at}
use Rattle.search_tree.specs.Numbered.{tree_of, way_of}
use Rattle.search_tree.specs.States.{state_in}
use Rattle.search_tree.proofs.Sound.{sound_splits}
use Rattle.search_tree.proofs.step_laws.run_leaves.Goals as goal

pub returns : goal.returns
returns x = λ i budget left key n number bound p c plan k inst run keyed w is.
    let root : Limits = root_limits i in
    let s = state_in p c plan left k in
    let a = keyed.numbered in
    let known : n < length k.nodes = (keyed.leaves key n bound w).0 in
    let leads = x.ways_are_of_nodes.ensures.leads p c k.nodes n number a known is in
    let prices = x.ways_are_of_nodes.ensures.prices p c k.nodes n number a known is in
    let limits = x.ways_are_of_nodes.ensures.limits p c k.nodes n root a known in
    let proved = x.leaves_have_potentials.ensures i budget s inst run in
    let sound = x.run_is_sound.ensures i budget s 0 run proved in
    let here : PricesProve (limits_at root (tree_of p c k.nodes) (way_of k.nodes n)) (prices_at (tree_of p c k.nodes) (way_of k.nodes n)) 0 =
    (x.ways_are_leaves.ensures.each root (tree_of p c k.nodes) 0).0 proved.leaves (way_of k.nodes n) leads in
    record {
      leads = leads;
      prices = prices;
      limits = limits;
      can = x.turns_are_splits.ensures p c k.nodes n root a known (sound_splits s.tree sound.0 root 0 _ sound.1 sound.2);
      node = subst IsNode limits (x.search_nodes.ensures.search i budget s (way_of k.nodes n) inst run);
      priced = subst (λ (m : Limits). IsOnRequired m (p number)) limits
          (subst (λ (q : Prices). IsOnRequired (limits_at root (tree_of p c k.nodes) (way_of k.nodes n)) q) prices here.proved.0.priced);
    }
