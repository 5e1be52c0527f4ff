use Rattle.std.proofs.Common.{◌≤◌, ◌+◌, ◌*◌, ◌∙◌, ℕ, ℤ, sym, subst, arith, length}
use Rattle.crew_terms.specs.declared.TheConstants.{MOST_NODES}
use Rattle.node_queue.specs.Waits.{found}
use Rattle.search_tree.specs.Keyed.{Keyed, IsTaken, IsWaiting}
use Rattle.search_tree.proofs.Found.{item_of}
use Rattle.search_tree.proofs.Keeping.{rest_stays, same_item, taken_before, taken_keyed}
use Rattle.search_tree.proofs.keyed.KeyedTree.close.Goals as goal

pub invariant_of-self : goal.invariant_of-self
invariant_of-self c =
    let old : Keyed = record { nodes = c.self.inside.tree; waits = c.self.inside.queue } in
    let new : Keyed = record { nodes = c.close.new.self; waits = c.take.new.self } in
    let leaf = item_of (found c.self.inside.queue c.args.key) c.unwrap-n.result (sym c.item.ensures ∙ c.unwrap-n.ensures) in
    let few : length new.nodes ≤ 2 * MOST_NODES + 1 = let a = c.len.ensures.count in let b = c.len.ensures.few in omega arith in
    taken_keyed old new c.args.key c.unwrap-n.result c.args.prices leaf.0 c.self.invariant leaf.1 c.close.ensures.nodes c.take.ensures.rest
    c.len.ensures.numbered few c.len-2.ensures.differ

pub returns : goal.returns
returns c =
    let old : Keyed = record { nodes = c.self.inside.tree; waits = c.self.inside.queue } in
    let new : Keyed = record { nodes = c.close.new.self; waits = c.take.new.self } in
    let leaf = item_of (found c.self.inside.queue c.args.key) c.unwrap-n.result (sym c.item.ensures ∙ c.unwrap-n.ensures) in
    let is : IsTaken old new c.args.key c.unwrap-n.result c.args.prices = record {
      nodes = c.close.ensures.nodes;
      waits = c.take.ensures.rest;
      tree = c.close.ensures.tree;
      ways = c.close.ensures.ways;
      stays = rest_stays old new c.args.key c.take.ensures.rest;
      before = taken_before old new c.args.key c.take.ensures.rest;
    } in
    subst (λ (k : Keyed). (n : ℕ) (bound : ℤ) → IsWaiting k c.args.key n bound → IsTaken k new c.args.key n c.args.prices) c.self.view_is
    (λ n bound w. subst (λ j. IsTaken old new c.args.key j c.args.prices) (same_item old c.args.key c.unwrap-n.result n leaf.0 bound leaf.1 w) is)
