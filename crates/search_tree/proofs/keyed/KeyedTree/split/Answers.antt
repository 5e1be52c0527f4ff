use Rattle.std.proofs.Common.{◌≡◌, ◌≢◌, ◌≤◌, ◌*◌, arith, ◌∙◌, ◌+◌, ◌++◌, ◌∷◌, [], ℕ, ℤ, List, None, Some, ap, sym, subst, length}
use Rattle.crew_terms.specs.declared.TheConstants.{MOST_NODES}
use Rattle.node_queue.specs.declared.Waiting.{Waiting}
use Rattle.node_queue.specs.Waits.{Waits, found, without}
use Rattle.search_tree.specs.declared.nodes.Node.{Node}
use Rattle.search_tree.specs.Numbered.{HasSplit}
use Rattle.search_tree.specs.Keyed.{Keyed, IsKeyed, IsTurned, IsWaiting}
use Rattle.search_tree.proofs.Found.{found_before, item_of, none_found, without_last}
use Rattle.search_tree.proofs.Keeping.{IsPut, put_last, same_item, turned_before, turned_keyed, turned_stays}
use Rattle.search_tree.proofs.keyed.KeyedTree.split.Goals as goal

-- what was put twice and taken twice
restored : (q grown less back : Waits) (low high : ℕ) (v w : Waiting) → grown ≡ (q ++ (low, v) ∷ []) ++ (high, w) ∷ [] → found q low ≡ None
    → found q high ≡ None → low ≢ high → less ≡ without grown high → back ≡ without less low → back ≡ q
restored q grown less back low high v w is fresh other differ once twice =
    let first : found (q ++ (low, v) ∷ []) high ≡ None = found_before q low high v (λ e. differ (sym e)) ∙ other in
    twice ∙ ap (λ (x : Waits). without x low) (once ∙ ap (λ (x : Waits). without x high) is ∙ without_last (q ++ (low, v) ∷ []) high w first)
    ∙ without_last q low v fresh

abbrev with_parts : List Node → Waits → Keyed
with_parts nodes waits = record { nodes = nodes; waits = waits }

same_keyed : (a b : List Node) (p q : Waits) → a ≡ b → p ≡ q → with_parts a p ≡ with_parts b q
same_keyed a b p q e f = ap (λ (x : List Node). with_parts x p) e ∙ ap (λ (x : Waits). with_parts b x) f

-- a new key is not one of before
new_key : (k : Keyed) (key n other : ℕ) (bound : ℤ) → IsWaiting k key n bound → found k.waits other ≡ None → other ≢ key
new_key k key n other bound w none = λ e.
    let one : Waiting = record { bound = bound; item = n } in
    let x : None ≡ Some one = sym none ∙ ap (λ j. found k.waits j) e ∙ w in
    cc

put : (old new : Keyed) (grown : Waits) (key n low high first : ℕ) (bounds : ℤ × ℤ) (bound : ℤ) → IsWaiting old key n bound → first ≡ length old.nodes
    → grown ≡ (old.waits ++ (low, record { bound = bounds.0; item = first }) ∷ []) ++ (high, record { bound = bounds.1; item = first + 1 }) ∷ []
    → new.waits ≡ without grown key → found old.waits low ≡ None → found old.waits high ≡ None → low ≢ high → IsPut old new key low high bounds
put old new grown key n low high first bounds bound w count is rest fresh other differ = record {
  waits = rest ∙ ap (λ (x : Waits). without x key) (is
      ∙ ap (λ (m : ℕ). (old.waits ++ (low, record { bound = bounds.0; item = m }) ∷ []) ++ (high, record { bound = bounds.1; item = m + 1 }) ∷ []) count);
  fresh = fresh;
  other = other;
  differ = differ;
  low_apart = new_key old key n low bound w fresh;
  high_apart = new_key old key n high bound w other;
}

pub invariant_of-self-in-Err : goal.invariant_of-self-in-Err
invariant_of-self-in-Err c =
    let q = c.self.inside.queue in
    let back : c.take-in-Err.new.self ≡ q =
    restored q c.put_both.new.queue c.take.new.self c.take-in-Err.new.self c.in_ok-low.low c.in_ok-low.high _ _ c.in_ok-low.ensures.waits
    (none_found q c.in_ok-low.low c.in_ok-low.ensures.fresh) (none_found q c.in_ok-low.high c.in_ok-low.ensures.other) c.in_ok-low.ensures.differ
    c.take.ensures.rest c.take-in-Err.ensures.rest in
    subst IsKeyed (sym (same_keyed c.split.new.self c.self.inside.tree c.take-in-Err.new.self q c.in-Err.ensures.err back)) c.self.invariant

pub returns-in-Err-clause-err : goal.returns-in-Err-clause-err
returns-in-Err-clause-err c =
    let q = c.self.inside.queue in
    let back : c.take-in-Err.new.self ≡ q =
    restored q c.put_both.new.queue c.take.new.self c.take-in-Err.new.self c.in_ok-low.low c.in_ok-low.high _ _ c.in_ok-low.ensures.waits
    (none_found q c.in_ok-low.low c.in_ok-low.ensures.fresh) (none_found q c.in_ok-low.high c.in_ok-low.ensures.other) c.in_ok-low.ensures.differ
    c.take.ensures.rest c.take-in-Err.ensures.rest in
    same_keyed c.split.new.self c.self.inside.tree c.take-in-Err.new.self q c.in-Err.ensures.err back ∙ c.self.view_is

pub invariant_of-self-2 : goal.invariant_of-self-2
invariant_of-self-2 c =
    let old : Keyed = record { nodes = c.self.inside.tree; waits = c.self.inside.queue } in
    let new : Keyed = record { nodes = c.split.new.self; waits = c.take-2.new.self } in
    let n = c.unwrap-n.result in
    let leaf = item_of (found c.self.inside.queue c.args.key) n (sym c.item.ensures ∙ c.unwrap-n.ensures) in
    let known = (c.self.invariant.leaves c.args.key n leaf.0 leaf.1).0 in
    let has : HasSplit old.nodes new.nodes n c.args.choice c.args.cause c.args.prices =
    subst (λ (x : List Node). HasSplit old.nodes x n c.args.choice c.args.cause c.args.prices) (sym c.in_default.ensures.nodes)
    (c.splits_are_put.ensures old.nodes n c.args.cause c.args.prices c.args.choice known) in
    let is : IsPut old new c.args.key c.in_ok-low.low c.in_ok-low.high c.args.bounds =
    put old new c.put_both.new.queue c.args.key n c.in_ok-low.low c.in_ok-low.high c.len-first.result c.args.bounds leaf.0 leaf.1 c.len-first.ensures.count
    c.in_ok-low.ensures.waits c.take-2.ensures.rest (none_found old.waits c.in_ok-low.low c.in_ok-low.ensures.fresh)
    (none_found old.waits c.in_ok-low.high c.in_ok-low.ensures.other) c.in_ok-low.ensures.differ in
    let few : length new.nodes ≤ 2 * MOST_NODES + 1 = let a = c.len.ensures.count in let b = c.len.ensures.few in omega arith in
    turned_keyed old new c.args.key n c.in_ok-low.low c.in_ok-low.high c.args.cause c.args.prices c.args.choice c.args.bounds leaf.0 c.self.invariant
    leaf.1 has is c.len.ensures.numbered few c.len-2.ensures.differ

pub returns-clause-ok : goal.returns-clause-ok
returns-clause-ok c =
    let old : Keyed = record { nodes = c.self.inside.tree; waits = c.self.inside.queue } in
    let new : Keyed = record { nodes = c.split.new.self; waits = c.take-2.new.self } in
    let n = c.unwrap-n.result in
    let leaf = item_of (found c.self.inside.queue c.args.key) n (sym c.item.ensures ∙ c.unwrap-n.ensures) in
    let is : IsPut old new c.args.key c.in_ok-low.low c.in_ok-low.high c.args.bounds =
    put old new c.put_both.new.queue c.args.key n c.in_ok-low.low c.in_ok-low.high c.len-first.result c.args.bounds leaf.0 leaf.1 c.len-first.ensures.count
    c.in_ok-low.ensures.waits c.take-2.ensures.rest (none_found old.waits c.in_ok-low.low c.in_ok-low.ensures.fresh)
    (none_found old.waits c.in_ok-low.high c.in_ok-low.ensures.other) c.in_ok-low.ensures.differ in
    let turned : IsTurned old new c.args.key n c.args.choice c.args.cause c.args.prices c.args.bounds = record {
      nodes = c.in_default.ensures.nodes;
      low = c.in_ok-low.low;
      high = c.in_ok-low.high;
      waits = put_last old new c.args.key c.in_ok-low.low c.in_ok-low.high c.args.bounds is;
      tree = c.in_default.ensures.tree;
      ways = c.in_default.ensures.ways;
      stays = turned_stays old new c.args.key c.in_ok-low.low c.in_ok-low.high c.args.bounds is;
      before = turned_before old new c.args.key c.in_ok-low.low c.in_ok-low.high c.args.bounds is;
    } in
    subst (λ (k : Keyed). (m : ℕ) (bound : ℤ) → IsWaiting k c.args.key m bound → IsTurned k new c.args.key m c.args.choice c.args.cause c.args.prices c.args.bounds)
    c.self.view_is
    (λ m bound w. subst (λ j. IsTurned old new c.args.key j c.args.choice c.args.cause c.args.prices c.args.bounds)
    (same_item old c.args.key n m leaf.0 bound leaf.1 w) turned)
