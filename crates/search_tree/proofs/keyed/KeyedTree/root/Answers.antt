use Rattle.std.proofs.Common.{◌≡◌, ◌≢◌, ◌∙◌, ◌++◌, ◌∷◌, ◌⊎◌, inl, inr, [], ℕ, ℤ, List, None, Some, refl, ap, sym, subst, arith}
use Rattle.std.specs.Prelude.{AllPairs}
use Rattle.std.specs.Int.{w128}
use mir.Val.{of_z, to_z}
use Rattle.std.proofs.lemmas.Int.{to_z-of_z}
use Rattle.std.proofs.lemmas.Bool.{cases_eq}
use Rattle.node_queue.specs.declared.Waiting.{Waiting}
use Rattle.node_queue.specs.Waits.{Waits, keys_of}
use Rattle.search_tree.specs.declared.nodes.Node.{Node}
use Rattle.search_tree.specs.Numbered.{AreNumbered, IsOpenNode, root_node}
use Rattle.search_tree.specs.Keyed.{IsKeyed, IsWaiting, keyed_root}
use Rattle.search_tree.proofs.Found.{found_here, found_on}
use Rattle.search_tree.proofs.keyed.KeyedTree.root.Goals as goal

-- the root alone waits
alone : (key prices other m : ℕ) (bound b : ℤ) → IsWaiting (keyed_root key prices bound) other m b → (key ≡ other) × (m ≡ 0)
alone key prices other m bound b w = by (cases_eq key other)
  where
    one : Waiting
    one = record { bound = bound; item = 0 }

    by : (key ≡ other) ⊎ (key ≢ other) → (key ≡ other) × (m ≡ 0)
    by (inl e) =
        let this : Waiting = record { bound = b; item = m } in
        let x : Some one ≡ Some this = sym (found_here (key, one) [] other e) ∙ w in
        let y : one ≡ this = cc x in
        (e, ap (λ (v : Waiting). v.item) (sym y))
    by (inr ne) =
        let this : Waiting = record { bound = b; item = m } in
        let x : None ≡ Some this = sym (found_on (key, one) [] other ne) ∙ w in
        let none : ⊥ = cc in
        absurd none

root_keyed : (key prices : ℕ) (bound : ℤ) → AreNumbered (root_node prices ∷ []) → AllPairs (λ a b. a ≢ b) (keys_of (keyed_root key prices bound).waits)
    → IsKeyed (keyed_root key prices bound)
root_keyed key prices bound numbered differ = record {
  numbered = numbered;
  few = omega arith;
  leaves = λ other m b w.
      let e = (alone key prices other m bound b w).1 in
      subst (λ j. IsOpenNode (root_node prices ∷ []) j) (sym e) (omega arith, prices, refl);
  one = λ other last m b c x y. sym (alone key prices other m bound b x).0 ∙ (alone key prices last m bound c y).0;
  all = λ m o.
      let known = o.0 in
      let e : 0 ≡ m = omega arith in
      (key, bound, found_here (key, record { bound = bound; item = 0 }) [] key refl ∙ ap (λ (j : ℕ). Some (record { bound = bound; item = j })) e);
  differ = differ;
}

pub invariant_of-result : goal.invariant_of-result
invariant_of-result c =
    let key = c.in_ok-put.field-0 in
    let only : ℤ → Waits = λ b. (key, record { bound = b; item = 0 }) ∷ [] in
    let b : ℤ = to_z w128 (of_z w128 c.args.bound) in
    let same : b ≡ c.args.bound = to_z-of_z w128 c.args.bound c.ranges.bound in
    let waits : c.put.new.self ≡ only c.args.bound =
    c.in_ok-put.ensures.last ∙ ap (λ (q : Waits). q ++ only b) c.new-queue.ensures ∙ ap only same in
    let numbered : AreNumbered (root_node c.args.prices ∷ []) = subst AreNumbered c.in_ok-tree.ensures c.len.ensures.numbered in
    let differ : AllPairs (λ a b. a ≢ b) (keys_of (only c.args.bound)) =
    subst (λ (q : Waits). AllPairs (λ a b. a ≢ b) (keys_of q)) waits c.len-2.ensures.differ in
    subst (λ (q : Waits). IsKeyed (record { nodes = c.in_ok-tree.tree; waits = q })) (sym waits)
    (subst (λ (ns : List Node). IsKeyed (record { nodes = ns; waits = only c.args.bound }))
    (sym c.in_ok-tree.ensures) (root_keyed key c.args.prices c.args.bound numbered differ))
