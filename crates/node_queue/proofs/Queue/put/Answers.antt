use Rattle.std.proofs.Common.{arith, ◌≡◌, ◌∙◌, ◌++◌, ◌∷◌, [], ℕ, ℤ, None, ap, cond, refl, sym, subst, Some, to_z, of_z}
use Rattle.std.specs.BTreeMap as tree
use Rattle.std.specs.BTreeMap.{is_at}
use Rattle.std.specs.Prelude.{Contains}
use Rattle.std.specs.Int.{w128}
use Rattle.std.proofs.lemmas.Int.{to_z-of_z}
use Rattle.slab.specs.Slab.{get, Updates}
use Rattle.node_queue.specs.declared.Entry.{Entry}
use Rattle.node_queue.specs.declared.Queue.TheInside.{Inside}
use Rattle.node_queue.specs.Kept.{Rank, rank_cmp}
use Rattle.node_queue.specs.Waits.{keys_of}
use Rattle.node_queue.proofs.Ages.{are_keys}
use Rattle.node_queue.proofs.Keys.{keys_waits, vacant_out}
use Rattle.node_queue.proofs.Steps.{Comes, comes_kept, comes_last, undone_kept}
use Rattle.node_queue.proofs.Queue.put.Goals as goal

pub returns-clause-fresh : goal.returns-clause-fresh
returns-clause-fresh c = λ there.
    let ages = tree.values c.self.inside.ages in
    let keys = sym (ap keys_of c.self.view_is) ∙ keys_waits c.self.inside.entries ages in
    let same = ap (λ s. get s c.vacant_key-key.result) c.in_ok-reserve.ensures.rest_kept in
    let kept = are_keys c.self.inside.entries c.self.inside.ages c.self.invariant.by_age c.self.invariant.ordered in
    vacant_out c.self.inside.entries ages c.vacant_key-key.result kept (sym same ∙ c.vacant_key-key.ensures.vacant) (subst (λ ks. Contains ks c.vacant_key-key.result) keys there)

pub invariant_of-self-in-Err : goal.invariant_of-self-in-Err
invariant_of-self-in-Err c =
    let after : Inside = record { entries = c.reserve.new.self; ages = c.insert-2.new.self; order = c.remove.new.self; next_age = c.self.inside.next_age } in
    let kept : to_z w128 (of_z w128 c.args.bound) ≡ c.args.bound = to_z-of_z w128 c.args.bound c.ranges.bound in
    let came : (q : Rank) → tree.get rank_cmp c.insert.new.self q ≡ cond (is_at (rank_cmp (c.args.bound, c.self.inside.next_age)) q) (Some c.vacant_key-key.result) (tree.get rank_cmp c.self.inside.order q) =
    subst (λ (b : ℤ). (q : Rank) → tree.get rank_cmp c.insert.new.self q ≡ cond (is_at (rank_cmp (b, c.self.inside.next_age)) q) (Some c.vacant_key-key.result) (tree.get rank_cmp c.self.inside.order q)) kept c.in_ok-insert.ensures.updates.0 in
    let went : (q : Rank) → tree.get rank_cmp c.remove.new.self q ≡ cond (is_at (rank_cmp (c.args.bound, c.self.inside.next_age)) q) None (tree.get rank_cmp c.insert.new.self q) =
    subst (λ (b : ℤ). (q : Rank) → tree.get rank_cmp c.remove.new.self q ≡ cond (is_at (rank_cmp (b, c.self.inside.next_age)) q) None (tree.get rank_cmp c.insert.new.self q)) kept c.remove.ensures.updates.0 in
    undone_kept c.self.inside after c.vacant_key-key.result c.args.bound c.self.invariant (λ k. ap (λ s. get s k) c.in_ok-reserve.ensures.rest_kept)
    c.in-Err.ensures.err
    (λ q. went q ∙ ap (λ o. cond (is_at (rank_cmp (c.args.bound, c.self.inside.next_age)) q) None o) (came q))
    refl

pub invariant_of-self-2 : goal.invariant_of-self-2
invariant_of-self-2 c =
    let after : Inside = record { entries = c.insert_reserved.new.self; ages = c.insert-2.new.self; order = c.insert.new.self; next_age = c.in_ok-next_age.next_age } in
    let key = c.vacant_key-key.result in
    let e : Entry = record { age = c.self.inside.next_age; waiting = record { bound = c.args.bound; item = c.args.item } } in
    let kept : to_z w128 (of_z w128 c.args.bound) ≡ c.args.bound = to_z-of_z w128 c.args.bound c.ranges.bound in
    let is : c.insert_reserved.result ≡ key = c.insert_reserved.ensures.key ∙ sym c.vacant_key-key.ensures.value in
    let same = λ (k : ℕ). ap (λ s. get s k) c.in_ok-reserve.ensures.rest_kept in
    let u : Updates c.reserve.new.self c.insert_reserved.new.self key (Some e) = subst (λ k. Updates c.reserve.new.self c.insert_reserved.new.self k (Some e)) is
    (subst (λ (b : ℤ). Updates {T = Entry} c.reserve.new.self c.insert_reserved.new.self c.insert_reserved.result (Some (record { age = c.self.inside.next_age; waiting = record { bound = b; item = c.args.item } }))) kept c.insert_reserved.ensures.updates) in
    let comes : Comes c.self.inside after key e = record {
      vacant = sym (same key) ∙ c.vacant_key-key.ensures.vacant;
      entry = record { changed = u.changed; others = λ k ne. u.others k ne ∙ same k };
      age = refl;
      ages = c.in_default.ensures.updates.0;
      last = c.in_default.ensures.entries;
      ordered = c.insert-2.ensures.ordered;
      order = subst (λ (b : ℤ). (q : Rank) → tree.get rank_cmp c.insert.new.self q ≡ cond (is_at (rank_cmp (b, c.self.inside.next_age)) q) (Some key) (tree.get rank_cmp c.self.inside.order q)) kept c.in_ok-insert.ensures.updates.0;
      next = grind (arith, c.checked_add.ensures, c.in_ok-next_age.ensures.ok_part);
    } in
    comes_kept c.self.inside after key e c.self.invariant comes

pub returns-clause-last : goal.returns-clause-last
returns-clause-last c =
    let after : Inside = record { entries = c.insert_reserved.new.self; ages = c.insert-2.new.self; order = c.insert.new.self; next_age = c.in_ok-next_age.next_age } in
    let key = c.vacant_key-key.result in
    let e : Entry = record { age = c.self.inside.next_age; waiting = record { bound = c.args.bound; item = c.args.item } } in
    let kept : to_z w128 (of_z w128 c.args.bound) ≡ c.args.bound = to_z-of_z w128 c.args.bound c.ranges.bound in
    let is : c.insert_reserved.result ≡ key = c.insert_reserved.ensures.key ∙ sym c.vacant_key-key.ensures.value in
    let same = λ (k : ℕ). ap (λ s. get s k) c.in_ok-reserve.ensures.rest_kept in
    let u : Updates c.reserve.new.self c.insert_reserved.new.self key (Some e) = subst (λ k. Updates c.reserve.new.self c.insert_reserved.new.self k (Some e)) is
    (subst (λ (b : ℤ). Updates {T = Entry} c.reserve.new.self c.insert_reserved.new.self c.insert_reserved.result (Some (record { age = c.self.inside.next_age; waiting = record { bound = b; item = c.args.item } }))) kept c.insert_reserved.ensures.updates) in
    let comes : Comes c.self.inside after key e = record {
      vacant = sym (same key) ∙ c.vacant_key-key.ensures.vacant;
      entry = record { changed = u.changed; others = λ k ne. u.others k ne ∙ same k };
      age = refl;
      ages = c.in_default.ensures.updates.0;
      last = c.in_default.ensures.entries;
      ordered = c.insert-2.ensures.ordered;
      order = subst (λ (b : ℤ). (q : Rank) → tree.get rank_cmp c.insert.new.self q ≡ cond (is_at (rank_cmp (b, c.self.inside.next_age)) q) (Some key) (tree.get rank_cmp c.self.inside.order q)) kept c.in_ok-insert.ensures.updates.0;
      next = grind (arith, c.checked_add.ensures, c.in_ok-next_age.ensures.ok_part);
    } in
    comes_last c.self.inside after key e c.self.invariant comes ∙ ap (λ q. q ++ (key, e.waiting) ∷ []) c.self.view_is
