use Rattle.std.proofs.Common.{◌≡◌, ◌∙◌, ℤ, None, Some, ap, cond, refl, rules, subst, sym}
use Rattle.std.specs.BTreeMap as tree
use Rattle.std.specs.BTreeMap.{is_at}
use Rattle.std.specs.Int.{w128}
use Rattle.std.specs.Option.{option_map}
use Rattle.std.specs.Prelude.{FitsSigned}
use Rattle.std.proofs.lemmas.Int.{to_z-of_z}
use Rattle.node_queue.specs.Kept.{Rank, rank_cmp, waiting_of, waits_in}
use Rattle.node_queue.specs.Waits.{without}
use Rattle.node_queue.specs.declared.Queue.TheInside.{Inside}
use Rattle.node_queue.proofs.Ages.{are_keys}
use Rattle.node_queue.proofs.Keys.{found_is, vacant_out, without_none}
use Rattle.node_queue.proofs.Steps.{Goes, goes_kept, goes_out}
use Rattle.node_queue.proofs.Queue.take.Goals as goal

pub invariant_of-self : goal.invariant_of-self
invariant_of-self c =
    let after : Inside = record { entries = c.try_remove.new.self; ages = c.remove.new.self; order = c.remove-in-Some.new.self; next_age = c.self.inside.next_age } in
    let range : FitsSigned w128 c.in-Some.field-0.waiting.bound = search rules in
    let bits = to_z-of_z w128 c.in-Some.field-0.waiting.bound range in
    let goes : Goes c.self.inside after c.args.key c.in-Some.field-0 = record {
      was = sym c.in-Some.ensures.value;
      entry = c.in-Some.ensures.updates;
      ages = c.remove.ensures.updates.0;
      left = c.remove.ensures.entries;
      ordered = c.remove.ensures.ordered;
      order = subst (λ (b : ℤ). (q : Rank) → tree.get rank_cmp c.remove-in-Some.new.self q ≡ cond (is_at (rank_cmp (b, c.in-Some.field-0.age)) q) None (tree.get rank_cmp c.self.inside.order q)) bits c.remove-in-Some.ensures.updates.0;
      next = refl;
    } in
    goes_kept c.self.inside after c.args.key c.in-Some.field-0 c.self.invariant goes

pub returns-in-Some-clause-taken : goal.returns-in-Some-clause-taken
returns-in-Some-clause-taken c =
    let keys = are_keys c.self.inside.entries c.self.inside.ages c.self.invariant.by_age c.self.invariant.ordered in
    let is = found_is c.self.inside.entries (tree.values c.self.inside.ages) c.args.self.now c.args.key keys c.self.view_is in
    let range : FitsSigned w128 c.in-Some.field-0.waiting.bound = search rules in
    ap (λ b. Some (b, c.in-Some.field-0.waiting.item)) (to_z-of_z w128 c.in-Some.field-0.waiting.bound range)
    ∙ ap (option_map (λ waiting. (waiting.bound, waiting.item))) (ap (option_map waiting_of) c.in-Some.ensures.value ∙ sym is)

pub returns-in-Some-clause-rest : goal.returns-in-Some-clause-rest
returns-in-Some-clause-rest c =
    let after : Inside = record { entries = c.try_remove.new.self; ages = c.remove.new.self; order = c.remove-in-Some.new.self; next_age = c.self.inside.next_age } in
    let range : FitsSigned w128 c.in-Some.field-0.waiting.bound = search rules in
    let bits = to_z-of_z w128 c.in-Some.field-0.waiting.bound range in
    let goes : Goes c.self.inside after c.args.key c.in-Some.field-0 = record {
      was = sym c.in-Some.ensures.value;
      entry = c.in-Some.ensures.updates;
      ages = c.remove.ensures.updates.0;
      left = c.remove.ensures.entries;
      ordered = c.remove.ensures.ordered;
      order = subst (λ (b : ℤ). (q : Rank) → tree.get rank_cmp c.remove-in-Some.new.self q ≡ cond (is_at (rank_cmp (b, c.in-Some.field-0.age)) q) None (tree.get rank_cmp c.self.inside.order q)) bits c.remove-in-Some.ensures.updates.0;
      next = refl;
    } in
    goes_out c.self.inside after c.args.key c.in-Some.field-0 c.self.invariant goes ∙ ap (λ q. without q c.args.key) c.self.view_is

pub returns-in-None-clause-taken : goal.returns-in-None-clause-taken
returns-in-None-clause-taken c =
    let keys = are_keys c.self.inside.entries c.self.inside.ages c.self.invariant.by_age c.self.invariant.ordered in
    let is = found_is c.self.inside.entries (tree.values c.self.inside.ages) c.args.self.now c.args.key keys c.self.view_is in
    ap (option_map (λ waiting. (waiting.bound, waiting.item))) (ap (option_map waiting_of) c.in-None.ensures.value ∙ sym is)

pub returns-in-None-clause-rest : goal.returns-in-None-clause-rest
returns-in-None-clause-rest c =
    let keys = are_keys c.self.inside.entries c.self.inside.ages c.self.invariant.by_age c.self.invariant.ordered in
    let out = vacant_out c.self.inside.entries (tree.values c.self.inside.ages) c.args.key keys (sym c.in-None.ensures.value) in
    ap (λ s. waits_in s (tree.values c.self.inside.ages)) c.in-None.ensures.absent
    ∙ sym (without_none c.self.inside.entries (tree.values c.self.inside.ages) c.args.key out)
    ∙ ap (λ q. without q c.args.key) c.self.view_is
