use Rattle.std.proofs.Common.{◌≡◌, ◌<◌, ◌≤◌, ◌+◌, ◌^◌, ℕ, Bool, true, false, length, ap, ◌∙◌, subst, sym, arith}
use Rattle.std.specs.Prelude.{if◌then◌else◌}
use Rattle.std.specs.Box.{with_value}
use Rattle.crew_terms.specs.declared.TreeCounts.{TreeCounts}
use Rattle.crew_terms.specs.Tree.{CanSplit}
use Rattle.node_limits.specs.Trail.{Trail}
use Rattle.tree_walk.specs.Way.{Enters}
use Rattle.cert_checker.specs.declared.due.TreeDraft.{TreeDraft}
use Rattle.cert_checker.proofs.NodeRows.{entered_at, unshown_few, limits_at, taken_woke, written_back}
use Rattle.cert_checker.proofs.node.first_child.Goals as goal

one_at_most : (b : Bool) (n : ℕ) → n ≡ (if b then 0 else 1) → n ≤ 1
one_at_most true n e = omega arith
one_at_most false n e = omega arith

pub overflow_add-held : goal.overflow_add-held
overflow_add-held c =
    let fs = c.requires.0 in
    let may = c.requires.1 in
    let few = may.node.claimed.splits in
    let room = may.room.splits in
    let seen = ap (λ (n : TreeCounts). n.splits) may.node.at.seen in
    let unshown = may.node.unshown in
    let fewer = unshown_few fs in
    let held = ap (λ (t : TreeDraft). t.unshown) c.deref_mut-held.ensures.value in
    let one = one_at_most c.args.is_shown c.unshown_by.result c.unshown_by.ensures in
    omega arith

pub enter-requires : goal.enter-requires
enter-requires c =
    let tree = c.args.tree.value in
    let fs = c.requires.0 in
    let may = c.requires.1 in
    let woke = taken_woke tree c.deref_mut-held.result.now c.deref_mut-draft.result.now c.take.result c.wake-limits.result c.deref_mut-held.ensures.value c.deref_mut-draft.ensures.value c.take.ensures.taken c.wake-limits.ensures in
    let few = may.node.claimed.splits in
    let room = may.room.splits in
    let small : tree.walk.seen.splits + 1 < 2 ^ 32 = omega arith in
    let level = may.room.depth in
    let depth = may.node.depth in
    let spare = may.node.spare in
    let had = ap (λ (t : Trail). t.spare) woke in
    let deep : length tree.walk.above < tree.walk.depth = omega arith in
    record {
      deeper = subst (λ (t : TreeDraft). length t.walk.above < t.walk.depth) (sym c.deref_mut-held.ensures.value) deep;
      spare = omega arith;
      split = subst (λ n. CanSplit n c.args.choice) (sym (limits_at tree c.wake-limits.result fs woke may.node)) may.split;
      room = subst (λ (t : TreeDraft). t.walk.seen.splits + 1 < 2 ^ 32) (sym c.deref_mut-held.ensures.value) small;
    }

pub returns : goal.returns
returns c = λ fs cause node shown.
    let tree = c.args.tree.value in
    let woke = taken_woke tree c.deref_mut-held.result.now c.deref_mut-draft.result.now c.take.result c.wake-limits.result c.deref_mut-held.ensures.value c.deref_mut-draft.ensures.value c.take.ensures.taken c.wake-limits.ensures in
    let held = c.deref_mut-held.result.now in
    let draft = c.deref_mut-draft.result.now in
    let n = c.wake-limits.result in
    entered_at tree n c.enter.new.limits c.enter.new.self c.rest.result woke
    c.enter.ensures.instance c.rest.ensures.same c.rest.ensures.over
    (c.enter.ensures.depth ∙ ap (λ (x : TreeDraft). x.walk.depth) c.deref_mut-held.ensures.value)
    (c.enter.ensures.spare ∙ ap (λ (x : TreeDraft). n.spare + length x.walk.above) c.deref_mut-held.ensures.value)
    (held.unshown + c.unshown_by.result)
    (with_value c.args.tree (record held { draft = with_value held.draft (record draft { limits = c.rest.result }); walk = c.enter.new.self; unshown = held.unshown + c.unshown_by.result }))
    (written_back tree held draft c.rest.result c.enter.new.self (held.unshown + c.unshown_by.result) c.deref_mut-held.ensures.value c.deref_mut-draft.ensures.value)
    c.unshown_by.result (ap (λ (x : TreeDraft). x.unshown + c.unshown_by.result) c.deref_mut-held.ensures.value) c.args.choice
    (subst (λ (x : TreeDraft). Enters c.args.choice n x.walk c.enter.new.limits c.enter.new.self) c.deref_mut-held.ensures.value c.enter.ensures.enters) fs cause node (shown ∙ sym c.unshown_by.ensures)
