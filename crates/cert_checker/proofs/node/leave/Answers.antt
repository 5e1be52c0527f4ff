use Rattle.std.proofs.Common.{◌+◌, length, ap, ◌∙◌, subst, true, false}
use Rattle.std.specs.Box.{with_value}
use Rattle.tree_walk.specs.Way.{LeavesLeaf}
use Rattle.cert_checker.specs.declared.due.TreeDraft.{TreeDraft}
use Rattle.cert_checker.proofs.NodeRows.{left_at, ended_at, moved, taken_woke, written_back}
use Rattle.cert_checker.proofs.node.leave.Goals as goal

pub returns-then-not-is_whole : goal.returns-then-not-is_whole
returns-then-not-is_whole c =
    let tree = c.args.tree.value in
    let held = c.deref_mut-held.result.now in
    let draft = c.deref_mut-draft.result.now in
    let woke = taken_woke tree held draft c.take.result c.wake-limits.result c.deref_mut-held.ensures.value c.deref_mut-draft.ensures.value c.take.ensures.taken c.wake-limits.ensures in
    left_at tree c.wake-limits.result c.leave-is_whole.new.limits c.leave-is_whole.new.self c.rest.result
    woke c.leave-is_whole.ensures.instance c.rest.ensures.same c.rest.ensures.over
    (c.leave-is_whole.ensures.depth ∙ ap (λ (x : TreeDraft). x.walk.depth) c.deref_mut-held.ensures.value)
    (c.leave-is_whole.ensures.spare ∙ ap (λ (x : TreeDraft). c.wake-limits.result.spare + length x.walk.above) c.deref_mut-held.ensures.value)
    held.unshown
    (with_value c.args.tree (record held { draft = with_value held.draft (record draft { limits = c.rest.result }); walk = c.leave-is_whole.new.self }))
    (written_back tree held draft c.rest.result c.leave-is_whole.new.self held.unshown c.deref_mut-held.ensures.value c.deref_mut-draft.ensures.value)
    (ap (λ (x : TreeDraft). x.unshown) c.deref_mut-held.ensures.value)
    c.args.is_closed
    (subst (λ (x : TreeDraft). LeavesLeaf c.args.is_closed c.wake-limits.result x.walk c.leave-is_whole.new.limits c.leave-is_whole.new.self false) c.deref_mut-held.ensures.value c.if-not-is_whole.ensures.leaves)

pub returns : goal.returns
returns c =
    let tree = c.args.tree.value in
    let held = c.deref_mut-held.result.now in
    let draft = c.deref_mut-draft.result.now in
    let woke = taken_woke tree held draft c.take.result c.wake-limits.result c.deref_mut-held.ensures.value c.deref_mut-draft.ensures.value c.take.ensures.taken c.wake-limits.ensures in
    ended_at tree c.wake-limits.result c.leave-is_whole.new.limits c.leave-is_whole.new.self c.rest.result
    (with_value c.args.tree (record held { draft = with_value held.draft (record draft { limits = c.rest.result }); walk = c.leave-is_whole.new.self }))
    c.seen-seen.result c.args.is_closed
    woke c.rest.ensures.same c.rest.ensures.over (subst (λ (x : TreeDraft). LeavesLeaf c.args.is_closed c.wake-limits.result x.walk c.leave-is_whole.new.limits c.leave-is_whole.new.self true) c.deref_mut-held.ensures.value c.if-not-is_whole.ensures.leaves)
    (written_back tree held draft c.rest.result c.leave-is_whole.new.self held.unshown c.deref_mut-held.ensures.value c.deref_mut-draft.ensures.value
    ∙ ap (λ (x : TreeDraft). moved tree c.rest.result c.leave-is_whole.new.self x.unshown) c.deref_mut-held.ensures.value)
    c.seen-seen.ensures
