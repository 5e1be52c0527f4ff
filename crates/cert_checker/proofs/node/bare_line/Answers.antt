use Rattle.std.proofs.Common.{◌≤◌, ◌<◌, ◌∙◌, ap, refl, subst, sym}
use Rattle.std.proofs.lemmas.Bool.{both_ways}
use Rattle.std.specs.Prelude.{false}
use Rattle.crew_terms.specs.Branches.{LeafNode, Bare}
use Rattle.dossier_terms.specs.Reading.{node_done}
use Rattle.cert_checker.specs.Due.{HasLeafRoom, draft_of}
use Rattle.cert_checker.specs.declared.due.BegunDossier.{BegunDossier}
use Rattle.cert_checker.specs.declared.due.TreeDraft.{TreeDraft}
use Rattle.cert_checker.proofs.NodeRows.{leaf_room_above, leaf_room_at, bare_no_room, bare_high, bare_more}
use Rattle.cert_checker.proofs.node.bare_line.Goals as goal

pub returns-then-not-has_leaf_room : goal.returns-then-not-has_leaf_room
returns-then-not-has_leaf_room c = λ fs node.
    let tree = c.args.tree.value in
    bare_no_room (draft_of tree.draft.value) tree.claimed fs
    (λ room. both_ways c.has_leaf_room.result c.if-not-has_leaf_room.true (c.has_leaf_room.ensures.1 (subst (λ (t : TreeDraft). HasLeafRoom t false) (sym c.deref.ensures) (leaf_room_above tree false fs node room))))

pub returns-then-deref-gt0 : goal.returns-then-deref-gt0
returns-then-deref-gt0 c = λ fs node.
    let tree = c.args.tree.value in
    bare_high (draft_of tree.draft.value) tree.claimed fs
    (leaf_room_at tree false fs node (subst (λ (t : TreeDraft). HasLeafRoom t false) c.deref.ensures (c.has_leaf_room.ensures.0 c.if-not-has_leaf_room.false))) (subst (λ (d : BegunDossier). 0 < d.bound) (c.deref-3.ensures ∙ ap (λ (t : TreeDraft). t.draft.value) c.deref-2.ensures) c.if-deref-gt0.true)

pub returns : goal.returns
returns c = λ fs node.
    let tree = c.args.tree.value in
    let b = draft_of tree.draft.value in (
      node_done b tree.claimed fs (LeafNode Bare),
      bare_more b tree.claimed fs (leaf_room_at tree false fs node (subst (λ (t : TreeDraft). HasLeafRoom t false) c.deref.ensures (c.has_leaf_room.ensures.0 c.if-not-has_leaf_room.false))) (subst (λ (d : BegunDossier). d.bound ≤ 0) (c.deref-3.ensures ∙ ap (λ (t : TreeDraft). t.draft.value) c.deref-2.ensures) c.if-deref-gt0.false),
      c.leave.ensures fs Bare node refl,
    )
