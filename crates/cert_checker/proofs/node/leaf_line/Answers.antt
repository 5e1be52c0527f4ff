use Rattle.std.proofs.Common.{◌≡◌, refl, subst, sym, ◌∙◌}
use Rattle.std.proofs.lemmas.Bool.{both_ways}
use Rattle.crew_terms.specs.Limits.{root_limits}
use Rattle.dossier_terms.specs.Counted.{instance_below}
use Rattle.dossier_terms.specs.Reading.{Prices, limits_of}
use Rattle.leaf_check.specs.Reader.{IsReady}
use Rattle.cert_checker.specs.Due.{HasLeafRoom, IsInLeaf, draft_of, site_of}
use Rattle.cert_checker.specs.declared.due.TreeDraft.{TreeDraft}
use Rattle.cert_checker.proofs.NodeRows.{leaf_room_above, leaf_room_at, leaf_no_room, leaf_more}
use Rattle.cert_checker.proofs.LeafRows.{with_reader}
use Rattle.cert_checker.proofs.node.leaf_line.Goals as goal

pub returns-then-not-has_leaf_room : goal.returns-then-not-has_leaf_room
returns-then-not-has_leaf_room c = λ fs node.
    let tree = c.args.tree.value in
    leaf_no_room (draft_of tree.draft.value) tree.claimed fs c.args.is_closed
    (λ room. both_ways c.has_leaf_room.result c.if-not-has_leaf_room.true
    (c.has_leaf_room.ensures.1 (subst (λ (t : TreeDraft). HasLeafRoom t c.args.is_closed) (sym c.deref.ensures) (leaf_room_above tree c.args.is_closed fs node room))))

pub returns : goal.returns
returns c = λ fs node.
    let tree = c.args.tree.value in
    let place = site_of tree fs c.args.is_closed in
    let room = subst (λ (x : TreeDraft). HasLeafRoom x c.args.is_closed) c.deref.ensures (c.has_leaf_room.ensures.0 c.if-not-has_leaf_room.false) in
    let held = c.deref_mut-held.result.now in
    let same : held ≡ tree = c.deref_mut-held.ensures.value in
    let had = node.reader in
    let old : IsReady had.0 held.reader = subst (λ (t : TreeDraft). IsReady had.0 t.reader) (sym same) had.2 in
    let reader = c.begin.new.self in
    let here = with_reader tree reader fs node (had.0, had.1, c.begin.ensures.ready had.0 had.0 refl old) in
    let leaf : IsInLeaf (record tree { reader = reader }) c.args.is_closed fs (Prices place) = record {
      node = here;
      ready = c.begin.ensures.ready had.0 (limits_of place) (instance_below (root_limits tree.draft.value.base.instance) fs ∙ sym had.1) old;
      room = room;
      stands = c.begin.ensures.stands place;
    } in (
      Prices place,
      leaf_more (draft_of tree.draft.value) tree.claimed fs c.args.is_closed (leaf_room_at tree c.args.is_closed fs node room),
      (fs, subst (λ (t : TreeDraft). IsInLeaf (record t { reader = reader }) c.args.is_closed fs (Prices place)) (sym same) leaf),
    )
