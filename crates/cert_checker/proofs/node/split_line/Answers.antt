use Rattle.std.proofs.Common.{◌≡◌, List, ap, subst, sym, refl, ◌∙◌}
use Rattle.std.proofs.lemmas.Bool.{both_ways}
use Rattle.std.specs.Box.{with_value}
use Rattle.crew_terms.specs.declared.Choice.{Choice}
use Rattle.dossier_terms.specs.declared.DossierForm.{DossierForm}
use Rattle.dossier_terms.specs.declared.DossierForm.TheVariants.{One, Two}
use Rattle.dossier_terms.specs.Causes.{NoCause}
use Rattle.dossier_terms.specs.Reading.{Reading, Whys, split_done, choice_done, Above, More as Goes, No as Refuses}
use Rattle.dossier_terms.specs.NodeTable.{after_split}
use Rattle.crew_terms.specs.Tree.{CanSplit}
use Rattle.node_limits.specs.Rest.{trail_over}
use Rattle.cert_checker.specs.Due.{Awaits, HasSplitLeft, IsAtNode, MaySplit, draft_of, split_site}
use Rattle.cert_checker.specs.declared.due.BegunDossier.{BegunDossier}
use Rattle.cert_checker.specs.declared.due.TreeDraft.{TreeDraft}
use Rattle.cert_checker.proofs.NodeRows.{limits_at, taken_woke, room_above, room_at, split_no_room, split_refused, split_more}
use Rattle.cert_checker.proofs.LeafRows.{stays, rested, rested_back}
use Rattle.cert_checker.proofs.node.split_line.Goals as goal
use Rattle.cert_checker.proofs.node.split_line.Goals.{After-rest}

pub returns-then-not-has_split_room : goal.returns-then-not-has_split_room
returns-then-not-has_split_room c = λ fs node.
    let tree = c.args.tree.value in
    split_no_room (draft_of tree.draft.value) tree.claimed fs c.args.choice
    (λ room. both_ways c.has_split_room.result c.if-not-has_split_room.true (c.has_split_room.ensures.1 (subst HasSplitLeft (sym c.deref.ensures) (room_above tree fs node room))))

pub returns-then-not-can_split : goal.returns-then-not-can_split
returns-then-not-can_split c = λ fs node.
    let tree = c.args.tree.value in
    let woke = taken_woke tree c.deref_mut.result.now c.deref_mut-draft.result.now c.take.result c.wake-limits.result c.deref_mut.ensures.value c.deref_mut-draft.ensures.value c.take.ensures.taken c.wake-limits.ensures in
    let n = c.wake-limits.result.limits in
    subst (λ r. after_split (draft_of tree.draft.value) tree.claimed fs c.args.choice (Refuses r)) (sym c.split_fault.ensures)
    (split_refused (draft_of tree.draft.value) tree.claimed fs c.args.choice n (limits_at tree c.wake-limits.result fs woke node)
    (room_at tree fs node (subst HasSplitLeft c.deref.ensures (c.has_split_room.ensures.0 c.if-not-has_split_room.false)))
    (λ is. both_ways c.can_split.result c.if-not-can_split.true (c.can_split.ensures.1 is)))

-- the limits that woke are those of the tree
woke : (c : After-rest) → c.wake-limits.result ≡ trail_over c.args.tree.value.draft.value.base.instance c.args.tree.value.draft.value.limits
woke c = taken_woke c.args.tree.value c.deref_mut.result.now c.deref_mut-draft.result.now c.take.result c.wake-limits.result
    c.deref_mut.ensures.value c.deref_mut-draft.ensures.value c.take.ensures.taken c.wake-limits.ensures

-- the tree that is written back, with its limits at rest again
abbrev written : After-rest → TreeDraft
written c = record c.deref_mut.result.now { draft = with_value c.deref_mut.result.now.draft (record c.deref_mut-draft.result.now { limits = c.rest.result }) }

written_is : (c : After-rest) → written c ≡ rested c.args.tree.value c.rest.result
written_is c = rested_back c.args.tree.value c.deref_mut.result.now c.deref_mut-draft.result.now c.rest.result c.deref_mut.ensures.value c.deref_mut-draft.ensures.value

-- the node may be split, also with the limits at rest
may : (c : After-rest) (fs : List Above) → IsAtNode c.args.tree.value fs → MaySplit (rested c.args.tree.value c.rest.result) c.args.choice fs
may c fs node =
    let tree = c.args.tree.value in
    let room = subst HasSplitLeft c.deref.ensures (c.has_split_room.ensures.0 c.if-not-has_split_room.false) in
    record {
      node = stays tree c.wake-limits.result c.rest.result (woke c) c.rest.ensures.same c.rest.ensures.over fs node;
      room = record { splits = room.splits; depth = room.depth };
      split = subst (λ n. CanSplit n c.args.choice) (limits_at tree c.wake-limits.result fs (woke c) node) (c.can_split.ensures.0 c.if-not-can_split.false);
    }

pub first_child-requires : goal.first_child-requires
first_child-requires d =
    let c = (goal.at.first_child-requires d).After-rest in
    let at = c.requires.node in
    (at.0, subst (λ (t : TreeDraft). MaySplit t c.args.choice at.0) (sym (written_is c)) (may c at.0 at.1))

-- the form is that of the dossier
form_is : (c : After-rest) (f : DossierForm) → c.deref_mut-draft.result.now.base.form ≡ f → c.args.tree.value.draft.value.base.form ≡ f
form_is c f e = sym (ap (λ (b : BegunDossier). b.base.form) (c.deref_mut-draft.ensures.value ∙ ap (λ (t : TreeDraft). t.draft.value) c.deref_mut.ensures.value)) ∙ e

-- what is said where this is due next
goes_on : (c : After-rest) (fs : List Above) (next : Reading) → IsAtNode c.args.tree.value fs
    → choice_done c.args.tree.value.draft.value.base.form (draft_of c.args.tree.value.draft.value) c.args.tree.value.claimed fs c.args.choice ≡ next
    → after_split (draft_of c.args.tree.value.draft.value) c.args.tree.value.claimed fs c.args.choice (Goes next)
goes_on c fs next node is =
    let tree = c.args.tree.value in
    let n = c.wake-limits.result in
    let room = room_at tree fs node (subst HasSplitLeft c.deref.ensures (c.has_split_room.ensures.0 c.if-not-has_split_room.false)) in
    split_more (draft_of tree.draft.value) tree.claimed fs c.args.choice n.limits next (limits_at tree n fs (woke c) node) room (c.can_split.ensures.0 c.if-not-can_split.false) is

pub returns-in-One : goal.returns-in-One
returns-in-One d = λ fs node.
    let c = (goal.at.returns-in-One d).After-rest in
    let tree = c.args.tree.value in
    let b = draft_of tree.draft.value in
    let next = split_done b tree.claimed fs (record { choice = c.args.choice; cause = NoCause }) in
    let here = subst (λ (t : TreeDraft). IsAtNode t fs) (sym (written_is c)) (may c fs node).node in (
      next,
      goes_on c fs next node (ap (λ f. choice_done f b tree.claimed fs c.args.choice) (form_is c One d.in-One.is)),
      subst (λ (t : TreeDraft). Awaits d.first_child.result (split_done (draft_of t.draft.value) t.claimed fs (record { choice = c.args.choice; cause = NoCause }))) (written_is c)
          (d.first_child.ensures fs NoCause here refl),
    )

-- the line `why` of this node is due
abbrev IsWhyDue : Choice → List Above → Reading → TreeDraft → Type 0
IsWhyDue choice fs next t = (above : List Above) × MaySplit t choice above × (next ≡ Whys (split_site t above choice))

pub returns-in-Two : goal.returns-in-Two
returns-in-Two d = λ fs node.
    let c = (goal.at.returns-in-Two d).After-rest in
    let tree = c.args.tree.value in
    let b = draft_of tree.draft.value in
    let next = Whys (split_site tree fs c.args.choice) in (
      next,
      goes_on c fs next node (ap (λ f. choice_done f b tree.claimed fs c.args.choice) (form_is c Two d.in-Two.is)),
      subst (IsWhyDue c.args.choice fs next) (sym (written_is c)) (fs, may c fs node, refl),
    )
