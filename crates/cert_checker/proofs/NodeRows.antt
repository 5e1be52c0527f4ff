-- where a walk stands behind a line of a node, and the rows of the table for these lines
use Rattle.std.proofs.Common.{◌≡◌, ◌≤◌, ◌<◌, ◌+◌, ℕ, List, [], ◌∷◌, length, Bool, true, false, ap, subst, sym, refl, ◌∙◌, arith}
use Rattle.std.specs.Prelude.{if◌then◌else◌, codes, Result}
use Rattle.std.specs.Global.{Box}
use Rattle.std.specs.Box.{with_value}
use Rattle.std.proofs.lemmas.List.{length-map}
use Rattle.crew_terms.specs.Words.{Words}
use Rattle.crew_terms.specs.Limits.{Limits, root_limits}
use Rattle.dossier_terms.specs.declared.Reason.{Reason}
use Rattle.dossier_terms.specs.declared.Reason.TheVariants as reasons
use Rattle.dossier_terms.specs.Causes.{Cause, unshown_in}
use Rattle.dossier_terms.specs.Counted.{unshown_fits, unshown_le}
use Rattle.dossier_terms.specs.Dossier.{Leaf, Written, unshown}
use Rattle.crew_terms.specs.Branches.{LeafNode, SplitNode, Claim, Bare, InFirst, InSecond, splits, closed, left_open, frame_sum}
use Rattle.dossier_terms.specs.Lines.{window_line, pair_line, bare_line, open_line, closed_line}
use Rattle.dossier_terms.specs.Reading.{Reading, Answer, More as Goes, No as Refuses, Nodes, Ends, Prices, node_done, split_done, choice_done, limits_below, Begun, Above}
use Rattle.crew_terms.specs.declared.TreeCounts.{TreeCounts}
use Rattle.crew_terms.specs.Tree.{CanSplit}
use Rattle.crew_terms.specs.declared.Choice.{Choice}
use Rattle.crew_terms.specs.declared.Choice.TheVariants as choices
use Rattle.crew_terms.specs.declared.TheConstants.{LAST_MINUTE}
use Rattle.dossier_terms.specs.Rules.{Holds, Fails, Spelled, Then, Else, On, Begins}
use Rattle.dossier_terms.specs.Table.{Says}
use Rattle.dossier_terms.specs.NodeTable.{node_row, after_bare, after_leaf, HasSplitRoom, after_split, split_fault}
use Rattle.dossier_terms.specs.Apart.{not_both, pair_not_window}
use Rattle.node_limits.specs.Trail.{Trail}
use Rattle.node_limits.specs.Rest.{Rest, IsRestOver, trail_over}
use Rattle.tree_walk.specs.Way.{Walked, IsAt, IsLeaf, LeavesLeaf, Enters, branch_of}
use Rattle.cert_checker.specs.Due.{Awaits, HasLeafRoom, HasSplitLeft, IsAtNode, IsStep, IsTreeOver, Tells, draft_of, unshown_above}
use Rattle.cert_checker.specs.declared.due.BegunDossier.{BegunDossier as Held}
use Rattle.cert_checker.specs.declared.due.TreeDraft.{TreeDraft}
use Rattle.cert_checker.specs.declared.due.Due.TheVariants.{Node as NodeDue, End as EndDue}
use Rattle.cert_checker.specs.declared.due.Step.{Step}
use Rattle.cert_checker.proofs.PoolRows.{rest_is_root}
use Rattle.cert_checker.proofs.Steps.{tells_row}

-- ---- where a walk stands

-- the tree where the walk went on and the limits with it, and so many splits have no cause that is shown
abbrev pub moved : TreeDraft → Rest → Walked → ℕ → TreeDraft
moved tree rest to unshown = record tree { draft = with_value tree.draft (record tree.draft.value { limits = rest }); walk = to; unshown = unshown }

-- it is what is written back into its box and that of its draft
pub written_back : (tree held : TreeDraft) (draft : Held) (rest : Rest) (to : Walked) (unshown : ℕ) → held ≡ tree → draft ≡ held.draft.value
    → ◌≡◌ {A = TreeDraft} (record held { draft = with_value held.draft (record draft { limits = rest }); walk = to; unshown = unshown }) (moved tree rest to unshown)
written_back tree held draft rest to unshown e f =
    ap (λ (d : Held). with_draft held d) f ∙ ap (λ (t : TreeDraft). moved t rest to unshown) e
  where
    with_draft : TreeDraft → Held → TreeDraft
    with_draft t d = record t { draft = with_value t.draft (record d { limits = rest }); walk = to; unshown = unshown }

-- ---- of how many splits no cause is shown

-- of no more than there are
pub unshown_few : (fs : List Above) → unshown_above fs ≤ frame_sum splits 1 fs
unshown_few [] = omega arith
unshown_few (InFirst split ∷ fs) = let a = unshown_le split.cause in let b = unshown_few fs in omega arith
unshown_few (InSecond split first ∷ fs) = let a = unshown_le split.cause in let b = unshown_few fs in let c = unshown_fits first in omega arith

-- behind a whole node they are those above it and its own
nodes_keep : (b : Begun) (c : TreeCounts) (fs : List Above) (t : Written) (gs : List Above) → node_done b c fs t ≡ Nodes b c gs → unshown_above gs ≡ unshown_above fs + unshown t
nodes_keep b c [] t gs is = absurd (cc)
nodes_keep b c (InFirst split ∷ above) t gs is =
    let e : ◌≡◌ {A = List Above} (InSecond split t ∷ above) gs = cc in
    subst (λ (g : List Above). unshown_above g ≡ unshown_in split.cause + unshown_above above + unshown t) e (omega arith)
nodes_keep b c (InSecond split first ∷ above) t gs is = let h = nodes_keep b c above (SplitNode split first t) gs is in omega arith

ends_keep : (b : Begun) (c : TreeCounts) (fs : List Above) (t w : Written) → node_done b c fs t ≡ Ends b c w → unshown w ≡ unshown_above fs + unshown t
ends_keep b c [] t w is = let e : ◌≡◌ {A = Written} t w = cc in subst (λ (x : Written). unshown x ≡ 0 + unshown t) e (omega arith)
ends_keep b c (InFirst split ∷ above) t w is = absurd (cc)
ends_keep b c (InSecond split first ∷ above) t w is = let h = ends_keep b c above (SplitNode split first t) w is in omega arith

-- limits that were taken out of the draft woke
pub taken_woke : (tree held : TreeDraft) (draft : Held) (taken : Rest) (t : Trail) → held ≡ tree → draft ≡ held.draft.value → taken ≡ draft.limits
    → t ≡ trail_over draft.base.instance taken → t ≡ trail_over tree.draft.value.base.instance tree.draft.value.limits
taken_woke tree held draft taken t e f took woke =
    woke ∙ ap (trail_over draft.base.instance) took ∙ ap (λ (d : Held). trail_over d.base.instance d.limits) (f ∙ ap (λ (x : TreeDraft). x.draft.value) e)

-- a node of the tree is due, and this is the state of the table
abbrev pub IsDueAt : TreeDraft → Reading → Type 0
IsDueAt tree r = (above : List Above) × IsAtNode tree above × (r ≡ Nodes (draft_of tree.draft.value) tree.claimed above)

module _ (tree : TreeDraft) (old new : Trail) (to : Walked) (rest : Rest)
    (woke : old ≡ trail_over tree.draft.value.base.instance tree.draft.value.limits) (same : new.limits.instance ≡ old.limits.instance)
    (back : trail_over new.limits.instance rest ≡ new) (over : IsRestOver new.limits.instance rest)
    (depth : to.depth ≡ tree.walk.depth) (room : new.spare + length to.above ≡ old.spare + length tree.walk.above) (unshown : ℕ) where
  of_instance : new.limits.instance ≡ tree.draft.value.base.instance
  of_instance = same ∙ ap (λ (t : Trail). t.limits.instance) woke

  -- the limits at rest are those of the node where the walk stands
  pub at_node : (fs gs : List Above) → IsAtNode tree fs → IsAt (root_limits tree.draft.value.base.instance) new to gs → unshown ≡ unshown_above gs → IsAtNode (moved tree rest to unshown) gs
  at_node fs gs node at counted =
      let i = tree.draft.value.base.instance in
      let rested : rest.spare ≡ new.spare = ap (λ (t : Trail). t.spare) back in
      let had : old.spare ≡ tree.draft.value.limits.spare = ap (λ (t : Trail). t.spare) woke in
      let enough = node.spare in
      record {
        claimed = node.claimed;
        depth = depth ∙ node.depth;
        spare = omega arith;
        unshown = counted;
        unassigned = node.unassigned;
        reader = node.reader;
        sums = node.sums;
        over = subst (λ x. IsRestOver x rest) of_instance over;
        at = subst (λ t. IsAt (root_limits i) t to gs) (sym (subst (λ x. trail_over x rest ≡ new) of_instance back)) at;
      }

  woken : (fs : List Above) → IsAtNode tree fs → IsAt (root_limits tree.draft.value.base.instance) old tree.walk fs
  woken fs node = subst (λ t. IsAt (root_limits tree.draft.value.base.instance) t tree.walk fs) (sym woke) node.at

  -- past a leaf the walk stands at the node that is due
  pub left_at : (box : Box TreeDraft) → box.value ≡ moved tree rest to unshown → unshown ≡ tree.unshown → (is_closed : Bool) → LeavesLeaf is_closed old tree.walk new to false
      → (fs : List Above) (claim : Claim Leaf) → IsAtNode tree fs → IsLeaf is_closed claim
      → Awaits (NodeDue box) (node_done (draft_of tree.draft.value) tree.claimed fs (LeafNode claim))
  left_at box is same_unshown is_closed leaves fs claim node kind =
      let p = leaves (root_limits tree.draft.value.base.instance) fs claim (draft_of tree.draft.value) tree.claimed (woken fs node) kind in
      let kept : unshown_above p.0 ≡ unshown_above fs + 0 = nodes_keep (draft_of tree.draft.value) tree.claimed fs (LeafNode claim) p.0 p.1 in
      let had = node.unshown in
      subst (λ t. IsDueAt t (node_done (draft_of tree.draft.value) tree.claimed fs (LeafNode claim))) (sym is) (p.0, at_node fs p.0 node p.2 (omega arith), p.1)

  -- below a split the walk stands in its first child
  pub entered_at : (box : Box TreeDraft) → box.value ≡ moved tree rest to unshown → (more : ℕ) → unshown ≡ tree.unshown + more → (choice : Choice) → Enters choice old tree.walk new to
      → (fs : List Above) (cause : Cause) → IsAtNode tree fs → unshown_in cause ≡ more
      → Awaits (NodeDue box) (split_done (draft_of tree.draft.value) tree.claimed fs (record { choice = choice; cause = cause }))
  entered_at box is more grown choice enters fs cause node of_cause =
      let had = node.unshown in
      let gs = InFirst (record { choice = choice; cause = cause }) ∷ fs in
      subst (λ t. IsDueAt t (Nodes (draft_of tree.draft.value) tree.claimed gs)) (sym is)
      (gs, at_node fs gs node (enters (root_limits tree.draft.value.base.instance) fs cause (woken fs node)) (omega arith), refl)

-- past the last leaf the whole tree is seen
pub ended_at : (tree : TreeDraft) (old new : Trail) (to : Walked) (rest : Rest) (box : Box TreeDraft) (seen : TreeCounts) (is_closed : Bool)
    → old ≡ trail_over tree.draft.value.base.instance tree.draft.value.limits → trail_over new.limits.instance rest ≡ new → IsRestOver new.limits.instance rest → LeavesLeaf is_closed old tree.walk new to true
    → box.value ≡ moved tree rest to tree.unshown → seen ≡ to.seen
    → (fs : List Above) (claim : Claim Leaf) → IsAtNode tree fs → IsLeaf is_closed claim
    → Awaits (EndDue box seen) (node_done (draft_of tree.draft.value) tree.claimed fs (LeafNode claim))
ended_at tree old new to rest box seen is_closed woke back over leaves is saw fs claim node kind =
    let at : IsAt (root_limits tree.draft.value.base.instance) old tree.walk fs = subst (λ t. IsAt (root_limits tree.draft.value.base.instance) t tree.walk fs) (sym woke) node.at in
    let p = leaves (root_limits tree.draft.value.base.instance) fs claim (draft_of tree.draft.value) tree.claimed at kind in
    let kept : unshown p.0 ≡ unshown_above fs + 0 = ends_keep (draft_of tree.draft.value) tree.claimed fs (LeafNode claim) p.0 p.1 in
    let had = node.unshown in
    let same : tree.unshown ≡ unshown p.0 = omega arith in
    let i = tree.draft.value.base.instance in
    let of_root = rest_is_root i new rest p.2.limits p.2.past back over in
    let room : IsTreeOver box.value true = subst (λ (t : TreeDraft). IsTreeOver t true) (sym is)
    (record { room = record { leaves = node.reader; shares = node.sums }; root = λ _. of_root }) in
    (p.0, saw ∙ p.2.seen, ap (λ (t : TreeDraft). t.unshown) is ∙ same, p.1 ∙ ap (λ (t : TreeDraft). Ends (draft_of t.draft.value) t.claimed p.0) (sym is), room)

-- the limits that woke are those of the node
pub limits_at : (tree : TreeDraft) (t : Trail) (fs : List Above) → t ≡ trail_over tree.draft.value.base.instance tree.draft.value.limits → IsAtNode tree fs
    → t.limits ≡ limits_below (root_limits tree.draft.value.base.instance) fs
limits_at tree t fs woke node = ap (λ (x : Trail). x.limits) woke ∙ node.at.way.limits

-- ---- room

level_at : (tree : TreeDraft) (fs : List Above) → IsAtNode tree fs → length tree.walk.above ≡ length fs
level_at tree fs node = ap length node.at.way.kept ∙ length-map fs branch_of

pub room_at : (tree : TreeDraft) (fs : List Above) → IsAtNode tree fs → HasSplitLeft tree → HasSplitRoom tree.claimed fs
room_at tree fs node room = (
  subst (λ s. s < tree.claimed.splits) (ap (λ (c : TreeCounts). c.splits) node.at.seen) room.splits,
  subst (λ s. s < tree.claimed.depth) (level_at tree fs node) room.depth,
)

pub room_above : (tree : TreeDraft) (fs : List Above) → IsAtNode tree fs → HasSplitRoom tree.claimed fs → HasSplitLeft tree
room_above tree fs node room = record {
  splits = subst (λ s. s < tree.claimed.splits) (sym (ap (λ (c : TreeCounts). c.splits) node.at.seen)) room.0;
  depth = subst (λ s. s < tree.claimed.depth) (sym (level_at tree fs node)) room.1;
}

-- the numbers that a line `leaf` is judged by
abbrev HasLeafRoomIn : TreeCounts → List Above → Bool → Type 0
HasLeafRoomIn c fs is_closed = (if is_closed then frame_sum closed 0 fs else frame_sum left_open 0 fs) < (if is_closed then c.closed else c.left_open)

pub leaf_room_at : (tree : TreeDraft) (is_closed : Bool) (fs : List Above) → IsAtNode tree fs → HasLeafRoom tree is_closed → HasLeafRoomIn tree.claimed fs is_closed
leaf_room_at tree true fs node room = subst (λ s. s < tree.claimed.closed) (ap (λ (c : TreeCounts). c.closed) node.at.seen) room
leaf_room_at tree false fs node room = subst (λ s. s < tree.claimed.left_open) (ap (λ (c : TreeCounts). c.left_open) node.at.seen) room

pub leaf_room_above : (tree : TreeDraft) (is_closed : Bool) (fs : List Above) → IsAtNode tree fs → HasLeafRoomIn tree.claimed fs is_closed → HasLeafRoom tree is_closed
leaf_room_above tree true fs node room = subst (λ s. s < tree.claimed.closed) (sym (ap (λ (c : TreeCounts). c.closed) node.at.seen)) room
leaf_room_above tree false fs node room = subst (λ s. s < tree.claimed.left_open) (sym (ap (λ (c : TreeCounts). c.left_open) node.at.seen)) room

-- ---- the rules behind the words of a line

module _ (b : Begun) (c : TreeCounts) (fs : List Above) where
  pub split_no_room : (choice : Choice) → (HasSplitRoom c fs → ⊥) → after_split b c fs choice (Refuses reasons.Count)
  split_no_room choice broken = Fails broken refl

  pub split_refused : (choice : Choice) (n : Limits) → n ≡ limits_below (root_limits b.instance) fs → HasSplitRoom c fs → (CanSplit n choice → ⊥)
      → after_split b c fs choice (Refuses (split_fault choice))
  split_refused choice n same room broken = Holds room (Fails (subst (λ m. CanSplit m choice → ⊥) same broken) refl)

  pub split_more : (choice : Choice) (n : Limits) (next : Reading) → n ≡ limits_below (root_limits b.instance) fs → HasSplitRoom c fs → CanSplit n choice → choice_done b.form b c fs choice ≡ next
      → after_split b c fs choice (Goes next)
  split_more choice n next same room can is = Holds room (Holds (subst (λ m. CanSplit m choice) same can) (On (ap Goes (sym is))))

  pub bare_no_room : (HasLeafRoomIn c fs false → ⊥) → after_bare b c fs (Refuses reasons.Count)
  bare_no_room broken = Fails broken refl

  pub bare_high : HasLeafRoomIn c fs false → 0 < b.bound → after_bare b c fs (Refuses reasons.Bound)
  bare_high room high = Holds room (Fails (λ e. absurd (omega arith)) refl)

  pub bare_more : HasLeafRoomIn c fs false → b.bound ≤ 0 → after_bare b c fs (Goes (node_done b c fs (LeafNode Bare)))
  bare_more room low = Holds room (Holds (omega arith) (On refl))

  pub leaf_no_room : (is_closed : Bool) → (HasLeafRoomIn c fs is_closed → ⊥) → after_leaf b c fs is_closed (Refuses reasons.Count)
  leaf_no_room is_closed broken = Fails broken refl

  pub leaf_more : (is_closed : Bool) → HasLeafRoomIn c fs is_closed
      → after_leaf b c fs is_closed (Goes (Prices (record { begun = b; counts = c; above = fs; is_closed = is_closed })))
  leaf_more is_closed room = Holds room (On refl)

-- ---- the rows of the table

leaf_not_window : codes "leaf" ≡ codes "window" → ⊥
leaf_not_window e = let f : ◌≡◌ {A = ℕ} 108 119 = cc in absurd (omega arith)

leaf_not_pair : codes "leaf" ≡ codes "pair" → ⊥
leaf_not_pair e = let f : ◌≡◌ {A = ℕ} 108 112 = cc in absurd (omega arith)

bare_not_open : bare_line ≡ open_line → ⊥
bare_not_open e = let f : ◌≡◌ {A = ℕ} 98 111 = cc in absurd (omega arith)

bare_not_closed : bare_line ≡ closed_line → ⊥
bare_not_closed e = let f : ◌≡◌ {A = ℕ} 98 99 = cc in absurd (omega arith)

open_not_closed : open_line ≡ closed_line → ⊥
open_not_closed e = let f : ◌≡◌ {A = ℕ} 111 99 = cc in absurd (omega arith)

-- a leaf line is judged as such
leaf_says : (b : Begun) (c : TreeCounts) (fs : List Above) (ws : Words) (said : Answer) (rest : Words) → ws ≡ codes "leaf" ∷ rest
    → ((Begins (codes "window") ws → ⊥) → (Begins (codes "pair") ws → ⊥) → node_row b c fs ws said) → node_row b c fs ws said
leaf_says b c fs ws said rest is row = row (not_both (codes "leaf") (codes "window") ws leaf_not_window (rest, is)) (not_both (codes "leaf") (codes "pair") ws leaf_not_pair (rest, is))

pub window_says : (b : Begun) (c : TreeCounts) (fs : List Above) (j cut : ℕ) (ws : Words) (said : Answer) → j < length b.instance.tasks → cut ≤ LAST_MINUTE → ws ≡ window_line j cut
    → after_split b c fs (choices.Window j cut) said → node_row b c fs ws said
window_says b c fs j cut ws said task day is rest = Then (_, is) (Holds (_, is, refl) (Spelled (j, cut) (task, day) is rest))

pub pair_says : (b : Begun) (c : TreeCounts) (fs : List Above) (k j : ℕ) (ws : Words) (said : Answer) → k < length b.instance.teams → j < length b.instance.tasks → ws ≡ pair_line k j
    → after_split b c fs (choices.Pair k j) said → node_row b c fs ws said
pair_says b c fs k j ws said team task is rest = Else (not_both (codes "pair") (codes "window") ws pair_not_window (_, is))
    (Then (_, is) (Holds (_, is, refl) (Spelled (k, j) (team, task) is rest)))

pub bare_says : (b : Begun) (c : TreeCounts) (fs : List Above) (ws : Words) (said : Answer) → ws ≡ bare_line → after_bare b c fs said → node_row b c fs ws said
bare_says b c fs ws said is rest = leaf_says b c fs ws said _ is (λ w p. Else w (Else p (Holds (_, is, refl) (Then is rest))))

pub open_says : (b : Begun) (c : TreeCounts) (fs : List Above) (ws : Words) (said : Answer) → ws ≡ open_line → after_leaf b c fs false said → node_row b c fs ws said
open_says b c fs ws said is rest = leaf_says b c fs ws said _ is (λ w p. Else w (Else p (Holds (_, is, refl)
    (Else (λ e. bare_not_open (sym e ∙ is)) (Then is rest)))))

pub closed_says : (b : Begun) (c : TreeCounts) (fs : List Above) (ws : Words) (said : Answer) → ws ≡ closed_line → after_leaf b c fs true said → node_row b c fs ws said
closed_says b c fs ws said is rest = leaf_says b c fs ws said _ is (λ w p. Else w (Else p (Holds (_, is, refl)
    (Else (λ e. bare_not_closed (sym e ∙ is)) (Else (λ e. open_not_closed (sym e ∙ is)) (Holds is rest))))))

-- ---- the step of a line of a node

-- a node is due, and the step is what its row says
pub node_step : (tree : Box TreeDraft) (ws : Words) (step : Result Step Reason)
    → ((fs : List Above) → IsAtNode tree.value fs → Tells (node_row (draft_of tree.value.draft.value) tree.value.claimed fs ws) step) → IsStep (NodeDue tree) ws step
node_step tree ws step f = λ reading awaited. subst (λ r. Tells (Says r ws) step) (sym awaited.2) (f awaited.0 awaited.1)

-- what some rules tell behind the words of a line, its row tells
pub node_rest : (tree : Box TreeDraft) (ws : Words) (step : Result Step Reason) (Rules : List Above → Answer → Type 0)
    → ((fs : List Above) (said : Answer) → Rules fs said → node_row (draft_of tree.value.draft.value) tree.value.claimed fs ws said)
    → ((fs : List Above) → IsAtNode tree.value fs → Tells (Rules fs) step) → IsStep (NodeDue tree) ws step
node_rest tree ws step Rules row told = node_step tree ws step (λ fs node. tells_row (Rules fs) (node_row (draft_of tree.value.draft.value) tree.value.claimed fs ws) step (row fs) (told fs node))
