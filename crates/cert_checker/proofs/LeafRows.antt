-- the lines of a leaf's numbers and the line `end`: what is kept behind them
use Rattle.std.proofs.Common.{◌≡◌, List, Bool, true, false, ap, subst, sym, refl, ◌∙◌, eqb, ◌&&◌}
use Rattle.std.specs.Prelude.{if◌then◌else◌, Ok, Err}
use Rattle.std.specs.Global.{Box}
use Rattle.std.specs.Box.{with_value}
use Rattle.std.proofs.lemmas.Bool.{and_parts, and_from, eqb-true, eq-eqb, both_ways}
use Rattle.crew_terms.specs.Words.{Words}
use Rattle.crew_terms.specs.Limits.{root_limits}
use Rattle.dossier_terms.specs.declared.Reason.{Reason}
use Rattle.dossier_terms.specs.declared.Reason.TheVariants as reasons
use Rattle.dossier_terms.specs.Dossier.{Written, Leaf}
use Rattle.crew_terms.specs.Branches.{Open, Closed}
use Rattle.dossier_terms.specs.Lines.{end_line, counts_of}
use Rattle.dossier_terms.specs.Reading.{Reading, Answer, More as Goes, Whole as Ends, No as Refuses, leaf_done, whole, Above, LeafSite}
use Rattle.crew_terms.specs.declared.TreeCounts.{TreeCounts}
use Rattle.crew_terms.specs.Counts.{same_counts}
use Rattle.dossier_terms.specs.Rules.{Holds, Fails}
use Rattle.dossier_terms.specs.Table.{Finish, Says, end_row}
use Rattle.node_limits.specs.Trail.{Trail}
use Rattle.node_limits.specs.Rest.{Rest, IsRestOver, trail_over}
use Rattle.leaf_check.specs.Reader.{IsGoalAt, IsReady, StandsFor, LeafTells, TellsMore, TellsDone, TellsNo}
use Rattle.leaf_check.specs.declared.reader.Goal.{Goal}
use Rattle.leaf_check.specs.declared.reader.LeafReader.{LeafReader}
use Rattle.leaf_check.specs.declared.reader.LeafStep.TheVariants as steps
use Rattle.tree_walk.specs.Way.{IsAt, IsLeaf}
use Rattle.cert_checker.specs.Due.{HasLeafRoom, IsInLeaf, IsAtNode, IsStep, draft_of, site_of}
use Rattle.cert_checker.specs.Rooms.{IsReaderFor}
use Rattle.share_check.specs.Summed.{HasRoom}
use Rattle.share_check.specs.declared.sums.ShareSums.{ShareSums}
use Rattle.cert_checker.specs.declared.due.BegunDossier.{BegunDossier as Held}
use Rattle.cert_checker.specs.declared.due.LooseDraft.{LooseDraft}
use Rattle.cert_checker.specs.declared.due.TreeDraft.{TreeDraft}
use Rattle.cert_checker.specs.declared.due.Due.TheVariants.{End as EndLine}
use Rattle.cert_checker.specs.declared.due.Step.TheVariants.{Whole}
use Rattle.cert_checker.proofs.NodeRows.{at_node, limits_at, moved, written_back}

-- ---- what the reader of a leaf tells

module _ (a : LeafSite) (Rules : Answer → Type 0) (new : LeafReader) where
  pub told_more : LeafTells a Rules (Ok steps.More) new → (next : Reading) × Rules (Goes next) × StandsFor a new next
  told_more (TellsMore next says stands is) = (next, says, stands)
  told_more (TellsDone leaf says is) = absurd (cc)
  told_more (TellsNo reason says is) = absurd (cc)

  pub told_done : LeafTells a Rules (Ok steps.Done) new → (leaf : Leaf) × Rules (Goes (leaf_done a leaf))
  told_done (TellsMore next says stands is) = absurd (cc)
  told_done (TellsDone leaf says is) = (leaf, says)
  told_done (TellsNo reason says is) = absurd (cc)

  pub told_no : (reason : Reason) → LeafTells a Rules (Err reason) new → Rules (Refuses reason)
  told_no reason (TellsMore next says stands is) = absurd (cc)
  told_no reason (TellsDone leaf says is) = absurd (cc)
  told_no reason (TellsNo other says is) = let same : reason ≡ other = cc in subst (λ r. Rules (Refuses r)) (sym same) says

-- a leaf of a kind is one
pub is_leaf : (is_closed : Bool) (leaf : Leaf) → IsLeaf is_closed (if is_closed then Closed leaf else Open leaf)
is_leaf true leaf = refl
is_leaf false leaf = refl

-- ---- what is kept of a leaf

-- the tree with its limits at rest again
abbrev pub rested : TreeDraft → Rest → TreeDraft
rested tree rest = moved tree rest tree.walk tree.unshown

-- it is what is written back into its box and that of its draft
pub rested_back : (tree held : TreeDraft) (draft : Held) (rest : Rest) → held ≡ tree → draft ≡ held.draft.value
    → ◌≡◌ {A = TreeDraft} (record held { draft = with_value held.draft (record draft { limits = rest }) }) (rested tree rest)
rested_back tree held draft rest e f = written_back tree held draft rest held.walk held.unshown e f ∙ ap (λ (t : TreeDraft). moved tree rest t.walk t.unshown) e

-- the same with this reader
abbrev pub read_by : TreeDraft → Rest → LeafReader → TreeDraft
read_by tree rest reader = record (rested tree rest) { reader = reader }

-- the node stays where it is with other room for its instance
pub with_room : (tree : TreeDraft) (reader : LeafReader) (loose : LooseDraft) (sums : ShareSums) (fs : List Above) → IsAtNode tree fs
    → IsReaderFor tree.draft.value.base.instance reader → HasRoom (root_limits tree.draft.value.base.instance) sums
    → IsAtNode (record tree { reader = reader; loose = loose; sums = sums }) fs
with_room tree reader loose sums fs node ready room = record {
  claimed = node.claimed;
  over = node.over;
  at = node.at;
  depth = node.depth;
  spare = node.spare;
  unshown = node.unshown;
  unassigned = node.unassigned;
  reader = ready;
  sums = room;
}

-- the same with another reader alone
pub with_reader : (tree : TreeDraft) (reader : LeafReader) (fs : List Above) → IsAtNode tree fs → IsReaderFor tree.draft.value.base.instance reader → IsAtNode (record tree { reader = reader }) fs
with_reader tree reader fs node ready = with_room tree reader tree.loose tree.sums fs node ready node.sums

-- the goal is that of the place
pub goal_at : (tree : TreeDraft) (t : Trail) → t ≡ trail_over tree.draft.value.base.instance tree.draft.value.limits
    → (is_closed : Bool) (goal : Goal) (fs : List Above) → IsAtNode tree fs → goal.form ≡ tree.draft.value.base.form → goal.bound ≡ tree.draft.value.bound
    → goal.unassigned ≡ tree.unassigned → goal.is_closed ≡ is_closed → IsGoalAt (site_of tree fs is_closed) t.limits goal
goal_at tree t woke is_closed goal fs node form bound count kind = record { limits = sym (limits_at tree t fs woke node); form = form; bound = bound; unassigned = count ∙ node.unassigned; is_closed = kind }

module _ (tree : TreeDraft) (t : Trail) (rest : Rest) (woke : t ≡ trail_over tree.draft.value.base.instance tree.draft.value.limits)
    (back : trail_over t.limits.instance rest ≡ t) (over : IsRestOver t.limits.instance rest) where
  -- the walk stands where it stood
  pub stays : (fs : List Above) → IsAtNode tree fs → IsAtNode (rested tree rest) fs
  stays fs node = at_node tree t t tree.walk rest woke refl back over refl refl tree.unshown fs fs node
      (subst (λ x. IsAt (root_limits tree.draft.value.base.instance) x tree.walk fs) (sym woke) node.at) node.unshown

  -- it stands there too with a reader that is ready for the node
  pub read_on : (reader : LeafReader) (fs : List Above) → IsAtNode tree fs → IsReady t.limits reader → IsAtNode (read_by tree rest reader) fs
  read_on reader fs node ready = with_reader (rested tree rest) reader fs (stays fs node) (t.limits, ap (λ (x : Trail). x.limits.instance) woke, ready)

  -- one more line of the leaf is due
  pub in_leaf : (new : TreeDraft) (is_closed : Bool) (reader : LeafReader) → new ≡ read_by tree rest reader → (fs : List Above) (next : Reading) → IsAtNode tree fs → HasLeafRoom tree is_closed
      → IsReady t.limits reader → StandsFor (site_of tree fs is_closed) reader next → IsInLeaf new is_closed fs next
  in_leaf new is_closed reader is fs next node room ready stands = subst (λ (x : TreeDraft). IsInLeaf x is_closed fs next) (sym is) (record {
    node = read_on reader fs node ready;
    ready = subst (λ n. IsReady n reader) (limits_at tree t fs woke node) ready;
    room = room;
    stands = stands;
  })

-- ---- the line `end`

-- the test that two trees have the same numbers
abbrev same_numbers : TreeCounts → TreeCounts → Bool
same_numbers s c = eqb s.splits c.splits && (eqb s.closed c.closed && (eqb s.left_open c.left_open && eqb s.depth c.depth))

same_is : (s c : TreeCounts) → same_numbers s c ≡ true → s ≡ c
same_is s c h =
    let p = and_parts (eqb s.splits c.splits) (eqb s.closed c.closed && (eqb s.left_open c.left_open && eqb s.depth c.depth)) h in
    let q = and_parts (eqb s.closed c.closed) (eqb s.left_open c.left_open && eqb s.depth c.depth) p.1 in
    let r = and_parts (eqb s.left_open c.left_open) (eqb s.depth c.depth) q.1 in
    same_counts s.splits s.closed s.left_open s.depth c.splits c.closed c.left_open c.depth
    (eqb-true s.splits c.splits p.0) (eqb-true s.closed c.closed q.0) (eqb-true s.left_open c.left_open r.0) (eqb-true s.depth c.depth r.1)

same_self : (c : TreeCounts) → same_numbers c c ≡ true
same_self c = and_from (eqb c.splits c.splits) (eqb c.closed c.closed && (eqb c.left_open c.left_open && eqb c.depth c.depth)) (eq-eqb c.splits c.splits refl)
    (and_from (eqb c.closed c.closed) (eqb c.left_open c.left_open && eqb c.depth c.depth) (eq-eqb c.closed c.closed refl)
    (and_from (eqb c.left_open c.left_open) (eqb c.depth c.depth) (eq-eqb c.left_open c.left_open refl) (eq-eqb c.depth c.depth refl)))

pub counted : (s c : TreeCounts) (t : Written) → s ≡ counts_of t → same_numbers s c ≡ true → counts_of t ≡ c
counted s c t seen h = sym seen ∙ same_is s c h

pub not_counted : (s c : TreeCounts) (t : Written) → s ≡ counts_of t → same_numbers s c ≡ false → counts_of t ≡ c → ⊥
not_counted s c t seen h is = both_ways (same_numbers s c) h (subst (λ x. same_numbers x c ≡ true) (sym (seen ∙ is)) (same_self c))

-- the numbers that were compared are those of the tree
pub compared : (seen : TreeCounts) (held tree : TreeDraft) (same answer : Bool) → held ≡ tree → answer ≡ same_numbers seen held.claimed → answer ≡ same → same_numbers seen tree.claimed ≡ same
compared seen held tree same answer read test is = ap (λ (t : TreeDraft). same_numbers seen t.claimed) (sym read) ∙ sym test ∙ is

-- the line is read, and the numbers are those that were claimed
pub ends_whole : (tree : Box TreeDraft) (seen : TreeCounts) (ws : Words) → ws ≡ end_line → same_numbers seen tree.value.claimed ≡ true
    → IsStep (EndLine tree seen) ws (Ok (Whole (record { tree = tree; counts = seen })))
ends_whole tree seen ws is same = λ reading awaited.
    let b = draft_of tree.value.draft.value in
    let claimed = tree.value.claimed in
    let t = awaited.0 in
    let d = whole b t in
    let row : end_row b claimed t ws (Ends d) = Holds is (Holds (counted seen claimed t awaited.1 same) (Finish refl)) in
    (d, subst (λ r. Says r ws (Ends d)) (sym awaited.3) row, record { tree = t; is = refl; counts = awaited.1; unshown = awaited.2; over = awaited.4 })

pub ends_miscounted : (tree : Box TreeDraft) (seen : TreeCounts) (ws : Words) → ws ≡ end_line → same_numbers seen tree.value.claimed ≡ false
    → IsStep (EndLine tree seen) ws (Err reasons.Count)
ends_miscounted tree seen ws is differ = λ reading awaited.
    let claimed = tree.value.claimed in
    let t = awaited.0 in
    let row : end_row (draft_of tree.value.draft.value) claimed t ws (Refuses reasons.Count) = Holds is (Fails (not_counted seen claimed t awaited.1 differ) refl) in
    subst (λ r. Says r ws (Refuses reasons.Count)) (sym awaited.3) row
