-- the lines of a cause: what is kept of it, and the rows of the table for them
use Rattle.std.proofs.Common.{◌≡◌, ◌≤◌, ◌<◌, ◌^◌, ℕ, List, [], ◌∷◌, ◌++◌, length, map, All, ap, subst, sym, refl, ◌∙◌, arith}
use Rattle.std.specs.Prelude.{ℤ, pos, Result, Ok, Err, IsErr, slice_index_or}
use Rattle.std.specs.Fmt.{decimal}
use Rattle.std.specs.Box.{with_value}
use Rattle.std.proofs.lemmas.List.{map-append, length-map, get_or_default}
use Rattle.std.proofs.lemmas.List.Elements.{All-nil, All-cons, All-append}
use Rattle.crew_num.specs.declared.Overflow.{Overflow}
use Rattle.crew_num.specs.Exact.{IsExact, IsOverflow}
use Rattle.crew_terms.specs.Words.{Words}
use Rattle.crew_terms.specs.Limits.{Limits, Route, root_limits}
use Rattle.share_terms.specs.Shares.{Share as ShareOf, IsRouteIn}
use Rattle.dossier_terms.specs.declared.Reason.TheVariants as reasons
use Rattle.dossier_terms.specs.Causes.{NoCause, Shares, Part, IsPartOf, IsLooseAt, share_of, column_of, choice_of}
use Rattle.dossier_terms.specs.CauseTable.{why_row, share_row, spare_row, tasks_at, open_at}
use Rattle.dossier_terms.specs.Counted.{instance_below}
use Rattle.dossier_terms.specs.Lines.{why_none_line, loose_line, share_line, spare_line, overflow_line, spent_line}
use Rattle.dossier_terms.specs.Ranges.{IsNowWord, IsLooseLine, IsSpareLine, IsOverflowLine}
use Rattle.dossier_terms.specs.Reading.{Answer, More as Goes, No as Refuses, Above, SplitSite, limits_below, cause_done, parts_due}
use Rattle.dossier_terms.specs.Rules.{Holds, Fails, Then, Else, Spelled, On}
use Rattle.dossier_terms.specs.Apart.{other_why}
use Rattle.node_limits.specs.Rest.{Rest, IsRestOver, trail_over}
use Rattle.node_limits.specs.Trail.{Trail}
use Rattle.share_check.specs.Summed.{HasRoom, IsSharesOf, IsLooseChoice}
use Rattle.share_check.specs.declared.sums.ShareSums.{ShareSums}
use Rattle.cert_checker.specs.Due.{IsAtNode, IsInLoose, MaySplit, shares_in}
use Rattle.cert_checker.specs.Rules.{after_fault, after_loose, after_share, after_spare, after_spent}
use Rattle.cert_checker.specs.declared.due.BegunDossier.{BegunDossier as Held}
use Rattle.cert_checker.specs.declared.due.LooseDraft.{LooseDraft}
use Rattle.cert_checker.specs.declared.due.TreeDraft.{TreeDraft}
use Rattle.cert_checker.proofs.LeafRows.{stays, rested, rested_back, with_room}

-- room for the shares of a node of the instance is room for those of another
pub room_of : (n m : Limits) (s : ShareSums) → n.instance ≡ m.instance → HasRoom n s → HasRoom m s
room_of n m s same room = record {
  all = subst (λ i. length s.all.visits.items ≡ length i.tasks) same room.all;
  count = subst (λ i. length s.teams.items ≡ length i.teams) same room.count;
  teams = λ k d below. subst (λ i. length (slice_index_or s.teams.items k d).visits.items ≡ length i.tasks) same (room.teams k d (subst (λ i. k < length i.teams) (sym same) below));
}

-- sums of shares have room for others
pub room_in : (n : Limits) (whole : ℕ) (shares : List ShareOf) (s : ShareSums) → IsSharesOf n whole shares s → HasRoom n s
room_in n whole shares s sums = record { all = sums.all.count; count = sums.count; teams = λ k d below. (sums.teams k d below).count }

-- the node stays where it is with other sums
pub with_sums : (tree : TreeDraft) (s : ShareSums) (fs : List Above) → IsAtNode tree fs → HasRoom (limits_below (root_limits tree.draft.value.base.instance) fs) s → IsAtNode (record tree { sums = s }) fs
with_sums tree s fs node room =
    let root = root_limits tree.draft.value.base.instance in
    with_room tree tree.reader tree.loose s fs node node.reader (room_of (limits_below root fs) root s (instance_below root fs) room)

-- the node stays where it is with another loose cause
with_loose : (tree : TreeDraft) (loose : LooseDraft) (fs : List Above) → IsAtNode tree fs → IsAtNode (record tree { loose = loose }) fs
with_loose tree loose fs node = with_room tree tree.reader loose tree.sums fs node node.reader node.sums

-- ---- overflows

-- the exact result is not there exactly where it leaves the range
pub overflow_is : (r : Result ℤ Overflow) (f : Overflow) → IsExact r f.op f.a f.b → (IsErr r → IsOverflow f) × (IsOverflow f → IsErr r)
overflow_is (Ok z) f h = (λ e. absurd (cc), λ leaves. absurd (leaves h.1))
overflow_is (Err e) f h = (λ is. subst IsOverflow h.0 h.1, λ leaves. refl)

-- ---- what is kept of a loose cause

-- no shares are read
abbrev pub none_read : ℕ → Shares
none_read whole = record { whole = whole; parts = []; spare = [] }

pub loose_begun : (tree : TreeDraft) (loose : LooseDraft) (s : ShareSums) (fs : List Above) → MaySplit tree loose.choice fs → IsNowWord (length tree.draft.value.base.instance.tasks) loose.now
    → 1 ≤ loose.whole → loose.whole < 2 ^ 127 → IsSharesOf (limits_below (root_limits tree.draft.value.base.instance) fs) loose.whole [] s
    → IsInLoose (record tree { loose = loose; sums = s }) (none_read loose.whole) fs
loose_begun tree loose s fs may now some few sums =
    let n = limits_below (root_limits tree.draft.value.base.instance) fs in
    record {
      may = record { node = with_sums (record tree { loose = loose }) s fs (with_loose tree loose fs may.node) (room_in n loose.whole [] s sums); room = record { splits = may.room.splits; depth = may.room.depth }; split = may.split };
      now = now;
      some = some;
      few = few;
      whole = refl;
      routes = All-nil (λ (x : ShareOf). IsRouteIn n x.route);
      sums = sums;
    }

-- there is room for the sums of the node's shares
pub room_at_node : (tree : TreeDraft) (fs : List Above) → IsAtNode tree fs → HasRoom (limits_below (root_limits tree.draft.value.base.instance) fs) tree.sums
room_at_node tree fs node =
    let root = root_limits tree.draft.value.base.instance in
    room_of root (limits_below root fs) tree.sums (sym (instance_below root fs)) node.sums

-- the tree with its limits at rest again, and with these sums
abbrev pub summed : TreeDraft → Rest → ShareSums → TreeDraft
summed tree rest s = record (rested tree rest) { sums = s }

-- it is what is written back into its box and that of its draft
pub summed_back : (tree held : TreeDraft) (draft : Held) (rest : Rest) (s : ShareSums) → held ≡ tree → draft ≡ held.draft.value
    → ◌≡◌ {A = TreeDraft} (record held { draft = with_value held.draft (record draft { limits = rest }); sums = s }) (summed tree rest s)
summed_back tree held draft rest s e f = ap (λ (t : TreeDraft). with_other t) (rested_back tree held draft rest e f)
  where
    with_other : TreeDraft → TreeDraft
    with_other t = record t { sums = s }

-- the column is that of the pool
pub column_is : (pool : List Route) (c : ℕ) (route : Route) → c < length pool → route ≡ slice_index_or pool c route → route ≡ column_of pool c
column_is pool c route within is = is ∙ get_or_default pool c route (record { team = 0; visits = [] }) within

module _ (tree : TreeDraft) (t : Trail) (rest : Rest) (woke : t ≡ trail_over tree.draft.value.base.instance tree.draft.value.limits)
    (back : trail_over t.limits.instance rest ≡ t) (over : IsRestOver t.limits.instance rest) (read : Shares) (fs : List Above) (h : IsInLoose tree read fs) where
  -- with its limits at rest again the node may be split
  pub may_rested : MaySplit (rested tree rest) tree.loose.choice fs
  may_rested = record { node = stays tree t rest woke back over fs h.may.node; room = record { splits = h.may.room.splits; depth = h.may.room.depth }; split = h.may.split }

  -- one more share is read
  pub share_read : (s : ShareSums) (column parts : ℕ) (route : Route) → route ≡ column_of tree.draft.value.pool column
      → IsRouteIn (limits_below (root_limits tree.draft.value.base.instance) fs) route
      → IsSharesOf (limits_below (root_limits tree.draft.value.base.instance) fs) tree.loose.whole (shares_in tree.draft.value.pool read ++ record { route = route; parts = parts } ∷ []) s
      → IsInLoose (summed tree rest s) (record read { parts = read.parts ++ record { column = column; parts = parts } ∷ [] }) fs
  share_read s column parts route is legal sums =
      let pool = tree.draft.value.pool in
      let n = limits_below (root_limits tree.draft.value.base.instance) fs in
      let new : Part = record { column = column; parts = parts } in
      let share : ShareOf = record { route = route; parts = parts } in
      let all : ◌≡◌ {A = List ShareOf} (map (share_of pool) read.parts ++ share ∷ []) (map (share_of pool) (read.parts ++ new ∷ [])) =
      ap (λ (r : Route). map (share_of pool) read.parts ++ record { route = r; parts = parts } ∷ []) is ∙ sym (map-append (share_of pool) read.parts (new ∷ [])) in
      record {
        may = record {
          node = with_sums (rested tree rest) s fs may_rested.node (room_in n tree.loose.whole (shares_in pool read ++ share ∷ []) s sums);
          room = record { splits = h.may.room.splits; depth = h.may.room.depth };
          split = h.may.split;
        };
        now = h.now;
        some = h.some;
        few = h.few;
        whole = h.whole;
        routes = subst (All (λ (x : ShareOf). IsRouteIn n x.route)) all (All-append (λ (x : ShareOf). IsRouteIn n x.route) (shares_in pool read) (share ∷ []) h.routes (All-cons (λ (x : ShareOf). IsRouteIn n x.route) share [] legal (All-nil (λ (x : ShareOf). IsRouteIn n x.route))));
        sums = subst (λ (xs : List ShareOf). IsSharesOf n tree.loose.whole xs s) all sums;
      }

-- what is judged of the shares is what the cause wants
pub loose_at : (pool : List Route) (n : Limits) (now : ℕ) (s : Shares) → IsLooseChoice n (choice_of pool s) now → IsLooseAt pool n now s
loose_at pool n now s h = record { choice = h.choice; loose = h.loose }

pub not_loose_at : (pool : List Route) (n : Limits) (now : ℕ) (s : Shares) → (IsLooseChoice n (choice_of pool s) now → ⊥) → IsLooseAt pool n now s → ⊥
not_loose_at pool n now s broken h = broken (record { choice = h.choice; loose = h.loose })

-- equal numbers with a sign
pub same_pos : (a b : ℕ) → pos a ≡ pos b → a ≡ b
same_pos a b e = cc

-- ---- the rows of the table

module _ (p : SplitSite) (ws : Words) where
  none_at : why_row p why_none_line (Goes (cause_done p NoCause))
  none_at = Else (other_why _ _ (λ e. omega arith)) (Else (other_why _ _ (λ e. omega arith)) (Else (other_why _ _ (λ e. omega arith)) (Holds refl (On refl))))

  pub none_says : ws ≡ why_none_line → why_row p ws (Goes (cause_done p NoCause))
  none_says is = subst (λ w. why_row p w (Goes (cause_done p NoCause))) (sym is) none_at

  pub loose_says : (now whole count : ℕ) (said : Answer) → IsLooseLine (tasks_at p) (now, whole, count) → ws ≡ loose_line now whole count → after_loose p now whole count said → why_row p ws said
  loose_says now whole count said ranges is rest =
      let row : why_row p (loose_line now whole count) said = Then (_, refl) (Holds (_, refl, refl) (Spelled (now, whole, count) ranges refl rest)) in
      subst (λ w. why_row p w said) (sym is) row

  pub fault_says : (now : ℕ) (fault : Overflow) (said : Answer) → IsOverflowLine (tasks_at p) (now, fault) → ws ≡ overflow_line now fault → after_fault p now fault said → why_row p ws said
  fault_says now fault said ranges is rest =
      let row : why_row p (overflow_line now fault) said = Else (other_why _ _ (λ e. omega arith)) (Then (_, refl) (Holds (fault.op, _, _, _, refl) (Spelled (now, fault) ranges refl rest))) in
      subst (λ w. why_row p w said) (sym is) row

  pub spent_says : (now : ℕ) (said : Answer) → IsNowWord (tasks_at p) now → ws ≡ spent_line now → after_spent p now said → why_row p ws said
  spent_says now said ranges is rest =
      let row : why_row p (spent_line now) said = Else (other_why _ _ (λ e. omega arith)) (Else (other_why _ _ (λ e. omega arith)) (Then (_, refl) (Holds (_, refl, refl) (Spelled now ranges refl rest)))) in
      subst (λ w. why_row p w said) (sym is) row

  pub share_says : (now : ℕ) (read : Shares) (left from : ℕ) (part : Part) (said : Answer) → IsPartOf (length p.begun.pool) read.whole part → ws ≡ share_line part → from ≤ part.column
      → after_share p now read left part said → share_row p now read left from ws said
  share_says now read left from part said ranges is later rest = subst (λ w. share_row p now read left from w said) (sym is) (Holds (_, refl, refl) (Spelled part ranges refl (Holds later rest)))

  pub share_early : (now : ℕ) (read : Shares) (left from : ℕ) (part : Part) → IsPartOf (length p.begun.pool) read.whole part → ws ≡ share_line part → part.column < from
      → share_row p now read left from ws (Refuses reasons.Cause)
  share_early now read left from part ranges is early = subst (λ w. share_row p now read left from w (Refuses reasons.Cause)) (sym is) (Holds (_, refl, refl) (Spelled part ranges refl (Fails (λ e. absurd (omega arith)) refl)))

  pub spare_says : (now : ℕ) (read : Shares) (spare : List ℕ) (said : Answer) → IsSpareLine (tasks_at p) read.whole spare → ws ≡ spare_line spare → after_spare p now read spare said → spare_row p now read ws said
  spare_says now read spare said ranges is rest = subst (λ w. spare_row p now read w said) (sym is) (Holds (_, refl, length-map spare decimal ∙ ranges.count) (Spelled spare ranges refl rest))

-- ---- what is said behind the numbers of a line

module _ (p : SplitSite) (now : ℕ) where
  pub loose_low : (whole count : ℕ) → now < open_at p → after_loose p now whole count (Refuses reasons.Cause)
  loose_low whole count low = Fails (λ e. absurd (omega arith)) refl

  pub loose_goes : (whole count : ℕ) → open_at p ≤ now → after_loose p now whole count (Goes (parts_due p now (none_read whole) count 0))
  loose_goes whole count enough = Holds enough (On refl)
