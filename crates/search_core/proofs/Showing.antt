-- the causes of splits show in their nodes
use Rattle.std.proofs.Common.{◌≡◌, ◌≤◌, ◌<◌, ◌+◌, ◌-◌, ◌*◌, ◌++◌, ◌∙◌, ◌∷◌, [], ℕ, ℤ, zero, suc, List, Option, None, Some, Bool, true, false, All, length, map, drop, refl, ap, sym, subst, append_assoc, append-nil, arith}
use Rattle.std.specs.Prelude.{IfSome, unwrap_or}
use Rattle.std.proofs.Math.Seq.{drop-append_seam}
use Rattle.std.proofs.lemmas.List.{get_or_append_left, get_or_push, length-append, length-map, map-append}
use Rattle.std.proofs.lemmas.List.Elements.{All-head, All-tail, All-weaker}
use Rattle.branch_tree.specs.Entries.{EachSplitOf}
use Rattle.branch_tree.specs.Trees.{BranchTree}
use Rattle.column_arena.specs.Columns.{no_column}
use Rattle.column_arena.specs.Legal.{IsLegalColumn}
use Rattle.crew_num.specs.Exact.{IsOverflow}
use Rattle.crew_num.specs.declared.Overflow.{Overflow as Fault}
use Rattle.crew_terms.specs.Branches.{LeafNode, SplitNode, splits}
use Rattle.crew_terms.specs.Instance.{Instance}
use Rattle.crew_terms.specs.Leaf.{Prices}
use Rattle.crew_terms.specs.Limits.{Limits, Route, root_limits}
use Rattle.crew_terms.specs.Plan.{Plan, unassigned_count}
use Rattle.crew_terms.specs.Tree.{child}
use Rattle.crew_terms.specs.declared.Choice.{Choice}
use Rattle.crew_terms.specs.declared.Side.{Side}
use Rattle.crew_terms.specs.declared.Side.TheVariants.{First, Second}
use Rattle.frac_master.specs.declared.shares.Share.{Share}
use Rattle.search_core.specs.declared.handing.Handed.{Handed}
use Rattle.search_tree.specs.Keyed.{Keyed}
use Rattle.master_run.specs.Shares.{fractional_of, share_of}
use Rattle.node_solver.specs.Causes.{cause_of}
use Rattle.node_solver.specs.Loose.{HasHeld, IsShown}
use Rattle.node_solver.specs.Plans.{IsBetterPlan}
use Rattle.node_solver.specs.declared.step.NodeEnd.TheVariants as ends
use Rattle.node_solver.specs.declared.step.Why.{Why}
use Rattle.node_solver.specs.declared.step.Why.TheVariants.{Loose, Overflow, Spent}
use Rattle.search_core.specs.Counts.{causes_count}
use Rattle.search_core.specs.Ordered.{cause_with}
use Rattle.search_core.specs.Searching.{Searching, cause_at, price_at, state_of}
use Rattle.search_core.specs.Settled.{IsPutClosed, IsPutSplit, number_of}
use Rattle.search_core.specs.Shown.{AreShown, IsShownCause, IsShownNumber, IsShownWhy, numbered}
use Rattle.search_core.specs.Steps.{after_step}
use Rattle.search_core.specs.declared.causes.Cause.{Cause}
use Rattle.search_terms.specs.Earned.{IsEarned}
use Rattle.search_terms.specs.Overflows.{OverflowAt, InPivot, InColumn, InShares, InPrice}
use Rattle.search_terms.specs.Rows.{Rows}
use Rattle.search_terms.specs.Search.{Extends}
use Rattle.share_terms.specs.Shares.{FractionalChoice, IsFractional, IsLoose, IsRouteIn, Share as RouteShare}
use Rattle.search_terms.specs.SearchTree.{ClosedLeaf, EachSplit, OpenLeaf, SearchTree, SplitCause, causes}
use Rattle.search_terms.specs.Ways.{limits_at, replaced}
use Rattle.search_tree.specs.Numbered.{grown, node_of, tree_at, tree_of, way_of}
use Rattle.search_tree.specs.declared.nodes.Content.{Content}
use Rattle.search_tree.specs.declared.nodes.Content.TheVariants as content
use Rattle.search_tree.specs.declared.nodes.Node.{Node}
use Rattle.search_core.specs.Outline.{outline, outline_with}
use Rattle.search_core.proofs.HandingOut.{same_splits}

-- ---- what a step shows

fault_leaves : (n : Limits) (t : Rows) (coming : List Route) (f : Fault) → OverflowAt n t coming f → IsOverflow f
fault_leaves n t coming f (InPivot leaves how) = leaves
fault_leaves n t coming f (InColumn leaves done how) = leaves
fault_leaves n t coming f (InShares leaves done ds each how) = leaves
fault_leaves n t coming f (InPrice leaves done how) = leaves

-- what a step says of its split
pub shown_why : (n : Limits) (now pivots : ℕ) (columns : List Route) (choice : Choice) (why : Why) (prices : Prices)
    → IsEarned n now prices pivots columns (cause_of columns why) → IsShown n now columns (ends.Split choice why prices)
    → HasHeld n columns (ends.Split choice why prices) → IsShownWhy columns n now why
shown_why n now pivots columns choice (Loose den shares left_open) prices earned shown held =
    record { held = held; fractional = shown.fractional; loose = shown.loose }
shown_why n now pivots columns choice (Overflow fault) prices earned shown held = fault_leaves n earned.rows earned.back fault earned.overflow
shown_why n now pivots columns choice Spent prices earned shown held = tt

-- ---- columns grow

module _ (columns added : List Route) (n : Limits) where
  shares_grown : (shares : List Share) → All (λ (s : Share). IsLegalColumn n columns s.column) shares
      → map (share_of (columns ++ added)) shares ≡ map (share_of columns) shares
  shares_grown [] legal = refl
  shares_grown (s ∷ shares) legal =
      let here = All-head (λ (s : Share). IsLegalColumn n columns s.column) s shares legal in
      let same : share_of (columns ++ added) s ≡ share_of columns s =
      ap (λ (r : Route). record (share_of columns s) { route = r }) (get_or_append_left columns added no_column s.column here.known) in
      ap (λ (x : RouteShare). x ∷ map (share_of (columns ++ added)) shares) same
      ∙ ap (λ (xs : List RouteShare). share_of columns s ∷ xs) (shares_grown shares (All-tail (λ (s : Share). IsLegalColumn n columns s.column) s shares legal))

  legal_grown : (id : ℕ) → IsLegalColumn n columns id → IsLegalColumn n (columns ++ added) id
  legal_grown id legal =
      let e = length-append columns added in
      let l = legal.known in
      record {
        known = omega (arith, e, l);
        route = subst (IsRouteIn n) (sym (get_or_append_left columns added no_column id legal.known)) legal.route;
      }

  pub choice_grown : (den : ℤ) (shares : List Share) (left_open : List ℤ) → All (λ (s : Share). IsLegalColumn n columns s.column) shares
      → fractional_of (columns ++ added) den shares left_open ≡ fractional_of columns den shares left_open
  choice_grown den shares left_open legal =
      ap (λ (xs : List RouteShare). record (fractional_of columns den shares left_open) { shares = xs }) (shares_grown shares legal)

  why_grown : (now : ℕ) (why : Why) → IsShownWhy columns n now why → IsShownWhy (columns ++ added) n now why
  why_grown now (Loose den shares left_open) shown =
      let held = shown.held in
      let same = choice_grown den shares left_open held.legal in
      record {
        held = record {
          legal = All-weaker (λ (s : Share). IsLegalColumn n columns s.column) (λ (s : Share). IsLegalColumn n (columns ++ added) s.column)
              (λ s legal. legal_grown s.column legal) shares held.legal;
          positive = held.positive;
          rise = held.rise;
        };
        fractional = subst (IsFractional n) (sym same) shown.fractional;
        loose = subst (λ (c : FractionalChoice). IsLoose n c (1000 * (now - 1) + 1) 1000) (sym same) shown.loose;
      }
  why_grown now (Overflow fault) shown = shown
  why_grown now Spent shown = tt

  -- with columns more, and a plan that leaves no more
  cause_later : (u v : ℕ) (c : Cause) → v ≤ u → IsShownCause columns u n c → IsShownCause (columns ++ added) v n c
  cause_later u v c less shown =
      let e = shown.enough in
      record { some = shown.some; known = shown.known; enough = omega (arith, less, e); why = why_grown c.now c.why shown.why }

-- ---- trees

module _ (P : Limits → SplitCause → Type 0) where
  -- where a tree takes the place of what stood at the end of a way
  each_replaced : (n : Limits) (t : SearchTree) (way : List Side) (new : SearchTree) → EachSplit (λ m k u. P m k) n t
      → EachSplit (λ m k u. P m k) (limits_at n t way) new → EachSplit (λ m k u. P m k) n (replaced t way new)
  each_replaced n (LeafNode leaf) way new each here = here
  each_replaced n (SplitNode split first second) [] new each here = here
  each_replaced n (SplitNode split first second) (First ∷ way) new each here =
      (each.0, each_replaced (child n split.choice First) first way new each.1 here, each.2)
  each_replaced n (SplitNode split first second) (Second ∷ way) new each here =
      (each.0, each.1, each_replaced (child n split.choice Second) second way new each.2 here)

  none_split : (n : Limits) (t : SearchTree) → splits t ≡ 0 → EachSplit (λ m k u. P m k) n t
  none_split n (LeafNode leaf) none = tt
  none_split n (SplitNode split first second) none = absurd (omega (arith, none))

  each_weaker : (Q : Limits → SplitCause → Type 0) → ((m : Limits) (k : SplitCause) → P m k → Q m k) → (n : Limits) (t : SearchTree)
      → EachSplit (λ m k u. P m k) n t → EachSplit (λ m k u. Q m k) n t
  each_weaker Q weaker n (LeafNode leaf) each = tt
  each_weaker Q weaker n (SplitNode split first second) each = (
    weaker n split.cause each.0,
    each_weaker Q weaker (child n split.choice First) first each.1,
    each_weaker Q weaker (child n split.choice Second) second each.2,
  )

grown_limits : (p q : ℕ → Prices) (c d : ℕ → SplitCause) (k : Content) (low high : ℕ → SearchTree) (way : List Side) (n : Limits)
    → ((m : ℕ) (rest : List Side) (x : Limits) → limits_at x (low m) rest ≡ limits_at x (high m) rest)
    → limits_at n (grown p c k low) way ≡ limits_at n (grown q d k high) way
grown_limits p q c d (content.Open x) low high way n same = refl
grown_limits p q c d (content.Closed x) low high way n same = refl
grown_limits p q c d (content.Split choice cause first) low high [] n same = refl
grown_limits p q c d (content.Split choice cause first) low high (First ∷ way) n same = same first way (child n choice First)
grown_limits p q c d (content.Split choice cause first) low high (Second ∷ way) n same = same (first + 1) way (child n choice Second)

-- the limits at the end of a way, whatever numbers stand for
pub same_limits : (p q : ℕ → Prices) (c d : ℕ → SplitCause) (levels : ℕ) (nodes : List Node) (m : ℕ) (way : List Side) (n : Limits)
    → limits_at n (tree_at p c levels nodes m) way ≡ limits_at n (tree_at q d levels nodes m) way
unfolding tree_at
same_limits p q c d zero nodes m way n = refl
same_limits p q c d (suc levels) nodes m way n =
    grown_limits p q c d (node_of nodes m).content (tree_at p c levels nodes) (tree_at q d levels nodes) way n (same_limits p q c d levels nodes)

grown_outline : (p : ℕ → Prices) (c d : ℕ → SplitCause) (k : Content) (low high : ℕ → SearchTree)
    → ((m : ℕ) → outline (low m) ≡ outline (high m)) → outline (grown p c k low) ≡ outline (grown p d k high)
grown_outline p c d (content.Open x) low high same = refl
grown_outline p c d (content.Closed x) low high same = refl
grown_outline p c d (content.Split choice cause first) low high same =
    ap (λ (t : BranchTree). SplitNode choice t (outline (low (first + 1)))) (same first)
    ∙ ap (λ (t : BranchTree). SplitNode choice (outline (high first)) t) (same (first + 1))

-- the tree without its causes, whatever the numbers of causes stand for
pub same_outline : (p : ℕ → Prices) (c d : ℕ → SplitCause) (levels : ℕ) (nodes : List Node) (m : ℕ)
    → outline (tree_at p c levels nodes m) ≡ outline (tree_at p d levels nodes m)
unfolding tree_at
same_outline p c d zero nodes m = refl
same_outline p c d (suc levels) nodes m =
    grown_outline p c d (node_of nodes m).content (tree_at p c levels nodes) (tree_at p d levels nodes) (same_outline p c d levels nodes)

-- ---- the start

-- a tree without splits has no causes
pub start_shown : (columns : List Route) (s : Searching) (root : Prices) → (state_of [] s).tree ≡ LeafNode (OpenLeaf root) → AreShown columns s
start_shown columns s root is p =
    let nodes = s.keyed.nodes in
    let none = same_splits p (price_at s.prices) numbered (cause_at [] s.causes) (length nodes) nodes 0 ∙ ap (λ (t : SearchTree). splits t) is in
    none_split (IsShownNumber columns (unassigned_count s.plan) s.causes) (root_limits s.instance) (tree_of p numbered nodes) none

-- ---- steps

pub plan_less : (i : Instance) (plan : Plan) (found : Option Plan) → IfSome found (IsBetterPlan i (unassigned_count plan))
    → unassigned_count (unwrap_or found plan) ≤ unassigned_count plan
plan_less i plan None better = omega arith
plan_less i plan (Some p) better = let f = better.fewer in omega (arith, f)

cause_kept : (all after more : List Cause) (k : ℕ) → after ≡ all ++ more → k < length all → cause_with after k ≡ cause_with all k
cause_kept all after more k is below =
    ap (λ (cs : List Cause). cause_with cs k) is ∙ get_or_append_left all more (record { now = 0; why = Spent }) k below

cause_put : (all after : List Cause) (c : Cause) → after ≡ all ++ c ∷ [] → cause_with after (length all) ≡ c
cause_put all after c is =
    ap (λ (cs : List Cause). cause_with cs (length all)) is ∙ get_or_push all c (record { now = 0; why = Spent }) (length all) refl

module _ (s : Searching) (columns more : List Route) (i : Instance) (n : Limits) (found : Option Plan) (extends : Extends n columns more)
    (better : IfSome found (IsBetterPlan i (unassigned_count s.plan))) where
  abbrev after : ℕ
  after = unassigned_count (unwrap_or found s.plan)

  number_later : (all : List Cause) (added : List Cause) (m : Limits) (k : SplitCause) → all ≡ s.causes ++ added
      → IsShownNumber columns (unassigned_count s.plan) s.causes m k → IsShownNumber more after all m k
  number_later all added m k is shown =
      let e = ap length is in
      let f = length-append s.causes added in
      let l = shown.known in
      record {
        known = omega (arith, e, f, l);
        shown = subst (IsShownCause more after m) (sym (cause_kept s.causes all added k.now is shown.known))
            (subst (λ (cs : List Route). IsShownCause cs after m (cause_with s.causes k.now)) (sym extends.all)
            (cause_later columns extends.added m (unassigned_count s.plan) after (cause_with s.causes k.now) (plan_less i s.plan found better) shown.shown));
      }

  -- where a leaf is closed
  pub shown_closed : (key leaf : ℕ) (keyed : Keyed) (prices : List Prices) (kept : Prices) → IsPutClosed s.keyed keyed s.prices prices key leaf kept
      → AreShown columns s → AreShown more (after_step s found keyed prices s.causes)
  shown_closed key leaf keyed prices kept put shown p =
      let root = root_limits s.instance in
      let tree = tree_of p numbered s.keyed.nodes in
      let way = way_of s.keyed.nodes leaf in
      let P = IsShownNumber columns (unassigned_count s.plan) s.causes in
      let Q = IsShownNumber more after s.causes in
      subst (EachSplit (λ m k u. Q m k) root) (sym (put.taken.tree p numbered))
      (each_replaced Q root tree way (LeafNode (ClosedLeaf (p (length s.prices))))
      (each_weaker P Q (λ m k h. number_later s.causes [] m k (sym (append-nil s.causes)) h) root tree (shown p)) tt)

  -- where it is split for a cause that shows in its node
  pub shown_split : (key leaf own : ℕ) (choice : Choice) (cause : Cause) (handed : Handed) (keyed : Keyed) (prices : List Prices) (all : List Cause)
      → IsPutSplit s.keyed keyed s.prices prices s.causes all key leaf own choice cause handed
      → ((p : ℕ → Prices) → limits_at (root_limits s.instance) (tree_of p numbered s.keyed.nodes) (way_of s.keyed.nodes leaf) ≡ n)
      → IsShownCause more after n cause → AreShown columns s → AreShown more (after_step s found keyed prices all)
  shown_split key leaf own choice cause handed keyed prices all put at here shown p =
      let root = root_limits s.instance in
      let tree = tree_of p numbered s.keyed.nodes in
      let way = way_of s.keyed.nodes leaf in
      let P = IsShownNumber columns (unassigned_count s.plan) s.causes in
      let Q = IsShownNumber more after all in
      let e = ap length put.cause_put in
      let f = length-append s.causes (cause ∷ []) in
      let number = number_of own (length s.prices) handed.prices in
      let new : IsShownNumber more after all n (numbered (length s.causes)) = record {
        known = omega (arith, e, f);
        shown = subst (IsShownCause more after n) (sym (cause_put s.causes all cause put.cause_put)) here;
      } in
      subst (EachSplit (λ m k u. Q m k) root) (sym (put.turned.tree p numbered))
      (each_replaced Q root tree way (SplitNode (record { choice = choice; cause = numbered (length s.causes) }) (LeafNode (OpenLeaf (p number))) (LeafNode (OpenLeaf (p number))))
      (each_weaker P Q (λ m k h. number_later all (cause ∷ []) m k put.cause_put h) root tree (shown p))
      (subst (λ m. IsShownNumber more after all m (numbered (length s.causes))) (sym (at p)) new, tt, tt))

-- ---- what is handed out

outlined_splits : (t : SearchTree) → splits (outline t) ≡ splits t
outlined_splits (LeafNode leaf) = refl
outlined_splits (SplitNode split first second) =
    let a = outlined_splits first in
    let b = outlined_splits second in
    omega (arith, a, b)

module _ (P : Limits → SplitCause → Type 0) (Q : Limits → Cause → Type 0) (f : SplitCause → Cause) (holds : (m : Limits) (k : SplitCause) → P m k → Q m (f k)) where
  -- from the tree with its causes to the tree and the list of the causes; others may stand behind them
  each_entry : (n : Limits) (t : SearchTree) (rest : List Cause) → EachSplit (λ m k u. P m k) n t → EachSplitOf Q n (outline t) (map f (causes t) ++ rest)
  each_entry n (LeafNode leaf) rest each = tt
  each_entry n (SplitNode split first second) rest each =
      let ours : List Cause = map f (causes first) in
      let more : List Cause = map f (causes second) ++ rest in
      let parts : map f (causes first ++ causes second) ++ rest ≡ ours ++ more =
      ap (λ (cs : List Cause). cs ++ rest) (map-append f (causes first) (causes second)) ∙ append_assoc ours (map f (causes second)) rest in
      let count : splits (outline first) ≡ length ours = outlined_splits first ∙ sym (causes_count first) ∙ sym (length-map (causes first) f) in
      let behind : drop (splits (outline first)) (map f (causes first ++ causes second) ++ rest) ≡ more =
      ap (drop (splits (outline first))) parts ∙ ap (λ k. drop k (ours ++ more)) count ∙ drop-append_seam ours more in (
        holds n split.cause each.0,
        subst (λ (cs : List Cause). EachSplitOf Q (child n split.choice First) (outline first) cs) (sym parts)
            (each_entry (child n split.choice First) first more each.1),
        subst (λ (cs : List Cause). EachSplitOf Q (child n split.choice Second) (outline second) cs) (sym behind)
            (each_entry (child n split.choice Second) second rest each.2),
      )

bared_entries : (Q : Limits → Cause → Type 0) (n : Limits) (t : SearchTree) (bare : Bool) (cs : List Cause) → EachSplitOf Q n (outline t) cs
    → EachSplitOf Q n (outline_with bare t) cs
bared_entries Q n (LeafNode (OpenLeaf p)) true cs each = tt
bared_entries Q n (LeafNode (OpenLeaf p)) false cs each = tt
bared_entries Q n (LeafNode (ClosedLeaf p)) bare cs each = tt
bared_entries Q n (SplitNode split first second) bare cs each = each

numbers_back : (all : List Cause) (ks : List ℕ) → map (λ (k : SplitCause). cause_with all k.now) (map numbered ks) ≡ map (cause_with all) ks
numbers_back all [] = refl
numbers_back all (k ∷ ks) = ap (λ (cs : List Cause). cause_with all k ∷ cs) (numbers_back all ks)

-- the causes by the numbers of an outline show in the tree that is handed out
pub shown_outline : (columns : List Route) (u : ℕ) (root : Limits) (nodes : List Node) (p : ℕ → Prices) (c : ℕ → SplitCause) (bare : Bool)
    (all : List Cause) (ks : List ℕ) → map numbered ks ≡ causes (tree_of p numbered nodes)
    → EachSplit (λ m k t. IsShownNumber columns u all m k) root (tree_of p numbered nodes)
    → EachSplitOf (IsShownCause columns u) root (outline_with bare (tree_of p c nodes)) (map (cause_with all) ks)
shown_outline columns u root nodes p c bare all ks is each =
    let f : SplitCause → Cause = λ k. cause_with all k.now in
    let tree = tree_of p numbered nodes in
    let entries : map f (causes tree) ++ [] ≡ map (cause_with all) ks =
    append-nil (map f (causes tree)) ∙ ap (map f) (sym is) ∙ numbers_back all ks in
    bared_entries (IsShownCause columns u) root (tree_of p c nodes) bare (map (cause_with all) ks)
    (subst (λ (t : BranchTree). EachSplitOf (IsShownCause columns u) root t (map (cause_with all) ks)) (same_outline p numbered c (length nodes) nodes 0)
    (subst (λ (cs : List Cause). EachSplitOf (IsShownCause columns u) root (outline tree) cs) entries
    (each_entry (IsShownNumber columns u all) (IsShownCause columns u) f (λ m k h. h.shown) root tree [] each)))
