-- how a writer goes through a tree
use Rattle.std.proofs.Common.{◌≡◌, ◌<◌, ◌≤◌, ◌+◌, ◌^◌, ◌++◌, ◌∷◌, [], ℕ, suc, List, Bool, true, false, length, map, drop, get_or, ap, sym, refl, subst, ◌∙◌, append_assoc, arith}
use Rattle.std.specs.Prelude.{Result, Ok, Err, IfOk, IsErr}
use Rattle.std.specs.List.{flat_map}
use Rattle.std.proofs.lemmas.List.{length-map}
use Rattle.crew_terms.specs.Branches.{LeafNode, SplitNode, Claim, Bare, Open, Closed, InFirst, InSecond, depth, splits, closed, left_open, leaf_sum, closed_in, left_open_in, frame_sum}
use Rattle.crew_terms.specs.Leaf.{Prices}
use Rattle.crew_terms.specs.Limits.{Limits}
use Rattle.crew_terms.specs.Tree.{CanSplit, child}
use Rattle.crew_terms.specs.Words.{Words, line_text}
use Rattle.crew_terms.specs.declared.Choice.{Choice}
use Rattle.crew_terms.specs.declared.Side.TheVariants.{First, Second}
use Rattle.crew_terms.specs.declared.TheConstants.{MOST_NODES}
use Rattle.crew_terms.specs.declared.TreeCounts.{TreeCounts}
use Rattle.crew_io.specs.Puts.{Puts}
use Rattle.crew_io.specs.declared.sink.Sink.{Ghosts}
use Rattle.crew_io.specs.Chains.{puts_front, whole_front}
use Rattle.dossier_terms.specs.Causes.{Cause}
use Rattle.dossier_terms.specs.Dossier.{Leaf, Split, Written}
use Rattle.dossier_terms.specs.Lines.{cause_lines, choice_line, claim_lines, node_lines, split_lines}
use Rattle.dossier_terms.specs.Reading.{Begun, Ends, Nodes, limits_below, node_done}
use Rattle.dossier_terms.specs.declared.DossierForm.TheVariants.{Two}
use Rattle.branch_tree.specs.Trees.{BranchTree, ClaimedLeaf, preorder}
use Rattle.branch_tree.specs.declared.tree.LeafState.{LeafState}
use Rattle.branch_tree.specs.declared.tree.LeafState.TheVariants as states
use Rattle.branch_tree.specs.declared.tree.Node.{Node}
use Rattle.branch_tree.specs.declared.tree.Node.TheVariants as nodes
use Rattle.node_limits.specs.Trail.{Trail}
use Rattle.tree_walk.specs.Way.{Arrives, branch_of, Enters, IsAt, IsLeaf, LeavesLeaf, Walked, leaves_like}
use Rattle.cert_write.specs.Causes.{cause_of}
use Rattle.cert_write.specs.declared.causes.Cause.{Cause as GivenCause}
use Rattle.cert_write.specs.Dossiers.{IsPricedClaim, causes_of}
use Rattle.cert_write.specs.Walks.{AreGiven, Due, FirstDue, GoesOn, IsAtDue, IsAtPlace, Level, Place, SecondDue, Stands, Whole, causes_to_come, frames, is_closed, later_causes, later_lines, later_nodes, lines_to_come, nodes_to_come, place_after, tree_above}

-- ---- numbers

-- so many splits are above the node
splits_within : (levels : List Level) (node : Written) → frame_sum splits 1 (frames levels) + splits node ≤ splits (tree_above levels node)
splits_within [] node = omega arith
splits_within (FirstDue split given second ∷ levels) node = let i = splits_within levels (SplitNode split node second) in omega (arith, i)
splits_within (SecondDue split first ∷ levels) node = let i = splits_within levels (SplitNode split first node) in omega (arith, i)

leaves_within : (f : Claim Leaf → ℕ) (levels : List Level) (node : Written) → frame_sum (leaf_sum f) 0 (frames levels) + leaf_sum f node ≤ leaf_sum f (tree_above levels node)
leaves_within f [] node = omega arith
leaves_within f (FirstDue split given second ∷ levels) node = let i = leaves_within f levels (SplitNode split node second) in omega (arith, i)
leaves_within f (SecondDue split first ∷ levels) node = let i = leaves_within f levels (SplitNode split first node) in omega (arith, i)

few_leaves : (f : Claim Leaf → ℕ) → ((claim : Claim Leaf) → f claim ≤ 1) → (t : Written) → leaf_sum f t ≤ splits t + 1
few_leaves f one (LeafNode claim) = let i = one claim in omega (arith, i)
few_leaves f one (SplitNode split first second) = let a = few_leaves f one first in let b = few_leaves f one second in omega (arith, a, b)

closed_one : (claim : Claim Leaf) → closed_in claim ≤ 1
closed_one Bare = omega arith
closed_one (Open leaf) = omega arith
closed_one (Closed leaf) = omega arith

open_one : (claim : Claim Leaf) → left_open_in claim ≤ 1
open_one Bare = omega arith
open_one (Open leaf) = omega arith
open_one (Closed leaf) = omega arith

depth_within : (levels : List Level) (node : Written) → length levels + depth node ≤ depth (tree_above levels node)
depth_within [] node = omega arith
depth_within (FirstDue split given second ∷ levels) node = let i = depth_within levels (SplitNode split node second) in omega (arith, i)
depth_within (SecondDue split first ∷ levels) node = let i = depth_within levels (SplitNode split first node) in omega (arith, i)

frames_length : (levels : List Level) → length (frames levels) ≡ length levels
frames_length [] = refl
frames_length (FirstDue split given second ∷ levels) = ap suc (frames_length levels)
frames_length (SecondDue split first ∷ levels) = ap suc (frames_length levels)

module _ (root : Limits) (whole : Written) (limits : Trail) (walk : Walked) (levels : List Level) (given : BranchTree) (node : Written) (is : IsAtDue root whole limits walk levels given node) where
  above_length : length walk.above ≡ length levels
  above_length = ap length is.at.way.kept ∙ length-map (frames levels) branch_of ∙ frames_length levels

  pub seen_few : walk.seen.splits + 1 < 2 ^ 32
  seen_few =
      let s = ap (λ (c : TreeCounts). c.splits) is.at.seen in
      let w = splits_within levels node in
      let t = ap splits is.tree in
      let f = is.few in
      omega (arith, s, w, t, f)

  pub leaves_few : (b : Bool) → leaves_like b walk.seen + 1 < 2 ^ 32
  leaves_few true =
      let s = ap (λ (c : TreeCounts). c.closed) is.at.seen in
      let w = leaves_within closed_in levels node in
      let t = ap closed is.tree in
      let l = few_leaves closed_in closed_one whole in
      let f = is.few in
      omega (arith, s, w, t, l, f)
  leaves_few false =
      let s = ap (λ (c : TreeCounts). c.left_open) is.at.seen in
      let w = leaves_within left_open_in levels node in
      let t = ap left_open is.tree in
      let l = few_leaves left_open_in open_one whole in
      let f = is.few in
      omega (arith, s, w, t, l, f)

  pub deeper : 1 ≤ depth node → length walk.above < walk.depth
  deeper some =
      let a = above_length in
      let d = depth_within levels node in
      let t = ap depth is.tree in
      let w = is.deep in
      omega (arith, a, d, t, w, some)

  pub some_spare : 1 ≤ depth node → 1 ≤ limits.spare
  some_spare some =
      let a = above_length in
      let d = depth_within levels node in
      let t = ap depth is.tree in
      let s = is.spare in
      omega (arith, a, d, t, s, some)

-- ---- what comes after a node

after_nodes : (levels : List Level) (node : Written) → nodes_to_come (place_after levels node) ≡ later_nodes levels
after_nodes [] node = refl
after_nodes (FirstDue split given second ∷ levels) node = refl
after_nodes (SecondDue split first ∷ levels) node = after_nodes levels (SplitNode split first node)

after_causes : (levels : List Level) (node : Written) → causes_to_come (place_after levels node) ≡ later_causes levels
after_causes [] node = refl
after_causes (FirstDue split given second ∷ levels) node = refl
after_causes (SecondDue split first ∷ levels) node = after_causes levels (SplitNode split first node)

after_lines : (root : Limits) (levels : List Level) (node : Written) → lines_to_come root (place_after levels node) ≡ later_lines root levels
after_lines root [] node = refl
after_lines root (FirstDue split given second ∷ levels) node = refl
after_lines root (SecondDue split first ∷ levels) node = after_lines root levels (SplitNode split first node)

module _ (root : Limits) (whole : Written) (limits : Trail) (walk : Walked) (b : Begun) (c : TreeCounts)
    (depth_is : walk.depth ≡ depth whole) (spare_is : limits.spare + length walk.above ≡ depth whole) (few : splits whole ≤ MOST_NODES) where
  after_at : (levels : List Level) (node : Written) (r : Bool) → Arrives root limits walk b c (node_done b c (frames levels) node) r → AreGiven root levels
      → tree_above levels node ≡ whole → IsAtPlace root whole limits walk (place_after levels node)
  after_at [] node r to later tree = tt
  after_at (FirstDue split given second ∷ levels) node true to later tree = let e : Nodes b c (InSecond split node ∷ frames levels) ≡ Ends b c to.0 = to.1 in absurd (cc)
  after_at (FirstDue split given second ∷ levels) node false to later tree =
      let e : Nodes b c (InSecond split node ∷ frames levels) ≡ Nodes b c to.0 = to.1 in
      let f : to.0 ≡ InSecond split node ∷ frames levels = cc in
      record {
        at = subst (IsAt root limits walk) f to.2;
        valid = later.0.0;
        same = later.0.1;
        later = later.1;
        tree = tree;
        deep = depth_is;
        spare = spare_is;
        few = few;
      }
  after_at (SecondDue split first ∷ levels) node r to later tree = after_at levels (SplitNode split first node) r to later tree

-- ---- a split

-- what is due where the next node is a split
pub record SplitDue (root : Limits) (whole : Written) (choice : Choice) (more : List Node) (causes : List Cause) (limits : Trail) (walk : Walked) (place : Place) : Type 0 where
  pub levels : List Level
  pub split : Split
  pub given_first : BranchTree
  pub given_second : BranchTree
  pub low : Written
  pub high : Written
  pub place_is : place ≡ Due levels (SplitNode split.choice given_first given_second) (SplitNode split low high)
  pub choice_is : choice ≡ split.choice
  pub nodes : more ≡ preorder given_first ++ (preorder given_second ++ later_nodes levels)
  pub causes_are : causes ≡ split.cause ∷ (causes_of low ++ (causes_of high ++ later_causes levels))
  pub at : IsAtDue root whole limits walk levels (SplitNode split.choice given_first given_second) (SplitNode split low high)

pub split_due : (root : Limits) (whole : Written) (choice : Choice) (more : List Node) (causes : List Cause) (limits : Trail) (walk : Walked) (place : Place)
    → Stands root whole (nodes.Split choice ∷ more) causes limits walk place → SplitDue root whole choice more causes limits walk place
split_due root whole choice more causes limits walk Whole st = let e : nodes.Split choice ∷ more ≡ [] = st.nodes in absurd (cc)
split_due root whole choice more causes limits walk (Due levels (LeafNode leaf) t) st = let e : nodes.Split choice ∷ more ≡ nodes.Leaf leaf.state leaf.prices ∷ later_nodes levels = st.nodes in absurd (cc)
split_due root whole choice more causes limits walk (Due levels (SplitNode c f s) (LeafNode claim)) st = absurd st.at.same
split_due root whole choice more causes limits walk (Due levels (SplitNode c f s) (SplitNode split low high)) st =
    let e : nodes.Split choice ∷ more ≡ nodes.Split c ∷ ((preorder f ++ preorder s) ++ later_nodes levels) = st.nodes in
    let same : c ≡ split.choice = st.at.same.0 in
    let first : choice ≡ c = cc in
    let others : more ≡ (preorder f ++ preorder s) ++ later_nodes levels = cc in
    record {
      levels = levels;
      split = split;
      given_first = f;
      given_second = s;
      low = low;
      high = high;
      place_is = ap (λ x. Due levels (SplitNode x f s) (SplitNode split low high)) same;
      choice_is = first ∙ same;
      nodes = others ∙ append_assoc (preorder f) (preorder s) (later_nodes levels);
      causes_are = st.causes ∙ ap (λ r. split.cause ∷ r) (append_assoc (causes_of low) (causes_of high) (later_causes levels));
      at = subst (λ x. IsAtDue root whole limits walk levels (SplitNode x f s) (SplitNode split low high)) same st.at;
    }

-- the same where the next node is known to be a split
pub split_there : (root : Limits) (whole : Written) (node : Node) (choice : Choice) (more : List Node) (causes : List Cause) (limits : Trail) (walk : Walked) (place : Place) → node ≡ nodes.Split choice
    → Stands root whole (node ∷ more) causes limits walk place → SplitDue root whole choice more causes limits walk place
split_there root whole node choice more causes limits walk place is st =
    split_due root whole choice more causes limits walk place (subst (λ x. Stands root whole (x ∷ more) causes limits walk place) is st)

-- what a split needs
pub can_split : (root : Limits) (whole : Written) (choice : Choice) (more : List Node) (causes : List Cause) (limits : Trail) (walk : Walked) (place : Place)
    (due : SplitDue root whole choice more causes limits walk place) → CanSplit limits.limits choice
can_split root whole choice more causes limits walk place due =
    subst (λ x. CanSplit limits.limits x) (sym due.choice_is) (subst (λ n. CanSplit n due.split.choice) (sym due.at.at.way.limits) due.at.valid.0)

-- where the first child is due
abbrev pub next_place : (root : Limits) (whole : Written) (choice : Choice) (more : List Node) (causes : List Cause) (limits : Trail) (walk : Walked) (place : Place)
    → SplitDue root whole choice more causes limits walk place → Place
next_place root whole choice more causes limits walk place due = Due (FirstDue due.split due.given_second due.high ∷ due.levels) due.given_first due.low

abbrev pub split_text : Choice → Cause → List Words
split_text choice cause = choice_line choice ∷ cause_lines cause

module _ {K E : Type 0} (sink : Ghosts K) (root : Limits) (whole : Written) (choice : Choice) (more : List Node) (cause : Cause) (causes : List Cause) (old_limits : Trail) (old_walk : Walked)
    (place : Place) (due : SplitDue root whole choice more causes old_limits old_walk place) (is : cause ≡ due.split.cause) (old new : K) (limits : Trail) (walk : Walked) (result : Result ℕ E)
    (puts : Puts sink (flat_map line_text (split_text choice cause)) old new result) where
  split_lines_are : lines_to_come root place ≡ split_text choice cause ++ lines_to_come root (next_place root whole choice more causes old_limits old_walk place due)
  split_lines_are =
      let n = limits_below root (frames due.levels) in
      let own = split_lines Two due.split in
      let a = node_lines Two (child n due.split.choice First) due.low in
      let b = node_lines Two (child n due.split.choice Second) due.high in
      let l = later_lines root due.levels in
      ap (lines_to_come root) due.place_is
      ∙ append_assoc (own ++ a) b l ∙ append_assoc own a (b ++ l)
      ∙ ap (λ x. split_text x due.split.cause ++ (a ++ (b ++ l))) (sym due.choice_is) ∙ ap (λ x. split_text choice x ++ (a ++ (b ++ l))) (sym is)

  pub split_goes : (stands : IfOk result (λ used. Stands root whole more (drop used causes) limits walk (next_place root whole choice more causes old_limits old_walk place due))) → GoesOn sink root whole more causes place old new limits walk result
  split_goes stands = record { lines = split_text choice cause; next = next_place root whole choice more causes old_limits old_walk place due; whole_lines = split_lines_are; puts = puts; stands = stands }

module _ (root : Limits) (whole : Written) (choice : Choice) (more : List Node) (causes : List Cause) (old_limits : Trail) (old_walk : Walked) (place : Place)
    (due : SplitDue root whole choice more causes old_limits old_walk place) (limits : Trail) (walk : Walked) where
  pub split_stands : Enters choice old_limits old_walk limits walk → walk.depth ≡ old_walk.depth → limits.spare + length walk.above ≡ old_limits.spare + length old_walk.above
      → Stands root whole more (drop 1 causes) limits walk (next_place root whole choice more causes old_limits old_walk place due)
  split_stands enters depth_is spare_is = record {
    nodes = due.nodes;
    causes = ap (drop 1) due.causes_are;
    at = record {
      at = subst (λ x. IsAt root limits walk (InFirst (record { choice = x; cause = due.split.cause }) ∷ frames due.levels)) due.choice_is (enters root (frames due.levels) due.split.cause due.at.at);
      valid = due.at.valid.1;
      same = due.at.same.1;
      later = ((due.at.valid.2, due.at.same.2), due.at.later);
      tree = due.at.tree;
      deep = depth_is ∙ due.at.deep;
      spare = spare_is ∙ due.at.spare;
      few = due.at.few;
    };
  }

-- ---- a leaf

-- what is due where the next node is a leaf
pub record LeafDue (root : Limits) (whole : Written) (state : LeafState) (prices : Prices) (more : List Node) (causes : List Cause) (limits : Trail) (walk : Walked) (place : Place) : Type 0 where
  pub levels : List Level
  pub claim : Claim Leaf
  pub place_is : place ≡ Due levels (LeafNode (record { state = state; prices = prices })) (LeafNode claim)
  pub nodes : more ≡ later_nodes levels
  pub causes_are : causes ≡ later_causes levels
  pub at : IsAtDue root whole limits walk levels (LeafNode (record { state = state; prices = prices })) (LeafNode claim)

pub leaf_due : (root : Limits) (whole : Written) (state : LeafState) (prices : Prices) (more : List Node) (causes : List Cause) (limits : Trail) (walk : Walked) (place : Place)
    → Stands root whole (nodes.Leaf state prices ∷ more) causes limits walk place → LeafDue root whole state prices more causes limits walk place
leaf_due root whole state prices more causes limits walk Whole st = let e : nodes.Leaf state prices ∷ more ≡ [] = st.nodes in absurd (cc)
leaf_due root whole state prices more causes limits walk (Due levels (SplitNode c f s) t) st =
    let e : nodes.Leaf state prices ∷ more ≡ nodes.Split c ∷ ((preorder f ++ preorder s) ++ later_nodes levels) = st.nodes in absurd (cc)
leaf_due root whole state prices more causes limits walk (Due levels (LeafNode leaf) (SplitNode split low high)) st = absurd st.at.same
leaf_due root whole state prices more causes limits walk (Due levels (LeafNode leaf) (LeafNode claim)) st =
    let e : nodes.Leaf state prices ∷ more ≡ nodes.Leaf leaf.state leaf.prices ∷ later_nodes levels = st.nodes in
    let s : leaf.state ≡ state = cc in
    let p : leaf.prices ≡ prices = cc in
    let same : leaf ≡ record { state = state; prices = prices } = leaf_is leaf state prices s p in
    record {
      levels = levels;
      claim = claim;
      place_is = ap (λ x. Due levels (LeafNode x) (LeafNode claim)) same;
      nodes = (let f : more ≡ later_nodes levels = cc in f);
      causes_are = st.causes;
      at = subst (λ x. IsAtDue root whole limits walk levels (LeafNode x) (LeafNode claim)) same st.at;
    }
  where
    leaf_is : (leaf : ClaimedLeaf) (state : LeafState) (prices : Prices) → leaf.state ≡ state → leaf.prices ≡ prices → leaf ≡ record { state = state; prices = prices }
    leaf_is leaf state prices s p = ap (λ x. record { state = x; prices = leaf.prices }) s ∙ ap (λ x. record { state = state; prices = x }) p

-- the same where the next node is known to be a leaf
pub leaf_there : (root : Limits) (whole : Written) (node : Node) (state : LeafState) (prices : Prices) (more : List Node) (causes : List Cause) (limits : Trail) (walk : Walked) (place : Place)
    → node ≡ nodes.Leaf state prices → Stands root whole (node ∷ more) causes limits walk place → LeafDue root whole state prices more causes limits walk place
leaf_there root whole node state prices more causes limits walk place is st =
    leaf_due root whole state prices more causes limits walk place (subst (λ x. Stands root whole (x ∷ more) causes limits walk place) is st)

-- a leaf is closed as its state says
pub leaf_like : (n : Limits) (state : LeafState) (p : Prices) (claim : Claim Leaf) → IsPricedClaim n (record { state = state; prices = p }) claim → IsLeaf (is_closed state) claim
leaf_like n state p Bare is = ap is_closed (let e : state ≡ states.Bare = is in e)
leaf_like n state p (Open leaf) is = ap is_closed (let e : state ≡ states.Open = is.0 in e)
leaf_like n state p (Closed leaf) is = ap is_closed (let e : state ≡ states.Closed = is.0 in e)

module _ {K E : Type 0} (sink : Ghosts K) (root : Limits) (whole : Written) (state : LeafState) (prices : Prices) (more : List Node) (causes : List Cause) (old_limits : Trail) (old_walk : Walked)
    (place : Place) (due : LeafDue root whole state prices more causes old_limits old_walk place) (old new : K) (limits : Trail) (walk : Walked) (result : Result ℕ E)
    (puts : (claim : Claim Leaf) → IsPricedClaim old_limits.limits (record { state = state; prices = prices }) claim → Puts sink (flat_map line_text (claim_lines Two old_limits.limits claim)) old new result) where
  pub leaf_goes : IfOk result (λ used. Stands root whole more (drop used causes) limits walk (place_after due.levels (LeafNode due.claim))) → GoesOn sink root whole more causes place old new limits walk result
  leaf_goes stands =
      let n = limits_below root (frames due.levels) in
      record {
        lines = claim_lines Two n due.claim;
        next = place_after due.levels (LeafNode due.claim);
        whole_lines = ap (lines_to_come root) due.place_is ∙ ap (λ l. claim_lines Two n due.claim ++ l) (sym (after_lines root due.levels (LeafNode due.claim)));
        puts = subst (λ m. Puts sink (flat_map line_text (claim_lines Two m due.claim)) old new result) due.at.at.way.limits
            (puts due.claim (subst (λ m. IsPricedClaim m (record { state = state; prices = prices }) due.claim) (sym due.at.at.way.limits) due.at.same));
        stands = stands;
      }

module _ (root : Limits) (whole : Written) (state : LeafState) (prices : Prices) (more : List Node) (causes : List Cause) (old_limits : Trail) (old_walk : Walked) (place : Place)
    (due : LeafDue root whole state prices more causes old_limits old_walk place) (limits : Trail) (walk : Walked) where
  pub leaf_stands : (b : Bool) → b ≡ is_closed state → (r : Bool) → LeavesLeaf b old_limits old_walk limits walk r → walk.depth ≡ old_walk.depth
      → limits.spare + length walk.above ≡ old_limits.spare + length old_walk.above → Stands root whole more causes limits walk (place_after due.levels (LeafNode due.claim))
  leaf_stands b is r leaves depth_is spare_is =
      let n = limits_below root (frames due.levels) in
      let like = subst (λ x. IsLeaf x due.claim) (sym is) (leaf_like n state prices due.claim due.at.same) in
      let begun : Begun = record { form = Two; instance = root.instance; budget = 0; kept = 0; pool = []; plan = []; bound = 0 } in
      let counts : TreeCounts = record { splits = 0; closed = 0; left_open = 0; depth = 0 } in
      record {
        nodes = due.nodes ∙ sym (after_nodes due.levels (LeafNode due.claim));
        causes = due.causes_are ∙ sym (after_causes due.levels (LeafNode due.claim));
        at = after_at root whole limits walk begun counts (depth_is ∙ due.at.deep) (spare_is ∙ due.at.spare) due.at.few due.levels (LeafNode due.claim) r
            (leaves root (frames due.levels) due.claim begun counts due.at.at like) due.at.later due.at.tree;
      }

-- ---- what a call that fails leaves to show

-- the first of the causes that are given is the first that is written
pub first_cause : (given : List GivenCause) (d : GivenCause) (cause : Cause) (rest : List Cause) → map cause_of given ≡ cause ∷ rest → cause_of (get_or given 0 d) ≡ cause
first_cause [] d cause rest e = cc
first_cause (x ∷ xs) d cause rest e = cc

-- some cause is to come
pub some_cause : (given : List GivenCause) (cause : Cause) (rest : List Cause) → map cause_of given ≡ cause ∷ rest → 0 < length given
some_cause [] cause rest e = cc
some_cause (x ∷ xs) cause rest e = omega arith

-- of a fault nothing is said that is said of an answer
pub not_ok : {T E : Type 0} (P : T → Type 0) (r : Result T E) → IsErr r → IfOk r P
not_ok P (Ok x) is = absurd (cc)
not_ok P (Err e) is = tt

-- the same text, and another answer that is a fault too
pub puts_fails : {K T E U F : Type 0} (sink : Ghosts K) (text : List ℕ) (old new : K) (e : E) (result : Result U F) → IsErr result → Puts {T = T} sink text old new (Err e) → Puts sink text old new result
puts_fails sink text old new e result fails puts = puts_front sink text text old new e result fails puts (whole_front text)
