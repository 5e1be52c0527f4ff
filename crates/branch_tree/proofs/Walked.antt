-- a walk over the nodes of a tree counts its numbers
use Rattle.std.proofs.Common.{◌≡◌, ◌≤◌, ◌<◌, ◌+◌, ◌*◌, ◌++◌, ◌∷◌, ℕ, List, [], Bool, true, false, length, get_or, drop, reverse, max, Option, None, Some, arith, refl, sym, ap, ◌∙◌, append_assoc}
use Rattle.std.proofs.lemmas.List.{at_drop_more, at_drop_all, append-nil, length-append, length-reverse, reverse-append}
use Rattle.branch_tree.specs.declared.tree.LeafState.{LeafState}
use Rattle.branch_tree.specs.declared.tree.LeafState.TheVariants.{Bare, Open, Closed}
use Rattle.branch_tree.specs.declared.tree.Node.{Node}
use Rattle.crew_terms.specs.declared.TreeCounts.{TreeCounts}
use Rattle.crew_terms.specs.Branches.{LeafNode, SplitNode, splits, depth, closed_in, left_open_in}
use Rattle.crew_terms.specs.declared.TheConstants.{MOST_NODES}
use Rattle.branch_tree.specs.Trees.{BranchTree, preorder, claim_in, closed, left_open, state_of, with_leaf, IsPreorder, AreCountsOf}
use Rattle.branch_tree.specs.Levels.{next_node}

-- where a walk stands: the splits above the node that is due, the innermost first, and the numbers so far
pub record Standing : Type 0 where
  pub above : List Bool
  pub counts : TreeCounts

abbrev pub start : Standing
start = record { above = []; counts = record { splits = 0; closed = 0; left_open = 0; depth = 0 } }

-- over one node, which is a split or a leaf
abbrev pub step : Option LeafState → Standing → Standing
step None s = record { above = false ∷ s.above; counts = record s.counts { splits = s.counts.splits + 1 } }
step (Some state) s = record { above = next_node s.above; counts = with_leaf state (length s.above) s.counts }

abbrev pub walk : List Node → Standing → Standing
walk [] s = s
walk (n ∷ ns) s = walk ns (step (state_of n) s)

-- over a whole tree
abbrev pub added : BranchTree → Standing → Standing
added t s = record {
  above = next_node s.above;
  counts = record {
    splits = s.counts.splits + splits t;
    closed = s.counts.closed + closed t;
    left_open = s.counts.left_open + left_open t;
    depth = max s.counts.depth (length s.above + depth t);
  };
}

-- the nodes of a tree take the walk over the tree
walk_tree : (t : BranchTree) (rest : List Node) (s : Standing) → walk (preorder t ++ rest) s ≡ walk rest (added t s)
walk_tree (LeafNode leaf) rest s =
    let d : max s.counts.depth (length s.above) ≡ max s.counts.depth (length s.above + 0) = omega arith in
    let n : s.counts.splits ≡ s.counts.splits + 0 = omega arith in
    ap (walk rest) (λ k. record { above = next_node s.above; counts = record { splits = n k; closed = s.counts.closed + closed_in (claim_in leaf.state); left_open = s.counts.left_open + left_open_in (claim_in leaf.state); depth = d k } })
walk_tree (SplitNode choice first second) rest s =
    let inside : Standing = record { above = false ∷ s.above; counts = record s.counts { splits = s.counts.splits + 1 } } in
    let a : (s.counts.splits + 1) + splits first + splits second ≡ s.counts.splits + (splits first + splits second + 1) = omega arith in
    let b : s.counts.closed + closed first + closed second ≡ s.counts.closed + (closed first + closed second) = omega arith in
    let c : s.counts.left_open + left_open first + left_open second ≡ s.counts.left_open + (left_open first + left_open second) = omega arith in
    let d : max (max s.counts.depth (length (false ∷ s.above) + depth first)) (length (true ∷ s.above) + depth second) ≡ max s.counts.depth (length s.above + (max (depth first) (depth second) + 1)) = omega arith in
    ap (λ ns. walk ns inside) (append_assoc (preorder first) (preorder second) rest)
    ∙ walk_tree first (preorder second ++ rest) inside
    ∙ walk_tree second rest (added first inside)
    ∙ ap (walk rest) (λ k. record { above = next_node s.above; counts = record { splits = a k; closed = b k; left_open = c k; depth = d k } })

walk_whole : (t : BranchTree) (ns : List Node) (s : Standing) → ns ≡ preorder t → walk ns s ≡ added t s
walk_whole t ns s e = ap (λ ms. walk ms s) (e ∙ sym (append-nil (preorder t))) ∙ walk_tree t [] s

-- a walk that has come to its end has the numbers of the tree
pub counts_at_end : (ns : List Node) (i : ℕ) (s : Standing) → IsPreorder ns → length ns ≤ i → walk (drop i ns) s ≡ walk ns start → AreCountsOf ns s.counts
counts_at_end ns i s (t, e) le same =
    let d : max 0 (0 + depth t) ≡ depth t = omega arith in
    let a : 0 + splits t ≡ splits t = omega arith in
    let b : 0 + closed t ≡ closed t = omega arith in
    let c : 0 + left_open t ≡ left_open t = omega arith in
    let all : s ≡ added t start = sym (at_drop_all (λ ms. walk ms s) ns i le) ∙ same ∙ walk_whole t ns start e in
    (t, e, ap (λ (x : Standing). x.counts) all ∙ (λ k. record { splits = a k; closed = b k; left_open = c k; depth = d k }))

-- one more node
pub walk_more : (ns : List Node) (i : ℕ) (n : Node) (o : Option LeafState) (s to : Standing) → i < length ns → n ≡ get_or ns i n → o ≡ state_of n → walk (drop i ns) s ≡ walk ns start
    → to ≡ step o s → walk (drop (i + 1) ns) to ≡ walk ns start
walk_more ns i n o s to l is told before e =
    ap (walk (drop (i + 1) ns)) (e ∙ ap (λ p. step p s) told ∙ ap (λ m. step (state_of m) s) is)
    ∙ sym (at_drop_more (λ ms. walk ms s) ns i n l) ∙ before

-- a walk counts no split away
step_grows : (o : Option LeafState) (s : Standing) → s.counts.splits ≤ (step o s).counts.splits
step_grows None s = omega arith
step_grows (Some state) s = omega arith

grows : (ns : List Node) (s : Standing) → s.counts.splits ≤ (walk ns s).counts.splits
grows [] s = omega arith
grows (n ∷ ns) s = let a = grows ns (step (state_of n) s) in let b = step_grows (state_of n) s in omega arith

-- a tree has one more leaf than splits
node_count : (t : BranchTree) → length (preorder t) ≡ splits t + splits t + 1
node_count (LeafNode leaf) = omega arith
node_count (SplitNode choice first second) = let a = node_count first in let b = node_count second in let c = length-append (preorder first) (preorder second) in omega arith

one_state : (state : LeafState) → closed_in (claim_in state) + left_open_in (claim_in state) ≡ 1
one_state Bare = refl
one_state Open = refl
one_state Closed = refl

leaf_count : (t : BranchTree) → closed t + left_open t ≡ splits t + 1
leaf_count (LeafNode leaf) = one_state leaf.state
leaf_count (SplitNode choice first second) = let a = leaf_count first in let b = leaf_count second in omega arith

depth_le_splits : (t : BranchTree) → depth t ≤ splits t
depth_le_splits (LeafNode leaf) = omega arith
depth_le_splits (SplitNode choice first second) = let a = depth_le_splits first in let b = depth_le_splits second in omega arith

few_splits : (ns : List Node) (t : BranchTree) → ns ≡ preorder t → length ns ≤ 2 * MOST_NODES + 1 → splits t ≤ MOST_NODES
few_splits ns t e few = let a = node_count t in let b = ap length e in omega arith

-- the numbers of a tree with so few nodes
pub few_counts : (ns : List Node) (n : TreeCounts) → AreCountsOf ns n → length ns ≤ 2 * MOST_NODES + 1 → (n.splits ≤ MOST_NODES) × (n.closed ≤ MOST_NODES + 1) × (n.left_open ≤ MOST_NODES + 1) × (n.depth ≤ MOST_NODES)
few_counts ns n (t, e, is) few =
    let a = few_splits ns t e few in
    let b = leaf_count t in
    let c = depth_le_splits t in
    let s : n.splits ≡ splits t = ap (λ (m : TreeCounts). m.splits) is in
    let d : n.closed ≡ closed t = ap (λ (m : TreeCounts). m.closed) is in
    let o : n.left_open ≡ left_open t = ap (λ (m : TreeCounts). m.left_open) is in
    let h : n.depth ≡ depth t = ap (λ (m : TreeCounts). m.depth) is in
    (omega arith, omega arith, omega arith, omega arith)

-- where a split is due, there is room for one more above
pub room : (ns : List Node) (i : ℕ) (n : Node) (s : Standing) → IsPreorder ns → length ns ≤ 2 * MOST_NODES + 1 → i < length ns → n ≡ get_or ns i n → state_of n ≡ None → walk (drop i ns) s ≡ walk ns start
    → s.counts.splits < MOST_NODES
room ns i n s (t, e) few l is split before =
    let to : Standing = step None s in
    let a = grows (drop (i + 1) ns) to in
    let b = walk_more ns i n None s to l is (sym split) before refl in
    let c : (walk (drop (i + 1) ns) to).counts.splits ≡ 0 + splits t = ap (λ (x : Standing). x.counts.splits) (b ∙ walk_whole t ns start e) in
    let d = few_splits ns t e few in
    omega arith

-- no more splits are above behind a node than above it
pub next_node_le : (above : List Bool) → length (next_node above) ≤ length above
next_node_le [] = omega arith
next_node_le (true ∷ above) = let a = next_node_le above in omega arith
next_node_le (false ∷ above) = omega arith

-- ---- the levels as the code keeps them, the innermost last

reversed_push : (xs : List Bool) (x : Bool) → reverse (xs ++ x ∷ []) ≡ x ∷ reverse xs
reversed_push xs x = reverse-append xs (x ∷ [])

-- so many nodes were counted
pub record IsAfter (ns : List Node) (i : ℕ) (above : List Bool) (n : TreeCounts) : Type 0 where
  pub walked : walk (drop i ns) (record { above = reverse above; counts = n }) ≡ walk ns start
  pub levels : length above ≤ n.splits
  pub splits : n.splits ≤ i
  pub closed : n.closed ≤ i
  pub left_open : n.left_open ≤ i

module _ (ns : List Node) (i : ℕ) (above : List Bool) (n : TreeCounts) (after : IsAfter ns i above n) (item : Node) (l : i < length ns) (is : item ≡ get_or ns i item) where
  pub has_room : IsPreorder ns → length ns ≤ 2 * MOST_NODES + 1 → state_of item ≡ None → length above < MOST_NODES
  has_room whole few split = let a = room ns i item (record { above = reverse above; counts = n }) whole few l is split after.walked in let b = after.levels in omega arith

  pub after_split : (to : List Bool) (m : TreeCounts) → None ≡ state_of item → to ≡ above ++ false ∷ [] → m ≡ record n { splits = n.splits + 1 } → IsAfter ns (i + 1) to m
  after_split to m split e f =
      let s : m.splits ≡ n.splits + 1 = ap (λ (x : TreeCounts). x.splits) f in
      let c : m.closed ≡ n.closed = ap (λ (x : TreeCounts). x.closed) f in
      let o : m.left_open ≡ n.left_open = ap (λ (x : TreeCounts). x.left_open) f in
      let long : length to ≡ length above + 1 = ap length e ∙ length-append above (false ∷ []) in
      let g : reverse to ≡ false ∷ reverse above = ap reverse e ∙ reversed_push above false in
      record {
        walked = walk_more ns i item None (record { above = reverse above; counts = n }) (record { above = reverse to; counts = m }) l is split after.walked (λ k. record { above = g k; counts = f k });
        levels = let a = after.levels in omega arith;
        splits = let a = after.splits in omega arith;
        closed = let a = after.closed in omega arith;
        left_open = let a = after.left_open in omega arith;
      }

  pub after_leaf : (state : LeafState) (level : ℕ) (to : List Bool) (m : TreeCounts) → Some state ≡ state_of item → level ≡ length above → reverse to ≡ next_node (reverse above) → m ≡ with_leaf state level n → IsAfter ns (i + 1) to m
  after_leaf state level to m leaf at e f =
      let s : m.splits ≡ n.splits = ap (λ (x : TreeCounts). x.splits) f in
      let c : m.closed ≡ n.closed + closed_in (claim_in state) = ap (λ (x : TreeCounts). x.closed) f in
      let o : m.left_open ≡ n.left_open + left_open_in (claim_in state) = ap (λ (x : TreeCounts). x.left_open) f in
      let one = one_state state in
      let from = length-reverse above in
      let into = length-reverse to in
      let g : length (reverse to) ≡ length (next_node (reverse above)) = ap length e in
      let le = next_node_le (reverse above) in
      let level_is : level ≡ length (reverse above) = omega arith in
      record {
        walked = walk_more ns i item (Some state) (record { above = reverse above; counts = n }) (record { above = reverse to; counts = m }) l is leaf after.walked
            (λ k. record { above = e k; counts = (f ∙ ap (λ h. with_leaf state h n) level_is) k });
        levels = let a = after.levels in omega arith;
        splits = let a = after.splits in omega arith;
        closed = let a = after.closed in omega arith;
        left_open = let a = after.left_open in omega arith;
      }
