-- a walk that goes on past a leaf
use Rattle.std.proofs.Common.{◌≡◌, ◌+◌, ◌<◌, Bool, true, false, List, [], ◌∷◌, length, drop, None, Some, arith, ap, sym, subst, ◌∙◌, refl}
use Rattle.std.proofs.lemmas.List.{length-map}
use Rattle.crew_terms.specs.Limits.{Limits}
use Rattle.dossier_terms.specs.Dossier.{Written, Leaf}
use Rattle.crew_terms.specs.Branches.{LeafNode, Claim, Bare, Closed, split_of}
use Rattle.dossier_terms.specs.Reading.{Nodes, Ends, node_done, Begun, Above}
use Rattle.crew_terms.specs.declared.TreeCounts.{TreeCounts}
use Rattle.node_limits.specs.Trail.{Trail, changed}
use Rattle.tree_walk.specs.Splits.{second_of}
use Rattle.crew_terms.specs.Tree.{CanSplit}
use Rattle.dossier_terms.specs.Counted.{instance_below}
use Rattle.tree_walk.specs.Way.{Walked, IsWay, IsAt, IsAtEnd, IsSomewhere, IsLeaf, LeavesLeaf, counts_in, innermost, branch_of, with_leaf}
use Rattle.node_limits.specs.declared.walks.Branch.{Branch}
use Rattle.tree_walk.proofs.Numbers.{leaf_counted, root_counted}
use Rattle.tree_walk.proofs.Ways.{IsPast, limits_in, up, turned, risen, innermost_is, none_above}

-- from each node where the walk may have stood, past a leaf of this kind, it came to a node whose tree is whole
abbrev pub ComesPast : Bool → Trail → Walked → Trail → Walked → Type 0
ComesPast is_closed old from new to = (root : Limits) (fs : List Above) (claim : Claim Leaf) → IsAt root old from fs → IsLeaf is_closed claim
    → (gs : List Above) × (tree : Written) × ((b : Begun) (c : TreeCounts) → node_done b c fs (LeafNode claim) ≡ node_done b c gs tree) × IsPast root new to gs tree

-- and the room is what it was
pub record Leaving (is_closed : Bool) (old : Trail) (from : Walked) (new : Trail) (to : Walked) : Type 0 where
  pub past : ComesPast is_closed old from new to
  pub depth : to.depth ≡ from.depth
  pub spare : new.spare + length to.above ≡ old.spare + length from.above

-- some branch is above where the innermost is one
pub some_above : (bs : List Branch) (b : Branch) → innermost bs ≡ Some b → (length (drop 1 bs) + 1 ≡ length bs) × (0 < length bs)
some_above [] b e = absurd (cc)
some_above (s ∷ bs) b e = (omega arith, omega arith)

pub some_leaf : (is_closed : Bool) → (claim : Claim Leaf) × IsLeaf is_closed claim
some_leaf true = (Closed (record { prices = []; extras = []; tables = [] }), refl)
some_leaf false = (Bare, refl)

-- the leaf is counted
pub counted : (is_closed : Bool) (t : Trail) (w to : Walked) → to.above ≡ w.above → to.seen ≡ with_leaf is_closed (length w.above) w.seen → ComesPast is_closed t w t to
counted is_closed t w to above seen = λ root fs claim at is.
    let levels : length w.above ≡ length fs = ap length at.way.kept ∙ length-map fs branch_of in (
      fs,
      LeafNode claim,
      (λ b c. refl),
      record {
        way = subst (λ bs. IsWay root t bs fs) (sym above) at.way;
        seen = seen ∙ ap (with_leaf is_closed (length w.above)) at.seen ∙ ap (λ n. with_leaf is_closed n (counts_in fs)) levels ∙ leaf_counted is_closed fs claim is;
      },
    )

-- ---- the node that was split

-- the trail has the limits of the node that was split, and they are over the instance of the root
pub record IsSplitAbove (root : Limits) (t : Trail) (s : Branch) : Type 0 where
  pub some : 0 < length t.past
  pub split : (u : Trail) → t.past ≡ u.limits ∷ u.past → CanSplit u.limits s.choice
  pub instance : (u : Trail) → t.past ≡ u.limits ∷ u.past → u.limits.instance ≡ root.instance

split_at : (root : Limits) (t : Trail) (w : Walked) (gs : List Above) (tree : Written) (s : Branch) → IsPast root t w gs tree → innermost w.above ≡ Some s → IsSplitAbove root t s
split_at root t w [] tree s past some = absurd (none_above root t w tree s past some)
split_at root t w (f ∷ fs) tree s past some = record {
  some = let l = ap length past.way.past in omega arith;
  split = λ u undone. let way = up root t u w.above f fs past.way undone in
      subst (λ (b : Branch). CanSplit u.limits b.choice) (innermost_is root t w f fs tree s past some) (subst (λ n. CanSplit n (split_of f).choice) (sym way.limits) past.way.splits.0);
  instance = λ u undone. let way = up root t u w.above f fs past.way undone in ap (λ (n : Limits). n.instance) way.limits ∙ instance_below root fs;
}

turned_at : (root : Limits) (t u new : Trail) (w to : Walked) (gs : List Above) (tree : Written) (s next : Branch) (b : Begun) (c : TreeCounts)
    → IsPast root t w gs tree → innermost w.above ≡ Some s → t.past ≡ u.limits ∷ u.past → second_of s ≡ Some next
    → new ≡ changed u (limits_in u.limits next) → to ≡ record w { above = next ∷ drop 1 w.above }
    → (hs : List Above) × (node_done b c gs tree ≡ Nodes b c hs) × IsAt root new to hs
turned_at root t u new w to [] tree s next b c past some undone second changes is = absurd (none_above root t w tree s past some)
turned_at root t u new w to (f ∷ fs) tree s next b c past some undone second changes is =
    turned root t u new w to f fs tree next b c past undone (ap second_of (innermost_is root t w f fs tree s past some) ∙ second) changes is

risen_at : (root : Limits) (t u : Trail) (w to : Walked) (gs : List Above) (tree : Written) (s : Branch)
    → IsPast root t w gs tree → innermost w.above ≡ Some s → t.past ≡ u.limits ∷ u.past → second_of s ≡ None → to ≡ record w { above = drop 1 w.above }
    → (hs : List Above) × (parent : Written) × ((b : Begun) (c : TreeCounts) → node_done b c gs tree ≡ node_done b c hs parent) × IsPast root u to hs parent
risen_at root t u w to [] tree s past some undone second is = absurd (none_above root t w tree s past some)
risen_at root t u w to (f ∷ fs) tree s past some undone second is =
    let q = risen root t u w to f fs tree past undone (ap second_of (innermost_is root t w f fs tree s past some) ∙ second) is in
    (fs, q.0, q.1, q.2)

-- no split is above: the tree is whole
ended_at : (root : Limits) (t : Trail) (w : Walked) (gs : List Above) (tree : Written) (b : Begun) (c : TreeCounts)
    → IsPast root t w gs tree → innermost w.above ≡ None → (whole : Written) × (node_done b c gs tree ≡ Ends b c whole) × IsAtEnd root t w whole
ended_at root t w [] tree b c past none = (tree, refl, record { limits = past.way.limits; past = past.way.past; above = past.way.kept; seen = past.seen ∙ root_counted tree })
ended_at root t w (f ∷ fs) tree b c past none = let e : innermost w.above ≡ Some (branch_of f) = ap innermost past.way.kept in absurd (cc (e, none))

-- ---- from a node whose tree is whole

module _ (is_closed : Bool) (old t : Trail) (from w : Walked) (past : ComesPast is_closed old from t w) where
  pub split_above : (s : Branch) → (at : IsSomewhere old from) → innermost w.above ≡ Some s → IsSplitAbove at.0 t s
  split_above s at some =
      let leaf = some_leaf is_closed in
      let p = past at.0 at.1 leaf.0 at.2 leaf.1 in
      split_at at.0 t w p.0 p.1 s p.3 some

  pub same_instance : (at : IsSomewhere old from) → t.limits.instance ≡ at.0.instance
  same_instance at =
      let leaf = some_leaf is_closed in
      let p = past at.0 at.1 leaf.0 at.2 leaf.1 in
      ap (λ (n : Limits). n.instance) p.3.way.limits ∙ instance_below at.0 p.0

  pub turns : (u new : Trail) (to : Walked) (s next : Branch) → innermost w.above ≡ Some s → t.past ≡ u.limits ∷ u.past → second_of s ≡ Some next
      → new ≡ changed u (limits_in u.limits next) → to ≡ record w { above = next ∷ drop 1 w.above } → LeavesLeaf is_closed old from new to false
  turns u new to s next some undone second changes is = λ root fs claim b c at kind.
      let p = past root fs claim at kind in
      let q = turned_at root t u new w to p.0 p.1 s next b c p.3 some undone second changes is in
      (q.0, p.2 b c ∙ q.1, q.2)

  pub rises : (u : Trail) (to : Walked) (s : Branch) → innermost w.above ≡ Some s → t.past ≡ u.limits ∷ u.past → second_of s ≡ None
      → to ≡ record w { above = drop 1 w.above } → ComesPast is_closed old from u to
  rises u to s some undone second is = λ root fs claim at kind.
      let p = past root fs claim at kind in
      let q = risen_at root t u w to p.0 p.1 s p.3 some undone second is in
      (q.0, q.1, (λ b c. p.2 b c ∙ q.2 b c), q.3)

  pub ends : innermost w.above ≡ None → LeavesLeaf is_closed old from t w true
  ends none = λ root fs claim b c at kind.
      let p = past root fs claim at kind in
      let q = ended_at root t w p.0 p.1 b c p.3 none in
      (q.0, p.2 b c ∙ q.1, q.2)

pub instance_at : (t : Trail) (w : Walked) (at : IsSomewhere t w) → t.limits.instance ≡ at.0.instance
instance_at t w at = ap (λ (n : Limits). n.instance) at.2.way.limits ∙ instance_below at.0 at.1
