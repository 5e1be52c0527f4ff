-- the way of a walk, up to a parent and down into a child
use Rattle.std.proofs.Common.{◌≡◌, List, [], ◌∷◌, drop, None, Some, ap, sym, subst, ◌∙◌, refl}
use Rattle.crew_terms.specs.Limits.{Limits}
use Rattle.crew_terms.specs.Branches.{SplitNode, InFirst, InSecond, split_of}
use Rattle.crew_terms.specs.Tree.{child, CanSplit}
use Rattle.crew_terms.specs.declared.Choice.{Choice}
use Rattle.crew_terms.specs.declared.Side.{Side}
use Rattle.crew_terms.specs.declared.Side.TheVariants.{First, Second}
use Rattle.crew_terms.specs.declared.TreeCounts.{TreeCounts}
use Rattle.dossier_terms.specs.Dossier.{Written}
use Rattle.dossier_terms.specs.Reading.{Nodes, node_done, Begun, Above, limits_below}
use Rattle.node_limits.specs.Trail.{Trail, changed}
use Rattle.tree_walk.specs.Splits.{second_child, second_of}
use Rattle.tree_walk.specs.Way.{Walked, IsWay, IsAt, counts_in, innermost, branch_of}
use Rattle.node_limits.specs.declared.walks.Branch.{Branch}
use Rattle.tree_walk.proofs.Numbers.{counts_past, first_counted, second_counted}

-- the walk stands at a node whose tree is whole and counted
pub record IsPast (root : Limits) (t : Trail) (w : Walked) (fs : List Above) (tree : Written) : Type 0 where
  pub way : IsWay root t w.above fs
  pub seen : w.seen ≡ counts_past fs tree

-- the limits of the child that a branch leads to
abbrev pub limits_in : Limits → Branch → Limits
limits_in n b = child n b.choice b.side

-- ---- instances

-- ---- a step

-- the way to the parent
pub up : (root : Limits) (t u : Trail) (bs : List Branch) (f : Above) (fs : List Above) → IsWay root t bs (f ∷ fs) → t.past ≡ u.limits ∷ u.past → IsWay root u (drop 1 bs) fs
up root t u bs f fs way undone =
    let past = way.past in record {
      limits = cc;
      past = cc;
      splits = way.splits.1;
      kept = ap (λ xs. drop 1 xs) way.kept;
    }

-- the way into a child
pub down : (root : Limits) (u t : Trail) (bs : List Branch) (f : Above) (fs : List Above) → IsWay root u bs fs → CanSplit (limits_below root fs) (split_of f).choice
    → t.limits ≡ limits_in u.limits (branch_of f) → t.past ≡ u.limits ∷ u.past → IsWay root t (branch_of f ∷ bs) (f ∷ fs)
down root u t bs f fs way is limits past = record {
  limits = limits ∙ ap (λ n. limits_in n (branch_of f)) way.limits;
  past = past ∙ rw (way.limits, way.past) refl;
  splits = (is, way.splits);
  kept = ap (λ xs. branch_of f ∷ xs) way.kept;
}

-- the walk turned from one child into another
into : (root : Limits) (u new : Trail) (w to : Walked) (f : Above) (fs : List Above) (next : Branch)
    → IsWay root u (drop 1 w.above) fs → CanSplit (limits_below root fs) (split_of f).choice → branch_of f ≡ next
    → new ≡ changed u (limits_in u.limits next) → to ≡ record w { above = next ∷ drop 1 w.above } → w.seen ≡ counts_in (f ∷ fs) → IsAt root new to (f ∷ fs)
into root u new w to f fs next way is same changes turns seen =
    let limits : new.limits ≡ limits_in u.limits (branch_of f) = ap (λ (t : Trail). t.limits) changes ∙ ap (limits_in u.limits) (sym same) in
    let past : new.past ≡ u.limits ∷ u.past = ap (λ (t : Trail). t.past) changes in
    let above : to.above ≡ branch_of f ∷ drop 1 w.above = ap (λ (v : Walked). v.above) turns ∙ ap (λ b. b ∷ drop 1 w.above) (sym same) in
    record {
      way = subst (λ bs. IsWay root new bs (f ∷ fs)) (sym above) (down root u new (drop 1 w.above) f fs way is limits past);
      seen = ap (λ (v : Walked). v.seen) turns ∙ seen;
    }

-- the first child is whole, and the walk goes into the second
pub turned : (root : Limits) (t u new : Trail) (w to : Walked) (f : Above) (fs : List Above) (tree : Written) (next : Branch) (b : Begun) (c : TreeCounts)
    → IsPast root t w (f ∷ fs) tree → t.past ≡ u.limits ∷ u.past → second_of (branch_of f) ≡ Some next
    → new ≡ changed u (limits_in u.limits next) → to ≡ record w { above = next ∷ drop 1 w.above }
    → (gs : List Above) × (node_done b c (f ∷ fs) tree ≡ Nodes b c gs) × IsAt root new to gs
turned root t u new w to (InFirst split) fs tree next b c past undone second changes turns =
    let way = up root t u w.above (InFirst split) fs past.way undone in
    let is : branch_of (InSecond split tree) ≡ next = cc second in
    (InSecond split tree ∷ fs, refl, into root u new w to (InSecond split tree) fs next way past.way.splits.0 is changes turns (past.seen ∙ first_counted fs split tree))
turned root t u new w to (InSecond split first) fs tree next b c past undone second changes turns = absurd (cc)

-- the second child is whole, and with it the parent
pub risen : (root : Limits) (t u : Trail) (w to : Walked) (f : Above) (fs : List Above) (tree : Written)
    → IsPast root t w (f ∷ fs) tree → t.past ≡ u.limits ∷ u.past → second_of (branch_of f) ≡ None → to ≡ record w { above = drop 1 w.above }
    → (parent : Written) × ((b : Begun) (c : TreeCounts) → node_done b c (f ∷ fs) tree ≡ node_done b c fs parent) × IsPast root u to fs parent
risen root t u w to (InSecond split first) fs tree past undone second rises =
    let way = up root t u w.above (InSecond split first) fs past.way undone in (
      SplitNode split first tree,
      (λ b c. refl),
      record {
        way = subst (λ bs. IsWay root u bs fs) (sym (ap (λ (v : Walked). v.above) rises)) way;
        seen = ap (λ (v : Walked). v.seen) rises ∙ past.seen ∙ second_counted fs split first tree;
      },
    )
risen root t u w to (InFirst split) fs tree past undone second rises = absurd (cc)

-- the innermost branch above is that of the innermost frame
pub innermost_is : (root : Limits) (t : Trail) (w : Walked) (f : Above) (fs : List Above) (tree : Written) (s : Branch) → IsPast root t w (f ∷ fs) tree → innermost w.above ≡ Some s → branch_of f ≡ s
innermost_is root t w f fs tree s past some = let e : innermost w.above ≡ Some (branch_of f) = ap innermost past.way.kept in cc (e, some)

pub none_above : (root : Limits) (t : Trail) (w : Walked) (tree : Written) (s : Branch) → IsPast root t w [] tree → innermost w.above ≡ Some s → ⊥
none_above root t w tree s past some = let e : innermost w.above ≡ None = ap innermost past.way.kept in cc (e, some)

-- the second child of a split is one of the same node
pub second_is_split : (n : Limits) (choice : Choice) (side : Side) (next : Branch) → CanSplit n choice → second_child choice side ≡ Some next → CanSplit n next.choice
second_is_split n choice First next is second = let e : choice ≡ next.choice = cc second in subst (CanSplit n) e is
second_is_split n choice Second next is second = absurd (cc)
