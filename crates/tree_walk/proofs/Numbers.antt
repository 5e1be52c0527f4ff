-- the numbers of a walk while it goes up from a node whose tree is whole
use Rattle.std.proofs.Common.{◌≡◌, ◌+◌, ℕ, suc, Bool, List, [], ◌∷◌, length, arith, ap}
use Rattle.std.proofs.lemmas.Bool.Decides.{nat_tests}
use Rattle.std.specs.Prelude.{max}
use Rattle.crew_terms.specs.Branches.{LeafNode, SplitNode, Claim, Bare, Open, Closed, InFirst, InSecond, splits, closed, left_open, depth, frame_sum, deepest}
use Rattle.crew_terms.specs.declared.TreeCounts.{TreeCounts}
use Rattle.crew_terms.specs.Counts.{same_counts}
use Rattle.dossier_terms.specs.Dossier.{Written, Split, Leaf}
use Rattle.dossier_terms.specs.Lines.{counts_of}
use Rattle.dossier_terms.specs.Reading.{Above}
use Rattle.tree_walk.specs.Way.{IsLeaf, counts_in, with_leaf}

-- the numbers of the splits above a node, of their first children that are whole, and of the node's tree, which is whole
abbrev pub counts_past : List Above → Written → TreeCounts
counts_past fs t = record {
  splits = frame_sum splits 1 fs + splits t;
  closed = frame_sum closed 0 fs + closed t;
  left_open = frame_sum left_open 0 fs + left_open t;
  depth = max (deepest fs) (length fs + depth t);
}

deeper : (d n a b : ℕ) → max (max d (n + 1 + a)) (suc n + b) ≡ max d (n + (max a b + 1))
deeper d n a b = grind (arith, nat_tests)

pub leaf_counted : (is_closed : Bool) (fs : List Above) (claim : Claim Leaf) → IsLeaf is_closed claim → with_leaf is_closed (length fs) (counts_in fs) ≡ counts_past fs (LeafNode claim)
leaf_counted is_closed fs Bare is = rw is (same_counts _ _ _ _ _ _ _ _ (omega arith) (omega arith) (omega arith) (ap (max (deepest fs)) (omega arith)))
leaf_counted is_closed fs (Open leaf) is = rw is (same_counts _ _ _ _ _ _ _ _ (omega arith) (omega arith) (omega arith) (ap (max (deepest fs)) (omega arith)))
leaf_counted is_closed fs (Closed leaf) is = rw is (same_counts _ _ _ _ _ _ _ _ (omega arith) (omega arith) (omega arith) (ap (max (deepest fs)) (omega arith)))

pub first_counted : (fs : List Above) (split : Split) (t : Written) → counts_past (InFirst split ∷ fs) t ≡ counts_in (InSecond split t ∷ fs)
first_counted fs split t = same_counts _ _ _ _ _ _ _ _ (omega arith) (omega arith) (omega arith) (ap (λ n. max (deepest fs) (n + depth t)) (omega arith))

pub second_counted : (fs : List Above) (split : Split) (first t : Written) → counts_past (InSecond split first ∷ fs) t ≡ counts_past fs (SplitNode split first t)
second_counted fs split first t = same_counts _ _ _ _ _ _ _ _ (omega arith) (omega arith) (omega arith) (deeper (deepest fs) (length fs) (depth first) (depth t))

pub root_counted : (t : Written) → counts_past [] t ≡ counts_of t
root_counted t = same_counts _ _ _ _ _ _ _ _ (omega arith) (omega arith) (omega arith) (omega arith)
