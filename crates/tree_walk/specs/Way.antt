-- the way to a node of a tree in preorder, and the numbers of what came before it
use Rattle.std.specs.Prelude.{◌≡◌, ◌≤◌, ◌+◌, vec_capacity, length, ℕ, Bool, true, false, List, [], ◌∷◌, map, reverse, Option, None, Some, if◌then◌else◌, max}
use Rattle.crew_terms.specs.Limits.{Limits}
use Rattle.crew_terms.specs.Branches.{LeafNode, Claim, Bare, Open, Closed, InFirst, splits, closed, left_open, split_of, side_of, frame_sum, deepest}
use Rattle.crew_terms.specs.Tree.{CanSplit}
use Rattle.crew_terms.specs.declared.Choice.{Choice}
use Rattle.crew_terms.specs.declared.TreeCounts.{TreeCounts}
use Rattle.dossier_terms.specs.Causes.{Cause}
use Rattle.dossier_terms.specs.Dossier.{Written, Leaf}
use Rattle.dossier_terms.specs.Lines.{counts_of}
use Rattle.dossier_terms.specs.Reading.{Reading, Nodes, Ends, node_done, Begun, Above, limits_below}
use Rattle.node_limits.specs.Trail.{Trail}
use Rattle.node_limits.specs.declared.walks.Branch.{Branch}
use Rattle.tree_walk.specs.declared.walk.Walk.TheInside.{Inside}

-- ---- what a walk keeps

-- the branches that lead to the node that is due, the innermost first, the numbers of what came before it, and how many
-- branches there is room for
pub record Walked : Type 0 where
  pub above : List Branch
  pub seen : TreeCounts
  pub depth : ℕ

abbrev pub walked : Inside → Walked
walked w = record { above = reverse w.above.items; seen = w.seen; depth = w.depth }

-- a split is counted for each branch, and there is room for as many branches as are told
pub record HasRoom (w : Inside) : Type 0 where
  pub counted : length w.above.items ≤ w.seen.splits
  pub room : w.depth ≤ vec_capacity w.above

-- the innermost of the branches
abbrev pub innermost : List Branch → Option Branch
innermost [] = None
innermost (b ∷ bs) = Some b

-- ---- numbers

-- the numbers of the splits above a node, and of their first children that are whole
abbrev pub counts_in : List Above → TreeCounts
counts_in above = record { splits = frame_sum splits 1 above; closed = frame_sum closed 0 above; left_open = frame_sum left_open 0 above; depth = deepest above }

-- the numbers with one more leaf, below so many splits
abbrev pub with_leaf : Bool → ℕ → TreeCounts → TreeCounts
with_leaf is_closed level c = record {
  splits = c.splits;
  closed = if is_closed then c.closed + 1 else c.closed;
  left_open = if is_closed then c.left_open else c.left_open + 1;
  depth = max c.depth level;
}

-- how many leaves there are of a kind
abbrev pub leaves_like : Bool → TreeCounts → ℕ
leaves_like is_closed c = if is_closed then c.closed else c.left_open

-- ---- where a walk stands

-- the branch of a frame, without its cause and the child that is whole
abbrev pub branch_of : Above → Branch
branch_of frame = record { choice = (split_of frame).choice; side = side_of frame }

-- the limits of the nodes above, the nearest first
abbrev pub passed : Limits → List Above → List Limits
passed root [] = []
passed root (frame ∷ above) = limits_below root above ∷ passed root above

-- each node above can be split as it is
abbrev pub AreSplits : Limits → List Above → Type 0
AreSplits root [] = Unit {0}
AreSplits root (frame ∷ above) = CanSplit (limits_below root above) (split_of frame).choice × AreSplits root above

-- these frames lead from the root to the node, and the limits and the branches that are kept are theirs
pub record IsWay (root : Limits) (t : Trail) (branches : List Branch) (above : List Above) : Type 0 where
  pub limits : t.limits ≡ limits_below root above
  pub past : t.past ≡ passed root above
  pub splits : AreSplits root above
  pub kept : branches ≡ map branch_of above

-- the walk stands at the node below these frames, and has seen what came before it
pub record IsAt (root : Limits) (t : Trail) (w : Walked) (above : List Above) : Type 0 where
  pub way : IsWay root t w.above above
  pub seen : w.seen ≡ counts_in above

-- the walk stands at a node of some tree
abbrev pub IsSomewhere : Trail → Walked → Type 0
IsSomewhere t w = (root : Limits) × (above : List Above) × IsAt root t w above

-- the walk is at the root again, and has seen the whole tree
pub record IsAtEnd (root : Limits) (t : Trail) (w : Walked) (tree : Written) : Type 0 where
  pub limits : t.limits ≡ root
  pub past : t.past ≡ []
  pub above : w.above ≡ []
  pub seen : w.seen ≡ counts_of tree

-- ---- how a walk goes on

-- from each node where the walk may stand it went into the first child of a split by this choice, whatever its cause
abbrev pub Enters : Choice → Trail → Walked → Trail → Walked → Type 0
Enters choice old from new to = (root : Limits) (above : List Above) (cause : Cause) → IsAt root old from above → IsAt root new to (InFirst (record { choice = choice; cause = cause }) ∷ above)

-- the leaf is closed or not
abbrev pub IsLeaf : Bool → Claim Leaf → Type 0
IsLeaf is_closed Bare = is_closed ≡ false
IsLeaf is_closed (Open leaf) = is_closed ≡ false
IsLeaf is_closed (Closed leaf) = is_closed ≡ true

-- the walk stands where this state of the table of lines is: at the node that is due, or at the end of the tree
abbrev pub Arrives : Limits → Trail → Walked → Begun → TreeCounts → Reading → Bool → Type 0
Arrives root t w b c next false = (above : List Above) × (next ≡ Nodes b c above) × IsAt root t w above
Arrives root t w b c next true = (tree : Written) × (next ≡ Ends b c tree) × IsAtEnd root t w tree

-- from each node where the walk may stand it went on past a leaf of this kind
abbrev pub LeavesLeaf : Bool → Trail → Walked → Trail → Walked → Bool → Type 0
LeavesLeaf is_closed old from new to is_whole = (root : Limits) (above : List Above) (claim : Claim Leaf) (b : Begun) (c : TreeCounts)
    → IsAt root old from above → IsLeaf is_closed claim → Arrives root new to b c (node_done b c above (LeafNode claim)) is_whole
