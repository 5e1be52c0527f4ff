-- where a writer stands in a tree: what is written of it, and what is to come
use Rattle.std.specs.Prelude.{◌≡◌, ◌≤◌, ◌+◌, ◌++◌, ℕ, Bool, true, false, List, [], ◌∷◌, length, drop, Result, Ok, IfOk}
use Rattle.std.specs.List.{flat_map}
use Rattle.crew_terms.specs.Branches.{SplitNode, InFirst, InSecond, depth, splits}
use Rattle.crew_terms.specs.Limits.{Limits}
use Rattle.crew_terms.specs.Tree.{child}
use Rattle.crew_terms.specs.Words.{Words, line_text}
use Rattle.crew_terms.specs.declared.TheConstants.{MOST_NODES}
use Rattle.crew_terms.specs.declared.Side.TheVariants.{Second}
use Rattle.crew_io.specs.Puts.{Puts}
use Rattle.crew_io.specs.declared.sink.Sink.{Ghosts}
use Rattle.dossier_terms.specs.Causes.{Cause}
use Rattle.dossier_terms.specs.Dossier.{Split, Written}
use Rattle.dossier_terms.specs.Lines.{node_lines}
use Rattle.dossier_terms.specs.Reading.{Above, limits_below}
use Rattle.dossier_terms.specs.declared.DossierForm.TheVariants.{Two}
use Rattle.branch_tree.specs.Trees.{BranchTree, preorder}
use Rattle.branch_tree.specs.declared.tree.Node.{Node}
use Rattle.branch_tree.specs.declared.tree.LeafState.{LeafState}
use Rattle.branch_tree.specs.declared.tree.LeafState.TheVariants as states
use Rattle.node_limits.specs.Trail.{Trail}
use Rattle.tree_walk.specs.Way.{IsAt, Walked}
use Rattle.cert_write.specs.Given.{IsWritable}
use Rattle.cert_write.specs.Dossiers.{IsPricedTree, causes_of}

-- ---- what a leaf's state says

-- the leaf is closed
abbrev pub is_closed : LeafState → Bool
is_closed states.Bare = false
is_closed states.Open = false
is_closed states.Closed = true

-- ---- where a writer stands

-- a split above the node that is due: its first child is due, and the second is to come; or the first is written
pub data Level : Type 0 where
  FirstDue : (split : Split) (given : BranchTree) (second : Written) → Level
  SecondDue : (split : Split) (first : Written) → Level

-- a node with all below it is due, given and as it is written, below these levels, the innermost first; or the tree is whole
pub data Place : Type 0 where
  Due : (levels : List Level) (given : BranchTree) (node : Written) → Place
  Whole : Place

-- the splits above the node, without the second children that are to come
abbrev pub frames : List Level → List Above
frames [] = []
frames (FirstDue split given second ∷ levels) = InFirst split ∷ frames levels
frames (SecondDue split first ∷ levels) = InSecond split first ∷ frames levels

-- the place after a node that is whole
abbrev pub place_after : List Level → Written → Place
place_after [] node = Whole
place_after (FirstDue split given second ∷ levels) node = Due (SecondDue split node ∷ levels) given second
place_after (SecondDue split first ∷ levels) node = place_after levels (SplitNode split first node)

-- the whole tree
abbrev pub tree_above : List Level → Written → Written
tree_above [] node = node
tree_above (FirstDue split given second ∷ levels) node = tree_above levels (SplitNode split node second)
tree_above (SecondDue split first ∷ levels) node = tree_above levels (SplitNode split first node)

-- ---- what is to come

-- the nodes of the second children that are to come
abbrev pub later_nodes : List Level → List Node
later_nodes [] = []
later_nodes (FirstDue split given second ∷ levels) = preorder given ++ later_nodes levels
later_nodes (SecondDue split first ∷ levels) = later_nodes levels

-- their causes
abbrev pub later_causes : List Level → List Cause
later_causes [] = []
later_causes (FirstDue split given second ∷ levels) = causes_of second ++ later_causes levels
later_causes (SecondDue split first ∷ levels) = later_causes levels

-- their lines
abbrev pub later_lines : Limits → List Level → List Words
later_lines root [] = []
later_lines root (FirstDue split given second ∷ levels) =
    node_lines Two (child (limits_below root (frames levels)) split.choice Second) second ++ later_lines root levels
later_lines root (SecondDue split first ∷ levels) = later_lines root levels

-- each is given as it is written
abbrev pub AreGiven : Limits → List Level → Type 0
AreGiven root [] = Unit {0}
AreGiven root (FirstDue split given second ∷ levels) =
    (IsWritable (child (limits_below root (frames levels)) split.choice Second) given
    × IsPricedTree (child (limits_below root (frames levels)) split.choice Second) given second) × AreGiven root levels
AreGiven root (SecondDue split first ∷ levels) = AreGiven root levels

-- the nodes that are to come
abbrev pub nodes_to_come : Place → List Node
nodes_to_come (Due levels given node) = preorder given ++ later_nodes levels
nodes_to_come Whole = []

-- the causes that are to come
abbrev pub causes_to_come : Place → List Cause
causes_to_come (Due levels given node) = causes_of node ++ later_causes levels
causes_to_come Whole = []

-- the lines that are to come
abbrev pub lines_to_come : Limits → Place → List Words
lines_to_come root (Due levels given node) = node_lines Two (limits_below root (frames levels)) node ++ later_lines root levels
lines_to_come root Whole = []

-- ---- the writer's own numbers and limits

-- the limits and the walk stand at the node that is due, with room for all below it
pub record IsAtDue (root : Limits) (whole : Written) (limits : Trail) (walk : Walked) (levels : List Level) (given : BranchTree) (node : Written) : Type 0 where
  pub at : IsAt root limits walk (frames levels)
  pub valid : IsWritable (limits_below root (frames levels)) given
  pub same : IsPricedTree (limits_below root (frames levels)) given node
  pub later : AreGiven root levels
  pub tree : tree_above levels node ≡ whole
  pub deep : walk.depth ≡ depth whole
  pub spare : limits.spare + length walk.above ≡ depth whole
  pub few : splits whole ≤ MOST_NODES

-- the same where a node is due
abbrev pub IsAtPlace : Limits → Written → Trail → Walked → Place → Type 0
IsAtPlace root whole limits walk (Due levels given node) = IsAtDue root whole limits walk levels given node
IsAtPlace root whole limits walk Whole = Unit {0}

-- the writer stands at the place, with these nodes and causes to come
pub record Stands (root : Limits) (whole : Written) (tree : List Node) (owed : List Cause) (limits : Trail) (walk : Walked) (place : Place) : Type 0 where
  pub nodes : tree ≡ nodes_to_come place
  pub causes : owed ≡ causes_to_come place
  pub at : IsAtPlace root whole limits walk place

-- the lines of the node that was due were written, and the writer went on to a next place, with as many causes less as are told
pub record GoesOn {K E : Type 0} (sink : Ghosts K) (root : Limits) (whole : Written) (nodes : List Node) (causes : List Cause) (place : Place)
    (old new : K) (limits : Trail) (walk : Walked) (result : Result ℕ E) : Type 0 where
  pub lines : List Words
  pub next : Place
  pub whole_lines : lines_to_come root place ≡ lines ++ lines_to_come root next
  pub puts : Puts sink (flat_map line_text lines) old new result
  pub stands : IfOk result (λ used. Stands root whole nodes (drop used causes) limits walk next)

-- the tree is due whole: its nodes and its causes are these, and each split is valid
pub record IsDue (root : Limits) (tree : List Node) (owed : List Cause) (given : BranchTree) (written : Written) : Type 0 where
  pub nodes : tree ≡ preorder given
  pub valid : IsWritable root given
  pub same : IsPricedTree root given written
  pub causes : causes_of written ≡ owed

-- where the writer is at a node of the tree: what it has written is a front of the tree's lines
pub record IsAmid {K : Type 0} (sink : Ghosts K) (root : Limits) (whole : Written) (nodes : List Node) (causes : List Cause) (limits : Trail) (walk : Walked) (old new : K) : Type 0 where
  pub place : Place
  pub lines : List Words
  pub stands : Stands root whole nodes causes limits walk place
  pub rest : node_lines Two root whole ≡ lines ++ lines_to_come root place
  pub puts : Puts {T = Unit {0}} {E = Unit {0}} sink (flat_map line_text lines) old new (Ok tt)
