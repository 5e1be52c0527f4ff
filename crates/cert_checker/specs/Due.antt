-- what the checker keeps stands for what has been read of a dossier
use Rattle.std.specs.Prelude.{◌≡◌, ◌≤◌, ◌<◌, ◌+◌, ◌^◌, ℕ, List, [], ◌∷◌, Bool, true, IsTrue, length, map, All, Result, Ok, Err}
use Rattle.crew_terms.specs.Words.{Words}
use Rattle.crew_terms.specs.Instance.{Instance}
use Rattle.crew_terms.specs.Limits.{Route as TeamRoute, root_limits}
use Rattle.crew_terms.specs.Plan.{unassigned_count}
use Rattle.crew_terms.specs.Branches.{InFirst, InSecond}
use Rattle.crew_terms.specs.Verdict.{IsPlanOf}
use Rattle.share_terms.specs.Shares.{Share as ShareOf, IsRouteIn}
use Rattle.dossier_terms.specs.Causes.{Shares, share_of, unshown_in}
use Rattle.dossier_terms.specs.Dossier.{Dossier, Written, unshown}
use Rattle.dossier_terms.specs.Reading.{Reading, Answer, More as Goes, Whole as Ends, No as Refuses, whole, limits_of, limits_below, Pools, Routes, Plans, Jobs, Trees, Nodes, Whys, Parts, Spares, Ends as EndDue, Begun as Read, Above, LeafSite, SplitSite}
use Rattle.dossier_terms.specs.Ranges.{IsCounts, IsNowWord}
use Rattle.dossier_terms.specs.Table.{Says}
use Rattle.node_limits.specs.Rest.{Rest, IsRestOver, limits_over, trail_over}
use Rattle.head_check.specs.Head.{Holds as HoldsHead, IsLineDue, reading_of}
use Rattle.leaf_check.specs.Reader.{IsReady, StandsFor}
use Rattle.cert_checker.specs.Rooms.{IsReaderFor, IsRoomFor}
use Rattle.crew_terms.specs.Tree.{CanSplit}
use Rattle.crew_terms.specs.declared.Choice.{Choice}
use Rattle.crew_terms.specs.declared.Choice.TheVariants as choices
use Rattle.dossier_terms.specs.Lines.{counts_of}
use Rattle.share_check.specs.Summed.{HasRoom, IsSharesOf}
use Rattle.tree_walk.specs.Way.{IsAt, Walked, leaves_like}
use Rattle.crew_terms.specs.declared.TreeCounts.{TreeCounts}
use Rattle.std.specs.Global.{Box}
use Rattle.cert_checker.specs.declared.due.BegunDossier.{BegunDossier}
use Rattle.cert_checker.specs.declared.due.TreeDraft.{TreeDraft}
use Rattle.cert_checker.specs.declared.due.EndedDossier.{EndedDossier}
use Rattle.cert_checker.specs.declared.due.Due.{Due}
use Rattle.cert_checker.specs.declared.due.Due.TheVariants.{Head, Pool, Route, Plan, Job, Tree, Node, Why, Share, Spare, Leaf, End}
use Rattle.cert_checker.specs.declared.due.Step.{Step}
use Rattle.cert_checker.specs.declared.due.Step.TheVariants.{More, Whole}
use Rattle.line_in.specs.declared.refusals.Refusal.{Refusal}
use Rattle.line_in.specs.declared.refusals.Refusal.TheVariants.{No, OutOfMemory}
use Rattle.dossier_terms.specs.declared.Reason.{Reason}

abbrev pub draft_of : BegunDossier → Read
draft_of b = record { form = b.base.form; instance = b.base.instance; budget = b.base.nodes; kept = b.kept; pool = b.pool; plan = b.plan; bound = b.bound }

-- these are the limits of the root
pub record IsRoot (i : Instance) (limits : Rest) : Type 0 where
  pub over : IsRestOver i limits
  pub root : limits_over i limits.present ≡ root_limits i
  pub past : limits.past ≡ []

-- a dossier before its tree
pub record IsBegun (b : BegunDossier) : Type 0 where
  pub plan : IsPlanOf b.base.instance b.plan
  pub root : IsRoot b.base.instance b.limits

-- of how many of the splits above a node, and of those in their first children that are whole, no cause is shown
abbrev pub unshown_above : List Above → ℕ
unshown_above [] = 0
unshown_above (InFirst split ∷ above) = unshown_in split.cause + unshown_above above
unshown_above (InSecond split first ∷ above) = unshown_in split.cause + unshown first + unshown_above above

-- the walk stands at the node below these splits, the limits are its, and both have room as deep as is claimed; the splits so
-- far of which no cause is shown are counted, and there is room for one more leaf and for the shares of one more cause
pub record IsAtNode (tree : TreeDraft) (above : List Above) : Type 0 where
  pub claimed : IsCounts tree.claimed
  pub over : IsRestOver tree.draft.value.base.instance tree.draft.value.limits
  pub at : IsAt (root_limits tree.draft.value.base.instance) (trail_over tree.draft.value.base.instance tree.draft.value.limits) tree.walk above
  pub depth : tree.walk.depth ≡ tree.claimed.depth
  pub spare : tree.claimed.depth ≤ tree.draft.value.limits.spare + length tree.walk.above
  pub unshown : tree.unshown ≡ unshown_above above
  pub unassigned : tree.unassigned ≡ unassigned_count tree.draft.value.plan
  pub reader : IsReaderFor tree.draft.value.base.instance tree.reader
  pub sums : HasRoom (root_limits tree.draft.value.base.instance) tree.sums

-- there is room for its leaves, and for the shares of a cause
abbrev pub IsRoomOf : TreeDraft → Type 0
IsRoomOf tree = IsRoomFor tree.draft.value.base.instance tree.reader tree.sums

-- it is a tree that is over, with its room and, where this says so, the limits of its root
pub record IsTreeOver (tree : TreeDraft) (has_limits : Bool) : Type 0 where
  pub room : IsRoomOf tree
  pub root : IsTrue has_limits → IsRoot tree.draft.value.base.instance tree.draft.value.limits

-- it is the tree of this dossier that begins so, with its room
pub record IsTreeOf (draft : Box BegunDossier) (claimed : TreeCounts) (walk : Walked) (tree : TreeDraft) : Type 0 where
  pub is : tree ≡ record tree { draft = draft; claimed = claimed; walk = walk; unshown = 0 }
  pub unassigned : tree.unassigned ≡ unassigned_count draft.value.plan
  pub room : IsRoomOf tree

-- the walk stands at a node
abbrev pub IsInTree : TreeDraft → Type 0
IsInTree tree = (above : List Above) × IsAtNode tree above

-- the split is of a task, or of a team and a task, of the instance
abbrev pub IsKnown : Instance → Choice → Type 0
IsKnown i (choices.Window j cut) = j < length i.tasks
IsKnown i (choices.Pair k j) = (k < length i.teams) × (j < length i.tasks)

-- the numbers that are claimed have room for one more split of the node, and for one more leaf of a kind
pub record HasSplitLeft (tree : TreeDraft) : Type 0 where
  pub splits : tree.walk.seen.splits < tree.claimed.splits
  pub depth : length tree.walk.above < tree.claimed.depth

-- the walk stands at the node below these splits, which can be split so, with room for one more split
pub record MaySplit (tree : TreeDraft) (choice : Choice) (above : List Above) : Type 0 where
  pub node : IsAtNode tree above
  pub room : HasSplitLeft tree
  pub split : CanSplit (limits_below (root_limits tree.draft.value.base.instance) above) choice

-- where the node below these splits is split so
abbrev pub split_site : TreeDraft → List Above → Choice → SplitSite
split_site tree above choice = record { begun = draft_of tree.draft.value; counts = tree.claimed; above = above; choice = choice }

-- where the node below these splits is split as its loose cause has it
abbrev pub loose_site : TreeDraft → List Above → SplitSite
loose_site tree above = split_site tree above tree.loose.choice

-- the shares that are read of a cause
abbrev pub shares_in : List TeamRoute → Shares → List ShareOf
shares_in pool read = map (share_of pool) read.parts

-- so much is read of the loose cause of the node's split: the shares are of routes in the node, before its split, and their
-- sums are kept
pub record IsInLoose (tree : TreeDraft) (read : Shares) (above : List Above) : Type 0 where
  pub may : MaySplit tree tree.loose.choice above
  pub now : IsNowWord (length tree.draft.value.base.instance.tasks) tree.loose.now
  pub some : 1 ≤ tree.loose.whole
  pub few : tree.loose.whole < 2 ^ 127
  pub whole : read.whole ≡ tree.loose.whole
  pub routes : All (λ (s : ShareOf). IsRouteIn (limits_below (root_limits tree.draft.value.base.instance) above) s.route) (shares_in tree.draft.value.pool read)
  pub sums : IsSharesOf (limits_below (root_limits tree.draft.value.base.instance) above) tree.loose.whole (shares_in tree.draft.value.pool read) tree.sums

-- the same of some shares
abbrev pub IsLooseRead : TreeDraft → Type 0
IsLooseRead tree = (above : List Above) × (read : Shares) × IsInLoose tree read above

abbrev pub HasLeafRoom : TreeDraft → Bool → Type 0
HasLeafRoom tree is_closed = leaves_like is_closed tree.walk.seen < leaves_like is_closed tree.claimed

-- where a leaf below these splits stands in its dossier
abbrev pub site_of : TreeDraft → List Above → Bool → LeafSite
site_of tree above is_closed = record { begun = draft_of tree.draft.value; counts = tree.claimed; above = above; is_closed = is_closed }

-- the reader stands for what has been read of the leaf below these splits
pub record IsInLeaf (tree : TreeDraft) (is_closed : Bool) (above : List Above) (reading : Reading) : Type 0 where
  pub node : IsAtNode tree above
  pub ready : IsReady (limits_of (site_of tree above is_closed)) tree.reader
  pub room : HasLeafRoom tree is_closed
  pub stands : StandsFor (site_of tree above is_closed) tree.reader reading

-- what is kept stands for this state of the table of lines. It is that state but for the numbers of the leaves, of
-- which no more is kept than the next lines need.
abbrev pub Awaits : Due → Reading → Type 0
Awaits (Head due) r = IsLineDue due × HoldsHead due × (r ≡ reading_of due)
Awaits (Pool base) r = r ≡ Pools base.value.form base.value.instance base.value.nodes
Awaits (Route b more) r = IsBegun b.value × (r ≡ Routes (draft_of b.value) more)
Awaits (Plan b) r = IsBegun b.value × (r ≡ Plans (draft_of b.value))
Awaits (Job b more from) r = IsBegun b.value × (r ≡ Jobs (draft_of b.value) more from)
Awaits (Tree b) r = IsRoot b.value.base.instance b.value.limits × (r ≡ Trees (draft_of b.value))
Awaits (Node tree) r = (above : List Above) × IsAtNode tree.value above × (r ≡ Nodes (draft_of tree.value.draft.value) tree.value.claimed above)
Awaits (Why tree choice) r = (above : List Above) × MaySplit tree.value choice above × (r ≡ Whys (split_site tree.value above choice))
Awaits (Share tree more from) r = (above : List Above) × (read : Shares) × IsInLoose tree.value read above × (r ≡ Parts (loose_site tree.value above) tree.value.loose.now read more from)
Awaits (Spare tree) r = (above : List Above) × (read : Shares) × IsInLoose tree.value read above × (r ≡ Spares (loose_site tree.value above) tree.value.loose.now read)
Awaits (Leaf tree is_closed) r = (above : List Above) × IsInLeaf tree.value is_closed above r
Awaits (End tree seen) r = (t : Written) × (seen ≡ counts_of t) × (tree.value.unshown ≡ unshown t) × (r ≡ EndDue (draft_of tree.value.draft.value) tree.value.claimed t)
    × IsTreeOver tree.value true

-- the line that is due is one of a tree
abbrev pub IsOfTree : Due → Type 0
IsOfTree (Node tree) = Unit {0}
IsOfTree (Why tree choice) = Unit {0}
IsOfTree (Share tree more from) = Unit {0}
IsOfTree (Spare tree) = Unit {0}
IsOfTree (Leaf tree is_closed) = Unit {0}
IsOfTree (End tree seen) = Unit {0}
IsOfTree _ = ⊥

-- what is kept stands for some state of the table
abbrev pub IsAwaited : Due → Type 0
IsAwaited due = (reading : Reading) × Awaits due reading

-- what is kept stands for this dossier, whose tree has these numbers and is over
pub record IsEndOf (ended : EndedDossier) (d : Dossier) : Type 0 where
  pub tree : Written
  pub is : d ≡ whole (draft_of ended.tree.value.draft.value) tree
  pub counts : ended.counts ≡ counts_of tree
  pub unshown : ended.tree.value.unshown ≡ unshown tree
  pub over : IsTreeOver ended.tree.value true

-- the step, or the reason, is what these rules say, and what is kept stands for what they lead to
abbrev pub Tells : (Answer → Type 0) → Result Step Reason → Type 0
Tells Rules (Ok (More due)) = (next : Reading) × Rules (Goes next) × Awaits due next
Tells Rules (Ok (Whole ended)) = (d : Dossier) × Rules (Ends d) × IsEndOf ended d
Tells Rules (Err reason) = Rules (Refuses reason)

-- the same where memory may be wanting, for want of which nothing is said
abbrev pub TellsWithRoom : (Answer → Type 0) → Result Step Refusal → Type 0
TellsWithRoom Rules (Ok step) = Tells Rules (Ok step)
TellsWithRoom Rules (Err (No reason)) = Rules (Refuses reason)
TellsWithRoom Rules (Err OutOfMemory) = Unit {0}

-- it is what the table says of the line, in each of its states that what is kept stands for
abbrev pub IsStep : Due → Words → Result Step Reason → Type 0
IsStep due words step = (reading : Reading) → Awaits due reading → Tells (Says reading words) step

-- the same where memory may be wanting
abbrev pub IsStepWithRoom : Due → Words → Result Step Refusal → Type 0
IsStepWithRoom due words step = (reading : Reading) → Awaits due reading → TellsWithRoom (Says reading words) step
