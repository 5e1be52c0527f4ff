-- what has been read in each state: its lines, and what holds of it
use Rattle.std.specs.Prelude.{◌≡◌, ◌≢◌, ◌≤◌, ◌<◌, ◌+◌, ◌-◌, ◌++◌, ℕ, suc, ℤ, List, [], ◌∷◌, length, map, None, All, AllPairs, Bool, if◌then◌else◌}
use Rattle.std.specs.List.{AllByRecursion}
use Rattle.crew_terms.specs.Words.{Words}
use Rattle.crew_terms.specs.Name.{IsName}
use Rattle.crew_terms.specs.Instance.{Instance}
use Rattle.crew_terms.specs.Rules.{IsInstance, IsTeam, IsTask, AreParts, AreTimes, HasNoFrozen}
use Rattle.crew_terms.specs.Plan.{empty_plan, job_of, unassigned_count}
use Rattle.crew_terms.specs.Legal.{IsLegal}
use Rattle.crew_terms.specs.Limits.{Limits, Route, root_limits, tasks_in, teams_in}
use Rattle.crew_terms.specs.Minutes.{required_teams, priced, open_tasks, first_minute, minute_count}
use Rattle.crew_terms.specs.Leaf.{Prices as TaskPrices, IsPrice, HoldsLocally, earned}
use Rattle.crew_terms.specs.Branches.{InFirst, InSecond}
use Rattle.crew_terms.specs.Tree.{CanSplit, IsSound, child}
use Rattle.crew_terms.specs.declared.Side.TheVariants.{First}
use Rattle.crew_terms.specs.declared.Team.{Team}
use Rattle.crew_terms.specs.declared.Task.{Task}
use Rattle.crew_terms.specs.declared.TreeCounts.{TreeCounts}
use Rattle.crew_terms.specs.declared.TheConstants.{MOST_NODES, MOST_NUMBER}
use Rattle.dossier_terms.specs.declared.DossierForm.{DossierForm}
use Rattle.dossier_terms.specs.declared.DossierForm.TheVariants.{Two}
use Rattle.dossier_terms.specs.Causes.{Cause, Part, Shares, IsNow, IsPartOf, PartsRise, IsCauseOf}
use Rattle.dossier_terms.specs.Dossier.{Written, Split, Leaf, Potentials, IsPooled, IsGood, FitsForm, tree_of, AreWritten, AreCaused, AreRows, IsWorthNumber, IsSigned, IsTable, prices_of, phi_in}
use Rattle.dossier_terms.specs.Lines.{form_line, size_line, size_of, place_line, travel_line, team_line, task_line, frozen_line, keep_line, pool_line, route_line, plan_line, do_line, tree_line, choice_line, loose_line, share_line, split_lines, open_line, closed_line, price_line, extra_line, worth_line, potentials_line, rows_lines, table_lines, node_lines, head_lines, plan_lines, jobs_from, lines_of}
use Rattle.dossier_terms.specs.Reading.{Reading, Answer, More, Whole, No, Opening, limits_below, limits_of, limits_before, Form, Sizes, Places, Travels, Teams, Tasks, Frozens, Keeps, Pools, Routes, Plans, Jobs, Trees, Nodes, Whys, Parts, Spares, Prices, Extras, Worths, Phis, Ends, Begun, Above, LeafSite, SplitSite}
use Rattle.dossier_terms.specs.Ranges.{IsSize, IsTravel}

-- the lines up to the last task so far
abbrev pub head_so_far : Opening → Instance → List Words
head_so_far o i = form_line o.form ∷ size_line o.size ∷ (map place_line i.places ++ map travel_line i.travel ++ map team_line i.teams ++ map task_line i.tasks)

-- each is good, and no two have one name
pub record AreNamed {A : Type 0} (IsOne : A → Type 0) (name : A → List ℕ) (xs : List A) : Type 0 where
  pub each : All IsOne xs
  pub differ : AllPairs (λ a b. name a ≢ name b) xs

-- what holds of the parts of an instance while it is read
pub record IsPart (o : Opening) (i : Instance) : Type 0 where
  pub size : IsSize o.size
  pub places : AreNamed IsName (λ name. name) i.places
  pub travel : All (IsTravel o.size.places) i.travel
  pub teams : AreNamed (IsTeam o.size.places) (λ (t : Team). t.name) i.teams
  pub tasks : AreNamed (IsTask o.size.places) (λ (t : Task). t.name) i.tasks
  pub frozen : HasNoFrozen i

-- so many of each kind have been read
pub record HasRead (i : Instance) (a b c d : ℕ) : Type 0 where
  pub places : length i.places ≡ a
  pub travel : length i.travel ≡ b
  pub teams : length i.teams ≡ c
  pub tasks : length i.tasks ≡ d

abbrev pub ArePlaces : Opening → ℕ → Instance → Type 0
ArePlaces o k i = (p : ℕ) × (p + k ≡ o.size.places) × IsPart o i × HasRead i p 0 0 0

abbrev pub AreTravels : Opening → ℕ → Instance → Type 0
AreTravels o k i = (p : ℕ) × (p + k ≡ o.size.places) × IsPart o i × HasRead i o.size.places p 0 0

abbrev pub AreTeams : Opening → ℕ → Instance → Type 0
AreTeams o k i = (p : ℕ) × (p + k ≡ o.size.teams) × IsPart o i × HasRead i o.size.places o.size.places p 0

abbrev pub AreTasks : Opening → ℕ → Instance → Type 0
AreTasks o k i = (p : ℕ) × (p + k ≡ o.size.tasks) × IsPart o i × HasRead i o.size.places o.size.places o.size.teams p

-- all parts of the instance are read, and no frozen job is
pub record IsUnfrozen (o : Opening) (i : Instance) : Type 0 where
  pub part : IsPart o i
  pub read : HasRead i o.size.places o.size.places o.size.teams o.size.tasks
  pub form : o.form ≡ Two

-- the frozen jobs so far: none stands from a task on, and so many more come
pub record AreKeeps (o : Opening) (k from : ℕ) (i : Instance) : Type 0 where
  pub parts : AreParts i.places i.teams i.tasks
  pub times : AreTimes (length i.places) i.travel
  pub size : size_line o.size ≡ size_line (size_of i o.size.nodes)
  pub nodes : o.size.nodes ≤ MOST_NODES
  pub form : o.form ≡ Two
  pub whole : length i.frozen ≡ length i.tasks
  pub later : (j : ℕ) → from ≤ j → job_of i.frozen j ≡ None
  pub count : length (jobs_from 0 i.frozen) + k ≤ length i.tasks

pub record IsHead (form : DossierForm) (i : Instance) (b : ℕ) : Type 0 where
  pub instance : IsInstance i
  pub frozen : FitsForm form i
  pub budget : b ≤ MOST_NODES

-- the pool so far, of this many routes in all
pub record IsPoolPart (b : Begun) (all : ℕ) : Type 0 where
  pub head : IsHead b.form b.instance b.budget
  pub kept : b.kept ≤ all
  pub many : all ≤ MOST_NUMBER
  pub pool : All (IsPooled b.instance) b.pool
  pub differ : AllPairs (λ (a c : Route). a ≢ c) b.pool

abbrev pub AreRoutes : Begun → ℕ → Type 0
AreRoutes b k = IsPoolPart b (length b.pool + k) × (b.plan ≡ empty_plan (length b.instance.tasks))

-- the plan so far: nothing stands from a task on
pub record IsPlanPart (b : Begun) (from : ℕ) : Type 0 where
  pub pool : IsPoolPart b (length b.pool)
  pub bound : b.bound ≤ length b.instance.tasks
  pub whole : length b.plan ≡ length b.instance.tasks
  pub later : (j : ℕ) → from ≤ j → job_of b.plan j ≡ None

abbrev pub AreJobs : Begun → ℕ → ℕ → Type 0
AreJobs b k from = IsPlanPart b from × (length (jobs_from 0 b.plan) + k ≤ length b.instance.tasks)

pub record IsPlanned (b : Begun) : Type 0 where
  pub pool : IsPoolPart b (length b.pool)
  pub bound : b.bound ≤ length b.instance.tasks
  pub plan : IsLegal b.instance b.plan

-- the numbers of the tree fit the dossier
pub record IsTreePart (b : Begun) (c : TreeCounts) : Type 0 where
  pub planned : IsPlanned b
  pub leaves : c.closed + c.left_open ≡ c.splits + 1
  pub within : c.splits + c.closed ≤ b.budget
  pub spent : b.bound < unassigned_count b.plan → c.splits + c.closed ≡ b.budget

-- a whole node is sound in its limits, and its splits have causes that may be told
abbrev pub NodeHolds : Begun → Limits → Written → Type 0
NodeHolds b n t = AreWritten n t × IsSound (tree_of n t) n b.bound (unassigned_count b.plan) × AreCaused b.form b.pool n (unassigned_count b.plan) t

-- a cause may be told of a split of the node
abbrev pub CauseHolds : DossierForm → Begun → Limits → Cause → Type 0
CauseHolds form b n cause = IsCauseOf form b.pool n (unassigned_count b.plan) cause

-- a split is one of its node
abbrev pub SplitHolds : Begun → Limits → Split → Type 0
SplitHolds b n split = CanSplit n split.choice × CauseHolds b.form b n split.cause

-- the split above the node is one of its node, and its first child is sound where that is whole
abbrev pub FrameHolds : Begun → Limits → Above → Type 0
FrameHolds b n (InFirst split) = SplitHolds b n split
FrameHolds b n (InSecond split first) = SplitHolds b n split × NodeHolds b (child n split.choice First) first

abbrev pub FramesHold : Begun → List Above → Type 0
FramesHold b [] = Unit {0}
FramesHold b (frame ∷ above) = FrameHolds b (limits_below (root_limits b.instance) above) frame × FramesHold b above

-- the node can be split so, in form 2
abbrev pub IsSplitSite : SplitSite → Type 0
IsSplitSite p = IsTreePart p.begun p.counts × FramesHold p.begun p.above × CanSplit (limits_before p) p.choice × (p.begun.form ≡ Two)

-- the shares so far, where this many more come, of columns from `from` on
pub record ArePartsRead (p : SplitSite) (now : ℕ) (read : Shares) (left from : ℕ) : Type 0 where
  pub site : IsSplitSite p
  pub now_known : IsNow (limits_before p) (unassigned_count p.begun.plan) now
  pub whole : read.whole ≤ 170141183460469231731687303715884105727
  pub count : length read.parts + left ≤ MOST_NUMBER
  pub parts : AllByRecursion (IsPartOf (length p.begun.pool) read.whole) read.parts
  pub rise : (more : List Part) → PartsRise from more → PartsRise 0 (read.parts ++ more)

abbrev pub IsLeafSite : LeafSite → Type 0
IsLeafSite a = IsTreePart a.begun a.counts × FramesHold a.begun a.above

-- the rows so far, of the keys that come before the one that is due
abbrev pub RowsSoFar : (ℤ → Type 0) → (ℕ → ℕ) → List ℕ → List (List ℤ) → List ℕ → Type 0
RowsSoFar In wants keys rows left = (read : List ℕ) × (keys ≡ read ++ left) × AreRows In wants read rows

pub record AreLeafPrices (n : Limits) (leaf : Leaf) (left : List ℕ) : Type 0 where
  pub count : length leaf.prices ≡ tasks_in n
  pub each : AllByRecursion IsPrice leaf.prices
  pub rows : RowsSoFar IsPrice (λ j. length (required_teams n j)) (priced n) leaf.extras left

-- the tables so far are those of the first teams, and each holds
abbrev pub TablesHold : Limits → TaskPrices → ℕ → List Potentials → Type 0
TablesHold n p k [] = Unit {0}
TablesHold n p k (t ∷ ts) = (IsTable n k t × HoldsLocally n k (earned p k) (phi_in n k t) t.worth) × TablesHold n p (suc k) ts

pub record IsLeafPart (a : LeafSite) (leaf : Leaf) (left : ℕ) : Type 0 where
  pub site : IsLeafSite a
  pub prices : AreLeafPrices (limits_of a) leaf []
  pub count : length leaf.tables + left ≡ teams_in (limits_of a)
  pub tables : TablesHold (limits_of a) (prices_of (limits_of a) leaf) 0 leaf.tables

abbrev pub IsReading : Reading → Type 0
IsReading Form = Unit {0}
IsReading (Sizes form) = Unit {0}
IsReading (Places o k i) = ArePlaces o (suc k) i
IsReading (Travels o k i) = AreTravels o (suc k) i
IsReading (Teams o k i) = AreTeams o (suc k) i
IsReading (Tasks o k i) = AreTasks o (suc k) i
IsReading (Frozens o i) = IsUnfrozen o i
IsReading (Keeps o k from i) = AreKeeps o (suc k) from i
IsReading (Pools form i budget) = IsHead form i budget
IsReading (Routes b k) = AreRoutes b (suc k)
IsReading (Plans b) = AreRoutes b 0
IsReading (Jobs b k from) = AreJobs b (suc k) from
IsReading (Trees b) = IsPlanned b
IsReading (Nodes b c above) = IsTreePart b c × FramesHold b above
IsReading (Whys p) = IsSplitSite p
IsReading (Parts p now read left from) = ArePartsRead p now read (suc left) from
IsReading (Spares p now read) = (from : ℕ) × ArePartsRead p now read 0 from
IsReading (Prices a) = IsLeafSite a
IsReading (Extras a leaf j js) = IsLeafSite a × AreLeafPrices (limits_of a) leaf (j ∷ js) × (leaf.tables ≡ [])
IsReading (Worths a leaf left) = IsLeafPart a leaf (suc left)
IsReading (Phis a leaf left table j js) = IsLeafPart a leaf (suc left) × IsWorthNumber table.worth
    × RowsSoFar IsSigned (minute_count (limits_of a) (length leaf.tables)) (open_tasks (limits_of a) (length leaf.tables)) table.phi (j ∷ js)
IsReading (Ends b c t) = IsTreePart b c × NodeHolds b (root_limits b.instance) t

abbrev pub routes_lines : Begun → ℕ → List Words
routes_lines b all = head_lines b.form b.instance b.budget ++ pool_line b.kept all ∷ map route_line b.pool

-- the plan's lines so far, where k more come
abbrev pub jobs_lines : Begun → ℕ → List Words
jobs_lines b k = routes_lines b (length b.pool) ++ plan_line (length b.instance.tasks - (length (jobs_from 0 b.plan) + k)) b.bound ∷ map do_line (jobs_from 0 b.plan)

-- the frozen jobs' lines so far, where k more come
abbrev pub keeps_lines : Opening → ℕ → Instance → List Words
keeps_lines o k i = head_so_far o i ++ frozen_line (length (jobs_from 0 i.frozen) + k) ∷ map keep_line (jobs_from 0 i.frozen)

-- the lines of a split, with its first child where that is whole
abbrev pub frame_lines : DossierForm → Limits → Above → List Words
frame_lines form n (InFirst split) = split_lines form split
frame_lines form n (InSecond split first) = split_lines form split ++ node_lines form (child n split.choice First) first

abbrev pub frames_lines : DossierForm → Limits → List Above → List Words
frames_lines form n [] = []
frames_lines form n (frame ∷ above) = frames_lines form n above ++ frame_lines form (limits_below n above) frame

abbrev pub begun_lines : Begun → List Words
begun_lines b = routes_lines b (length b.pool) ++ plan_lines b.plan b.bound

abbrev pub nodes_so_far : Begun → TreeCounts → List Above → List Words
nodes_so_far b c above = begun_lines b ++ tree_line c ∷ frames_lines b.form (root_limits b.instance) above

-- the lines up to the choice of a split
abbrev pub split_so_far : SplitSite → List Words
split_so_far p = nodes_so_far p.begun p.counts p.above ++ choice_line p.choice ∷ []

-- the shares' lines so far, of this many in all
abbrev pub parts_so_far : SplitSite → ℕ → Shares → ℕ → List Words
parts_so_far p now read all = split_so_far p ++ loose_line now read.whole all ∷ map share_line read.parts

abbrev pub leaf_line : Bool → Words
leaf_line is_closed = if is_closed then closed_line else open_line

abbrev pub site_so_far : LeafSite → List Words
site_so_far a = nodes_so_far a.begun a.counts a.above ++ leaf_line a.is_closed ∷ []

abbrev pub prices_so_far : LeafSite → Leaf → List Words
prices_so_far a leaf = site_so_far a ++ price_line leaf.prices ∷ [] ++ rows_lines extra_line (priced (limits_of a)) leaf.extras

abbrev pub tables_so_far : LeafSite → Leaf → List Words
tables_so_far a leaf = prices_so_far a leaf ++ table_lines a.begun.form (limits_of a) 0 leaf.tables

-- the line of a row of team k's potentials
abbrev pub row_line : DossierForm → Limits → ℕ → ℕ → List ℤ → Words
row_line form n k j = potentials_line form (first_minute n k j) j

-- the lines of team k's worth and potentials so far
abbrev pub table_so_far : DossierForm → Limits → ℕ → Potentials → List Words
table_so_far form n k t = worth_line t.worth ∷ [] ++ rows_lines (row_line form n k) (open_tasks n k) t.phi

abbrev pub spelled : Reading → List Words
spelled Form = []
spelled (Sizes form) = form_line form ∷ []
spelled (Places o k i) = head_so_far o i
spelled (Travels o k i) = head_so_far o i
spelled (Teams o k i) = head_so_far o i
spelled (Tasks o k i) = head_so_far o i
spelled (Frozens o i) = head_so_far o i
spelled (Keeps o k from i) = keeps_lines o (suc k) i
spelled (Pools form i budget) = head_lines form i budget
spelled (Routes b k) = routes_lines b (length b.pool + suc k)
spelled (Plans b) = routes_lines b (length b.pool)
spelled (Jobs b k from) = jobs_lines b (suc k)
spelled (Trees b) = begun_lines b
spelled (Nodes b c above) = nodes_so_far b c above
spelled (Whys p) = split_so_far p
spelled (Parts p now read left from) = parts_so_far p now read (length read.parts + suc left)
spelled (Spares p now read) = parts_so_far p now read (length read.parts)
spelled (Prices a) = site_so_far a
spelled (Extras a leaf j js) = prices_so_far a leaf
spelled (Worths a leaf left) = tables_so_far a leaf
spelled (Phis a leaf left table j js) = tables_so_far a leaf ++ table_so_far a.begun.form (limits_of a) (length leaf.tables) table
spelled (Ends b c t) = begun_lines b ++ tree_line c ∷ node_lines b.form (root_limits b.instance) t

-- what a line that is not refused leaves
abbrev pub Follows : Reading → Words → Answer → Type 0
Follows s ws (More next) = (spelled next ≡ spelled s ++ ws ∷ []) × IsReading next
Follows s ws (Whole d) = (lines_of d ≡ spelled s ++ ws ∷ []) × IsGood d
Follows s ws (No r) = Unit {0}
