-- what a line says where a kind of line is expected
use Rattle.std.specs.Prelude.{◌≡◌, ◌≤◌, ◌<◌, ℕ, ℤ, pos, List, Result, Ok, Err, map, codes}
use Rattle.std.specs.List.{flat_map}
use Rattle.crew_terms.specs.Words.{Words}
use Rattle.crew_terms.specs.Name.{IsName}
use Rattle.crew_terms.specs.Leaf.{IsPrice}
use Rattle.crew_terms.specs.declared.Team.{Team}
use Rattle.crew_terms.specs.declared.Task.{Task}
use Rattle.crew_terms.specs.declared.Visit.{Visit}
use Rattle.dossier_terms.specs.Causes.{Part, IsPartOf}
use Rattle.dossier_terms.specs.Dossier.{IsWorthNumber, IsSigned}
use Rattle.dossier_terms.specs.declared.DossierForm.{DossierForm}
use Rattle.dossier_terms.specs.Runs.{Run}
use Rattle.crew_terms.specs.declared.TheConstants.{LAST_MINUTE, MOST_NUMBER}
use Rattle.dossier_terms.specs.Rules.{IsShape, IsShapeFrom, Begins}
use Rattle.dossier_terms.specs.Ranges.{IsSize, IsTravel, IsTeamLine, IsTaskLine, IsRouteLine, IsDoLine, IsCounts, IsStepsLine, IsNowWord, IsLooseLine, IsSpareLine, IsOverflowLine, IsWhy, IsWhyOverflow, AreNumbers, HasName, IsPairs, IsRow, BeginsAt}
use Rattle.dossier_terms.specs.Lines.{form_line, size_line, place_line, travel_line, team_words, task_words, frozen_line, keep_line, pool_line, route_line, plan_line, do_line, tree_line, window_line, pair_line, why_none_line, loose_line, share_line, spare_line, overflow_line, spent_line, bare_line, open_line, closed_line, price_line, extra_line, worth_line, phi_line, steps_line, end_line}
use Rattle.line_in.specs.Fields.{visit_numbers, run_numbers}
use Rattle.cert_format.specs.declared.kinds.Expect.{Expect}
use Rattle.cert_format.specs.declared.kinds.Expect.TheVariants as expected
use Rattle.cert_format.specs.declared.kinds.LineKind.{LineKind}
use Rattle.cert_format.specs.declared.kinds.LineKind.TheVariants as kinds
use Rattle.line_in.specs.declared.faults.LineFault.{LineFault}
use Rattle.line_in.specs.declared.faults.LineFault.TheVariants.{Shape, Number, Name}

-- ---- the words spell the fields, which lie in their ranges

abbrev pub IsFormLine : Words → LineKind → Type 0
IsFormLine ws (kinds.Form form) = ws ≡ form_line form
IsFormLine ws _ = ⊥

abbrev pub IsSizeLine : Words → LineKind → Type 0
IsSizeLine ws (kinds.Size size) = IsSize size × (ws ≡ size_line size)
IsSizeLine ws _ = ⊥

abbrev pub IsPlaceLine : Words → LineKind → Type 0
IsPlaceLine ws (kinds.Place name) = IsName name × (ws ≡ place_line name)
IsPlaceLine ws _ = ⊥

abbrev pub IsTimesLine : ℕ → Words → LineKind → Type 0
IsTimesLine places ws (kinds.Travel times) = (row : List ℕ) × (times ≡ map pos row) × IsTravel places row × (ws ≡ travel_line row)
IsTimesLine places ws _ = ⊥

abbrev pub IsTeamOf : ℕ → Words → LineKind → Type 0
IsTeamOf places ws (kinds.Team name home from until skills) =
    let t : Team = record { name = name; home = home; from = from; until = until; skills = 0 } in
    (ss : List ℕ) × (skills ≡ map pos ss) × IsTeamLine places (t, ss) × (ws ≡ team_words (t, ss))
IsTeamOf places ws _ = ⊥

abbrev pub IsTaskOf : ℕ → Words → LineKind → Type 0
IsTaskOf places ws (kinds.Task name place earliest latest minutes teams skills) =
    let t : Task = record { name = name; place = place; earliest = earliest; latest = latest; minutes = minutes; teams = teams; skills = 0 } in
    (ss : List ℕ) × (skills ≡ map pos ss) × IsTaskLine places (t, ss) × (ws ≡ task_words (t, ss))
IsTaskOf places ws _ = ⊥

abbrev pub IsFrozenLine : ℕ → Words → LineKind → Type 0
IsFrozenLine most ws (kinds.Frozen count) = (count ≤ most) × (ws ≡ frozen_line count)
IsFrozenLine most ws _ = ⊥

abbrev pub IsKeepLine : ℕ → ℕ → Words → LineKind → Type 0
IsKeepLine teams tasks ws (kinds.Keep task start ks) = (ns : List ℕ) × (ks ≡ map pos ns)
    × IsDoLine teams tasks (task, record { start = start; teams = ns }) × (ws ≡ keep_line (task, record { start = start; teams = ns }))
IsKeepLine teams tasks ws _ = ⊥

abbrev pub IsPoolLine : Words → LineKind → Type 0
IsPoolLine ws (kinds.Pool kept routes) = (k c : ℕ) × (kept ≡ pos k) × (routes ≡ pos c)
    × (k ≤ MOST_NUMBER) × (c ≤ MOST_NUMBER) × (ws ≡ pool_line k c)
IsPoolLine ws _ = ⊥

abbrev pub IsRouteOf : ℕ → ℕ → Words → LineKind → Type 0
IsRouteOf teams tasks ws (kinds.Route team visits) = (vs : List Visit) × (visits ≡ map pos (flat_map visit_numbers vs))
    × IsRouteLine teams tasks (record { team = team; visits = vs }) × (ws ≡ route_line (record { team = team; visits = vs }))
IsRouteOf teams tasks ws _ = ⊥

abbrev pub IsPlanLine : ℕ → Words → LineKind → Type 0
IsPlanLine tasks ws (kinds.Plan unassigned bound) = (unassigned ≤ tasks) × (bound ≤ tasks) × (ws ≡ plan_line unassigned bound)
IsPlanLine tasks ws _ = ⊥

abbrev pub IsJobLine : ℕ → ℕ → Words → LineKind → Type 0
IsJobLine teams tasks ws (kinds.Job task start ks) = (ns : List ℕ) × (ks ≡ map pos ns)
    × IsDoLine teams tasks (task, record { start = start; teams = ns }) × (ws ≡ do_line (task, record { start = start; teams = ns }))
IsJobLine teams tasks ws _ = ⊥

abbrev pub IsTreeLine : Words → LineKind → Type 0
IsTreeLine ws (kinds.Tree counts) = IsCounts counts × (ws ≡ tree_line counts)
IsTreeLine ws _ = ⊥

abbrev pub IsNodeLine : ℕ → ℕ → Words → LineKind → Type 0
IsNodeLine teams tasks ws (kinds.Window task cut) = (task < tasks) × (cut ≤ LAST_MINUTE) × (ws ≡ window_line task cut)
IsNodeLine teams tasks ws (kinds.Pair team task) = (team < teams) × (task < tasks) × (ws ≡ pair_line team task)
IsNodeLine teams tasks ws kinds.LeafBare = ws ≡ bare_line
IsNodeLine teams tasks ws kinds.LeafOpen = ws ≡ open_line
IsNodeLine teams tasks ws kinds.LeafClosed = ws ≡ closed_line
IsNodeLine teams tasks ws _ = ⊥

abbrev pub IsWhyLine : ℕ → Words → LineKind → Type 0
IsWhyLine tasks ws kinds.WhyNone = ws ≡ why_none_line
IsWhyLine tasks ws (kinds.WhyLoose now whole count) = IsLooseLine tasks (now, whole, count) × (ws ≡ loose_line now whole count)
IsWhyLine tasks ws (kinds.WhyOverflow now fault) = IsOverflowLine tasks (now, fault) × (ws ≡ overflow_line now fault)
IsWhyLine tasks ws (kinds.WhySpent now) = IsNowWord tasks now × (ws ≡ spent_line now)
IsWhyLine tasks ws _ = ⊥

abbrev pub IsShareOf : ℕ → ℤ → Words → LineKind → Type 0
IsShareOf columns whole ws (kinds.Share column parts) =
    let p : Part = record { column = column; parts = parts } in
    (w : ℕ) × (whole ≡ pos w) × IsPartOf columns w p × (ws ≡ share_line p)
IsShareOf columns whole ws _ = ⊥

abbrev pub IsSpareOf : ℕ → ℤ → Words → LineKind → Type 0
IsSpareOf tasks whole ws (kinds.Spare spare) = (w : ℕ) × (whole ≡ pos w) × IsSpareLine tasks w spare × (ws ≡ spare_line spare)
IsSpareOf tasks whole ws _ = ⊥

abbrev pub IsPriceLine : ℕ → Words → LineKind → Type 0
IsPriceLine tasks ws (kinds.Price prices) = AreNumbers IsPrice tasks prices × (ws ≡ price_line prices)
IsPriceLine tasks ws _ = ⊥

abbrev pub IsExtraLine : ℕ → ℕ → Words → LineKind → Type 0
IsExtraLine task count ws (kinds.Extra j prices) = (j ≡ task) × AreNumbers IsPrice count prices × (ws ≡ extra_line task prices)
IsExtraLine task count ws _ = ⊥

abbrev pub IsWorthLine : Words → LineKind → Type 0
IsWorthLine ws (kinds.Worth worth) = IsWorthNumber worth × (ws ≡ worth_line worth)
IsWorthLine ws _ = ⊥

abbrev pub IsPhiLine : ℕ → ℕ → Words → LineKind → Type 0
IsPhiLine task count ws (kinds.Phi j values) = (j ≡ task) × AreNumbers IsSigned count values × (ws ≡ phi_line task values)
IsPhiLine task count ws _ = ⊥

abbrev pub IsStepsOf : ℕ → Words → LineKind → Type 0
IsStepsOf task ws (kinds.Steps j pairs) = (runs : List Run) × (pairs ≡ flat_map run_numbers runs) × (j ≡ task) × IsStepsLine runs × (ws ≡ steps_line task runs)
IsStepsOf task ws _ = ⊥

abbrev pub IsEndLine : Words → LineKind → Type 0
IsEndLine ws kinds.End = ws ≡ end_line
IsEndLine ws _ = ⊥

-- the words are a line of the expected kind, with these fields
abbrev pub IsLineOf : Expect → Words → LineKind → Type 0
IsLineOf expected.Form ws kind = IsFormLine ws kind
IsLineOf expected.Size ws kind = IsSizeLine ws kind
IsLineOf expected.Place ws kind = IsPlaceLine ws kind
IsLineOf (expected.Travel places) ws kind = IsTimesLine places ws kind
IsLineOf (expected.Team places) ws kind = IsTeamOf places ws kind
IsLineOf (expected.Task places) ws kind = IsTaskOf places ws kind
IsLineOf (expected.Frozen most) ws kind = IsFrozenLine most ws kind
IsLineOf (expected.Keep teams tasks) ws kind = IsKeepLine teams tasks ws kind
IsLineOf expected.Pool ws kind = IsPoolLine ws kind
IsLineOf (expected.Route teams tasks) ws kind = IsRouteOf teams tasks ws kind
IsLineOf (expected.Plan tasks) ws kind = IsPlanLine tasks ws kind
IsLineOf (expected.Job teams tasks) ws kind = IsJobLine teams tasks ws kind
IsLineOf expected.Tree ws kind = IsTreeLine ws kind
IsLineOf (expected.Node teams tasks) ws kind = IsNodeLine teams tasks ws kind
IsLineOf (expected.Why tasks) ws kind = IsWhyLine tasks ws kind
IsLineOf (expected.Share columns whole) ws kind = IsShareOf columns whole ws kind
IsLineOf (expected.Spare tasks whole) ws kind = IsSpareOf tasks whole ws kind
IsLineOf (expected.Price tasks) ws kind = IsPriceLine tasks ws kind
IsLineOf (expected.Extra task count) ws kind = IsExtraLine task count ws kind
IsLineOf expected.Worth ws kind = IsWorthLine ws kind
IsLineOf (expected.Phi task count) ws kind = IsPhiLine task count ws kind
IsLineOf (expected.Steps task) ws kind = IsStepsOf task ws kind
IsLineOf expected.End ws kind = IsEndLine ws kind

-- ---- what a line has to show before its numbers are read

-- a split with two words after its first, or one of the three leaf lines
pub data HasNodeShape (ws : Words) : Type 0 where
  WindowShape : (is : IsShape (codes "window") 2 ws) → HasNodeShape ws
  PairShape : (is : IsShape (codes "pair") 2 ws) → HasNodeShape ws
  BareShape : (is : ws ≡ bare_line) → HasNodeShape ws
  OpenShape : (is : ws ≡ open_line) → HasNodeShape ws
  ClosedShape : (is : ws ≡ closed_line) → HasNodeShape ws

-- a cause of one of the four kinds with its number of words, an overflow with an operation
pub data HasWhyShape (ws : Words) : Type 0 where
  NoneShape : (is : ws ≡ why_none_line) → HasWhyShape ws
  LooseShape : (is : IsWhy (codes "loose") 3 ws) → HasWhyShape ws
  OverflowShape : (is : IsWhyOverflow ws) → HasWhyShape ws
  SpentShape : (is : IsWhy (codes "spent") 1 ws) → HasWhyShape ws

-- the expected first word and number of words, and those words that are given
abbrev pub HasShape : Expect → Words → Type 0
HasShape expected.Form ws = (form : DossierForm) × (ws ≡ form_line form)
HasShape expected.Size ws = IsShape (codes "size") 4 ws
HasShape expected.Place ws = IsShape (codes "place") 1 ws
HasShape (expected.Travel places) ws = IsShape (codes "travel") places ws
HasShape (expected.Team places) ws = IsShapeFrom (codes "team") 4 ws
HasShape (expected.Task places) ws = IsShapeFrom (codes "task") 6 ws
HasShape (expected.Frozen most) ws = IsShape (codes "frozen") 1 ws
HasShape (expected.Keep teams tasks) ws = IsShapeFrom (codes "keep") 2 ws
HasShape expected.Pool ws = IsShape (codes "pool") 2 ws
HasShape (expected.Route teams tasks) ws = Begins (codes "route") ws × IsPairs ws
HasShape (expected.Plan tasks) ws = IsShape (codes "plan") 2 ws
HasShape (expected.Job teams tasks) ws = IsShapeFrom (codes "do") 2 ws
HasShape expected.Tree ws = IsShape (codes "tree") 4 ws
HasShape (expected.Node teams tasks) ws = HasNodeShape ws
HasShape (expected.Why tasks) ws = HasWhyShape ws
HasShape (expected.Share columns whole) ws = IsShape (codes "share") 2 ws
HasShape (expected.Spare tasks whole) ws = IsShape (codes "spare") tasks ws
HasShape (expected.Price tasks) ws = IsShape (codes "price") tasks ws
HasShape (expected.Extra task count) ws = IsRow extra_line task count ws
HasShape expected.Worth ws = IsShape (codes "worth") 1 ws
HasShape (expected.Phi task count) ws = IsRow phi_line task count ws
HasShape (expected.Steps task) ws = BeginsAt (codes "steps") task ws × IsPairs ws
HasShape expected.End ws = ws ≡ end_line

-- the names that the line has are spelled as names
abbrev pub HasNames : Expect → Words → Type 0
HasNames expected.Place ws = (name : List ℕ) × IsName name × (ws ≡ place_line name)
HasNames (expected.Team places) ws = HasName ws
HasNames (expected.Task places) ws = HasName ws
HasNames _ ws = Unit {0}

-- ---- reading

-- the fault is the first that the line has: of its shape, then of its name, then of its numbers
abbrev pub IsFaultOf : Expect → Words → LineFault → Type 0
IsFaultOf expect ws Shape = HasShape expect ws → ⊥
IsFaultOf expect ws Name = HasShape expect ws × (HasNames expect ws → ⊥)
IsFaultOf expect ws Number = HasShape expect ws × HasNames expect ws × ((kind : LineKind) → IsLineOf expect ws kind → ⊥)

-- the fields of a line of the expected kind, or its first fault
abbrev pub ReadsLine : Expect → Words → Result LineKind LineFault → Type 0
ReadsLine expect ws (Ok kind) = IsLineOf expect ws kind
ReadsLine expect ws (Err fault) = IsFaultOf expect ws fault
