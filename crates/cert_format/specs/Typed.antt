-- what a reader of one kind of line gives
use Rattle.std.specs.Prelude.{Result, Ok, Err}
use Rattle.crew_terms.specs.Words.{Words}
use Rattle.cert_format.specs.Lines.{IsLineOf, IsFaultOf}
use Rattle.cert_format.specs.declared.kinds.Expect.{Expect}
use Rattle.cert_format.specs.declared.kinds.LineKind.{LineKind}
use Rattle.cert_format.specs.declared.kinds.LineKind.TheVariants as kinds
use Rattle.line_in.specs.declared.faults.LineFault.{LineFault}
use Rattle.cert_format.specs.declared.typed.TeamLine.{TeamLine}
use Rattle.cert_format.specs.declared.typed.TaskLine.{TaskLine}
use Rattle.cert_format.specs.declared.typed.JobLine.{JobLine}
use Rattle.cert_format.specs.declared.typed.PoolLine.{PoolLine}
use Rattle.cert_format.specs.declared.typed.RouteLine.{RouteLine}
use Rattle.cert_format.specs.declared.typed.PlanLine.{PlanLine}
use Rattle.cert_format.specs.declared.typed.ShareLine.{ShareLine}
use Rattle.cert_format.specs.declared.typed.NodeLine.{NodeLine}
use Rattle.cert_format.specs.declared.typed.NodeLine.TheVariants as nodes
use Rattle.cert_format.specs.declared.typed.WhyLine.{WhyLine}
use Rattle.cert_format.specs.declared.typed.WhyLine.TheVariants as whys

-- ---- the kind of line that has these fields

abbrev pub team_kind : TeamLine → LineKind
team_kind t = kinds.Team t.name t.home t.from t.until t.skills

abbrev pub task_kind : TaskLine → LineKind
task_kind t = kinds.Task t.name t.place t.earliest t.latest t.minutes t.teams t.skills

abbrev pub keep_kind : JobLine → LineKind
keep_kind job = kinds.Keep job.task job.start job.teams

abbrev pub pool_kind : PoolLine → LineKind
pool_kind pool = kinds.Pool pool.kept pool.routes

abbrev pub route_kind : RouteLine → LineKind
route_kind route = kinds.Route route.team route.visits

abbrev pub plan_kind : PlanLine → LineKind
plan_kind plan = kinds.Plan plan.unassigned plan.bound

abbrev pub job_kind : JobLine → LineKind
job_kind job = kinds.Job job.task job.start job.teams

abbrev pub node_kind : NodeLine → LineKind
node_kind (nodes.Window task cut) = kinds.Window task cut
node_kind (nodes.Pair team task) = kinds.Pair team task
node_kind nodes.Bare = kinds.LeafBare
node_kind nodes.Open = kinds.LeafOpen
node_kind nodes.Closed = kinds.LeafClosed

abbrev pub why_kind : WhyLine → LineKind
why_kind whys.None = kinds.WhyNone
why_kind (whys.Loose now whole count) = kinds.WhyLoose now whole count
why_kind (whys.Overflow now fault) = kinds.WhyOverflow now fault
why_kind (whys.Spent now) = kinds.WhySpent now

abbrev pub share_kind : ShareLine → LineKind
share_kind share = kinds.Share share.column share.parts

abbrev pub end_kind : Unit {0} → LineKind
end_kind end = kinds.End

-- ---- reading

-- the fields of a line of the expected kind, or its first fault
abbrev pub ReadsAs : {A : Type 0} → Expect → (A → LineKind) → Words → Result A LineFault → Type 0
ReadsAs expect kind ws (Ok fields) = IsLineOf expect ws (kind fields)
ReadsAs expect kind ws (Err fault) = IsFaultOf expect ws fault
