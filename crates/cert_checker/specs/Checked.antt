-- what a checker has read, and what it says of a line
use Rattle.std.specs.Prelude.{◌≡◌, ◌≤◌, ◌+◌, ℕ, List}
use Rattle.crew_terms.specs.Words.{Words}
use Rattle.crew_terms.specs.Plan.{Plan, unassigned_count}
use Rattle.crew_terms.specs.Legal.{IsLegal}
use Rattle.dossier_terms.specs.declared.Reason.{Reason}
use Rattle.dossier_terms.specs.declared.Reason.TheVariants as reasons
use Rattle.dossier_terms.specs.Dossier.{Dossier, IsGood, unshown}
use Rattle.crew_terms.specs.Branches.{splits, closed, left_open}
use Rattle.crew_terms.specs.Limits.{root_limits}
use Rattle.dossier_laws.specs.Shown.{EachStaysOpen}
use Rattle.dossier_terms.specs.Reading.{Reading, Form, Nodes, Whys, Parts, Spares, Prices, Extras, Worths, Phis, Ends as EndDue, Answer, More as Goes, Whole as Ends, No as Refuses}
use Rattle.dossier_terms.specs.Table.{Says, Reaches}
use Rattle.head_check.specs.declared.due.HeadDue.TheVariants as heads
use Rattle.cert_checker.specs.Due.{Awaits, IsEndOf}
use Rattle.cert_checker.specs.declared.due.Due.TheVariants.{Head}
use Rattle.cert_checker.specs.declared.checker.State.{State}
use Rattle.cert_checker.specs.declared.checker.State.TheVariants as states
use Rattle.cert_checker.specs.declared.checker.Verdict.{Verdict}
use Rattle.cert_checker.specs.declared.checker.Said.{Said}
use Rattle.cert_checker.specs.declared.checker.Said.TheVariants.{More, Whole, No}
use Rattle.cert_checker.specs.declared.checker.Stop.{Stop}
use Rattle.cert_checker.specs.declared.checker.Stop.TheVariants.{End, TooLong, TooMuch}

-- how many lines a checker has judged, and what it keeps of them
pub record Checked : Type 0 where
  pub lines : ℕ
  pub at : State

-- a checker that has read nothing yet, behind so many lines
abbrev pub opened_at : ℕ → Checked
opened_at lines = record { lines = lines; at = states.Due (Head heads.Form) }

-- the same behind none
abbrev pub fresh_checker : Checked
fresh_checker = opened_at 0

-- ---- what a checker stands for

-- the line of the table that is due, while no line was refused and memory not wanting: that of what is kept, or the
-- first line behind a whole dossier
abbrev pub IsDueAt : State → Reading → Type 0
IsDueAt (states.Due due) reading = Awaits due reading
IsDueAt (states.Whole ended) reading = reading ≡ Form
IsDueAt (states.Refused line reason) reading = ⊥
IsDueAt states.Spent reading = ⊥

-- a line behind the line `tree` of a dossier is due
abbrev pub IsPastTree : Reading → Type 0
IsPastTree (Nodes b c above) = Unit {0}
IsPastTree (Whys p) = Unit {0}
IsPastTree (Parts p now read left from) = Unit {0}
IsPastTree (Spares p now read) = Unit {0}
IsPastTree (Prices a) = Unit {0}
IsPastTree (Extras a leaf j js) = Unit {0}
IsPastTree (Worths a leaf k) = Unit {0}
IsPastTree (Phis a leaf k table j js) = Unit {0}
IsPastTree (EndDue b c t) = Unit {0}
IsPastTree _ = ⊥

-- this dossier is whole, and no line was read after it
abbrev pub IsWholeAt : State → Dossier → Type 0
IsWholeAt (states.Due due) d = ⊥
IsWholeAt (states.Whole ended) d = IsEndOf ended d
IsWholeAt (states.Refused line reason) d = ⊥
IsWholeAt states.Spent d = ⊥

-- a line is due
abbrev pub IsOpen : State → Type 0
IsOpen at = (reading : Reading) × IsDueAt at reading

-- a dossier is whole, and no line was read after it
abbrev pub IsEnded : State → Type 0
IsEnded at = (d : Dossier) × IsWholeAt at d

-- lines of a dossier lead to this state of the table
abbrev pub IsReached : Reading → Type 0
IsReached reading = (lines : List Words) × Reaches Form lines reading

-- ---- what it says

-- what a dossier says
abbrev pub verdict_of : Dossier → Verdict
verdict_of d = record { unassigned = unassigned_count d.plan; bound = d.bound; splits = splits d.tree; closed = closed d.tree; left_open = left_open d.tree; unshown = unshown d.tree }

-- the answer to the line of this number, as the checker says it
abbrev pub said_of : ℕ → Answer → Said
said_of number (Goes next) = More
said_of number (Ends d) = Whole (verdict_of d)
said_of number (Refuses reason) = No number reason

-- what the checker stands for after it
abbrev pub StandsAfter : ℕ → Answer → State → Type 0
StandsAfter number (Goes next) at = IsDueAt at next
StandsAfter number (Ends d) at = IsWholeAt at d
StandsAfter number (Refuses reason) at = at ≡ states.Refused number reason

-- behind so many lines the line that is due is judged as the table says, which says one thing of it
pub record IsJudged (lines : ℕ) (due : Reading) (words : Words) (said : Said) (new : Checked) : Type 0 where
  pub answer : Answer
  pub is : Says due words answer
  pub only : (other : Answer) → Says due words other → other ≡ answer
  pub says : said ≡ said_of (lines + 1) answer
  pub count : new.lines ≡ lines + 1
  pub stands : StandsAfter (lines + 1) answer new.at

-- a good dossier is what it says: its plan is legal, and every legal plan of its instance leaves at least its bound
-- unassigned. No prices could have closed a node whose split has a loose cause
pub record IsTrueYes (d : Dossier) : Type 0 where
  pub good : IsGood d
  pub legal : IsLegal d.instance d.plan
  pub bound : (p : Plan) → IsLegal d.instance p → d.bound ≤ unassigned_count p
  pub stays_open : EachStaysOpen (root_limits d.instance) d.tree

-- ---- where no line comes

-- the reason that tells why no line comes
abbrev pub stop_reason_of : Stop → Reason
stop_reason_of (End partial) = reasons.End
stop_reason_of TooLong = reasons.TooLong
stop_reason_of TooMuch = reasons.TooMuch

-- the line that is due is refused
abbrev pub refused_at : Checked → Reason → Checked
refused_at c reason = record { lines = c.lines; at = states.Refused (c.lines + 1) reason }
