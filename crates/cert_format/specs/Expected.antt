-- the kind of line that is due in each state of the table of lines
use Rattle.std.specs.Prelude.{ℕ, pos, length}
use Rattle.crew_terms.specs.Limits.{tasks_in}
use Rattle.dossier_terms.specs.declared.DossierForm.{DossierForm}
use Rattle.dossier_terms.specs.declared.DossierForm.TheVariants.{One, Two}
use Rattle.crew_terms.specs.Minutes.{minute_count, required_teams}
use Rattle.dossier_terms.specs.Reading.{Reading, limits_of}
use Rattle.dossier_terms.specs.Reading as due
use Rattle.cert_format.specs.declared.kinds.Expect.{Expect}
use Rattle.cert_format.specs.declared.kinds.Expect.TheVariants.{Form, Size, Place, Travel, Team, Task, Frozen, Keep, Pool, Route, Plan, Job, Tree, Node, Why, Share, Spare, Price, Extra, Worth, Phi, Steps, End}

-- the line of the potentials of task j, which has so many minutes, as the form has it
abbrev pub potentials_expect : DossierForm → ℕ → ℕ → Expect
potentials_expect One j count = Phi j count
potentials_expect Two j count = Steps j

-- the kind of line that is due, with the counts that its ranges need
abbrev pub expect_of : Reading → Expect
expect_of due.Form = Form
expect_of (due.Sizes form) = Size
expect_of (due.Places o k i) = Place
expect_of (due.Travels o k i) = Travel o.size.places
expect_of (due.Teams o k i) = Team o.size.places
expect_of (due.Tasks o k i) = Task o.size.places
expect_of (due.Frozens o i) = Frozen (length i.tasks)
expect_of (due.Keeps o k from i) = Keep (length i.teams) (length i.tasks)
expect_of (due.Pools form i budget) = Pool
expect_of (due.Routes b k) = Route (length b.instance.teams) (length b.instance.tasks)
expect_of (due.Plans b) = Plan (length b.instance.tasks)
expect_of (due.Jobs b k from) = Job (length b.instance.teams) (length b.instance.tasks)
expect_of (due.Trees b) = Tree
expect_of (due.Nodes b c above) = Node (length b.instance.teams) (length b.instance.tasks)
expect_of (due.Whys p) = Why (length p.begun.instance.tasks)
expect_of (due.Parts p now read left from) = Share (length p.begun.pool) (pos read.whole)
expect_of (due.Spares p now read) = Spare (length p.begun.instance.tasks) (pos read.whole)
expect_of (due.Prices a) = Price (tasks_in (limits_of a))
expect_of (due.Extras a leaf j js) = Extra j (length (required_teams (limits_of a) j))
expect_of (due.Worths a leaf k) = Worth
expect_of (due.Phis a leaf k table j js) = potentials_expect a.begun.form j (minute_count (limits_of a) (length leaf.tables) j)
expect_of (due.Ends b c t) = End
