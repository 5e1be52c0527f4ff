-- what is held of the head of a dossier stands for what has been read of it
use Rattle.std.specs.Prelude.{◌≡◌, ◌≢◌, ◌<◌, ◌+◌, ◌-◌, ℕ, ℤ, suc, pos, List, length, map, None, Some, Result, Ok, Err, slice_set}
use Rattle.std.specs.List.{range_with_len}
use Rattle.crew_terms.specs.Words.{Words}
use Rattle.crew_terms.specs.Instance.{Instance}
use Rattle.crew_terms.specs.Plan.{Job}
use Rattle.crew_terms.specs.Rules.{HasNoFrozen}
use Rattle.crew_instance.specs.Draft.{Draft as Parts, known_times, time_of}
use Rattle.crew_instance.specs.Times.{minutes_from}
use Rattle.crew_instance.specs.declared.faults.BuildFault.{BuildFault}
use Rattle.crew_instance.specs.declared.faults.BuildFault.TheVariants as faults
use Rattle.dossier_terms.specs.declared.Reason.TheVariants.{Name, Instance as BadInstance}
use Rattle.dossier_terms.specs.HeadTable.{CanFreeze, after_keep}
use Rattle.dossier_terms.specs.Reading.{Reading, Answer, Opening, More as Goes, No as Refuses, Form as FormDue, Sizes, Places, Travels, Teams, Tasks, Frozens, Keeps, Pools}
use Rattle.dossier_terms.specs.Ranges.{IsSize, IsTravel}
use Rattle.dossier_terms.specs.Rules.{Must}
use Rattle.dossier_terms.specs.Table.{Says}
use Rattle.head_check.specs.declared.due.Head.{Head}
use Rattle.head_check.specs.declared.due.HeadDue.{HeadDue}
use Rattle.head_check.specs.declared.due.HeadDue.TheVariants.{Form, Size, Place, Travel, Team, Task, Frozen, Keep, Whole}
use Rattle.line_in.specs.declared.refusals.Refusal.{Refusal}
use Rattle.line_in.specs.declared.refusals.Refusal.TheVariants.{No, OutOfMemory}

-- what the first two lines said
abbrev pub opening_of : Head → Opening
opening_of head = record { form = head.form; size = head.size }

-- the parts of an instance that a builder holds, of whose travel times the first rows are read
abbrev pub instance_so_far : Parts → ℕ → Instance
instance_so_far d rows = record {
  places = d.places;
  teams = d.teams;
  tasks = d.tasks;
  travel = map (λ a. minutes_from (known_times d) a) (range_with_len 0 rows);
  frozen = d.frozen;
}

-- the instance of which no travel time is read yet
abbrev pub places_of : Head → Instance
places_of head = instance_so_far head.builder 0

-- the instance of which so many rows of travel times are not read yet
abbrev pub read_before_rows : Head → ℕ → Instance
read_before_rows head more = instance_so_far head.builder (head.size.places - more)

-- the instance of which all places and travel times are read
abbrev pub read_of : Head → Instance
read_of head = instance_so_far head.builder head.size.places

-- the state of the table of lines
abbrev pub reading_of : HeadDue → Reading
reading_of Form = FormDue
reading_of (Size form) = Sizes form
reading_of (Place head more) = Places (opening_of head.value) more (places_of head.value)
reading_of (Travel head more) =
    Travels (opening_of head.value) more (read_before_rows head.value (suc more))
reading_of (Team head more) = Teams (opening_of head.value) more (read_of head.value)
reading_of (Task head more) = Tasks (opening_of head.value) more (read_of head.value)
reading_of (Frozen head) = Frozens (opening_of head.value) (read_of head.value)
reading_of (Keep head more from) = Keeps (opening_of head.value) more from (read_of head.value)
reading_of (Whole base) = Pools base.value.form base.value.instance base.value.nodes

-- a line of the head is due
abbrev pub IsLineDue : HeadDue → Type 0
IsLineDue (Whole base) = ⊥
IsLineDue _ = Unit {0}

-- every time of the first rows is given
abbrev pub AreGiven : Parts → ℕ → Type 0
AreGiven d rows = (a b : ℕ) → a < rows → b < length d.places → time_of d a b ≢ None

-- what holds of a head of which p places, r rows of travel times, m teams and n tasks are read; no task has a frozen job
pub record IsHead (head : Head) (p r m n : ℕ) : Type 0 where
  pub size : IsSize head.size
  pub places : length head.builder.places ≡ p
  pub given : AreGiven head.builder r
  pub teams : length head.builder.teams ≡ m
  pub tasks : length head.builder.tasks ≡ n
  pub frozen : HasNoFrozen (instance_so_far head.builder r)

-- what holds of a head of which all places, travel times, teams and tasks are read
pub record IsFull (head : Head) : Type 0 where
  pub size : IsSize head.size
  pub places : length head.builder.places ≡ head.size.places
  pub given : AreGiven head.builder head.size.places
  pub teams : length head.builder.teams ≡ head.size.teams
  pub tasks : length head.builder.tasks ≡ head.size.tasks

-- what holds of a head of which so many places are to come
abbrev pub HasPlacesLeft : Head → ℕ → Type 0
HasPlacesLeft head more = (p : ℕ) × (p + more ≡ head.size.places) × IsHead head p 0 0 0

-- the same of rows of travel times, behind all places
abbrev pub HasRowsLeft : Head → ℕ → Type 0
HasRowsLeft head more = (p : ℕ) × (p + more ≡ head.size.places) × IsHead head head.size.places p 0 0

-- the same of teams, behind all travel times
abbrev pub HasTeamsLeft : Head → ℕ → Type 0
HasTeamsLeft head more = (p : ℕ) × (p + more ≡ head.size.teams)
    × IsHead head head.size.places head.size.places p 0

-- the same of tasks, behind all teams
abbrev pub HasTasksLeft : Head → ℕ → Type 0
HasTasksLeft head more = (p : ℕ) × (p + more ≡ head.size.tasks)
    × IsHead head head.size.places head.size.places head.size.teams p

-- the numbers are travel times from one place to each
abbrev pub IsRowOf : List ℤ → Head → Type 0
IsRowOf times head = (row : List ℕ) × (times ≡ map pos row) × IsTravel head.size.places row

-- what holds of what is held
abbrev pub Holds : HeadDue → Type 0
Holds Form = Unit {0}
Holds (Size form) = Unit {0}
Holds (Place head more) = HasPlacesLeft head.value (suc more)
Holds (Travel head more) = HasRowsLeft head.value (suc more)
Holds (Team head more) = HasTeamsLeft head.value (suc more)
Holds (Task head more) = HasTasksLeft head.value (suc more)
Holds (Frozen head) =
    let h = head.value in IsHead h h.size.places h.size.places h.size.teams h.size.tasks
Holds (Keep head more from) = IsFull head.value
Holds (Whole base) = Unit {0}

-- why a line is refused whose builder has this fault
abbrev pub refusal_for : BuildFault → Refusal
refusal_for faults.SameName = No Name
refusal_for faults.OutOfMemory = OutOfMemory
refusal_for _ = No BadInstance

-- the rules go on to what is due, and what is held stands for it
pub record GoesOn (Rules : Answer → Type 0) (due : HeadDue) : Type 0 where
  pub says : Rules (Goes (reading_of due))
  pub holds : Holds due

-- what is due next, or the reason, is what these rules say; for want of memory nothing is said
abbrev pub HeadTells : (Answer → Type 0) → Result HeadDue Refusal → Type 0
HeadTells Rules (Ok due) = GoesOn Rules due
HeadTells Rules (Err (No reason)) = Rules (Refuses reason)
HeadTells Rules (Err OutOfMemory) = Unit {0}

-- it is what the table says of the line
abbrev pub IsHeadStep : HeadDue → Words → Result HeadDue Refusal → Type 0
IsHeadStep due words step = HeadTells (Says (reading_of due) words) step

-- what is said of a frozen job of task j, where so many more come after it
abbrev pub after_job : Head → ℕ → ℕ → ℕ → List ℕ → Answer → Type 0
after_job head more j start teams =
    let job : Job = record { start = start; teams = teams } in
    let i = read_of head in
    Must (CanFreeze i (j, job)) BadInstance
    (after_keep (opening_of head) more (suc j)
    (record i { frozen = slice_set i.frozen j (Some job) }))
