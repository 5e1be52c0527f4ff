-- the kinds of records: what their fields must be, and the entries that they stand for
use Rattle.std.specs.Prelude.{◌-◌, ℕ, List, [], ◌∷◌, codes}
use Rattle.crew_terms.specs.declared.TheConstants.{LAST_MINUTE, MOST_NODES, SKILLS}
use Rattle.field_table.specs.declared.fields.Kind.{Kind}
use Rattle.field_table.specs.declared.fields.Kind.TheVariants.{Number, Clock}
use Rattle.day_terms.specs.declared.TheConstants.{GREATEST_COUNT}
use Rattle.day_terms.specs.declared.RecordKind.{RecordKind}
use Rattle.day_terms.specs.declared.RecordKind.TheVariants as kinds
use Rattle.day_terms.specs.declared.Entry.{Entry}
use Rattle.day_terms.specs.declared.Entry.TheVariants.{Place, Travel, RouteTime, DefaultTravel, Team, Task, Cancel, Move, Longer, Needs, Sick, Shift, Skill, Unskill, Plan, Now, Thaw}

-- what a field must be: a name, a number or a time in a range, or a list of skills
pub data Slot : Type 0 where
  Named : Slot
  Ranged : (kind : Kind) (low high : ℕ) → Slot
  Skilled : Slot

-- minutes of travel
abbrev pub minutes : Slot
minutes = Ranged Number 0 LAST_MINUTE

-- minutes of a task
abbrev pub duration : Slot
duration = Ranged Number 1 LAST_MINUTE

-- a time of the day, or of the night behind it
abbrev pub time : Slot
time = Ranged Clock 0 LAST_MINUTE

-- a number of teams
abbrev pub count : Slot
count = Ranged Number 0 GREATEST_COUNT

-- a skill's number
abbrev pub skill : Slot
skill = Ranged Number 0 (SKILLS - 1)

-- a budget of nodes
abbrev pub nodes : Slot
nodes = Ranged Number 0 MOST_NODES

-- what a field gives: the bytes of a name, a number, or a set of skills
abbrev pub Value : Slot → Type 0
Value Named = List ℕ
Value (Ranged kind low high) = ℕ
Value Skilled = ℕ

-- an entry from what such fields give
abbrev pub Maker : List Slot → Type 0
Maker [] = Entry
Maker (s ∷ ss) = Value s → Maker ss

-- what the records of a kind must be: their first field, what the others must be, and the entry that they stand for
pub record Form : Type 0 where
  pub key : List ℕ
  pub slots : List Slot
  pub entry : Maker slots

-- a place's name
abbrev pub place_form : Form
place_form = record { key = codes "place"; slots = Named ∷ []; entry = λ name. Place name }

-- two places, and the minutes either way
abbrev pub travel_form : Form
travel_form = record { key = codes "travel"; slots = Named ∷ Named ∷ minutes ∷ []; entry = λ from to n. Travel from to n }

-- two places, and the minutes from the one to the other
abbrev pub route_time_form : Form
route_time_form = record { key = codes "route_time"; slots = Named ∷ Named ∷ minutes ∷ []; entry = λ from to n. RouteTime from to n }

-- the minutes between other places
abbrev pub default_travel_form : Form
default_travel_form = record { key = codes "default_travel"; slots = minutes ∷ []; entry = λ n. DefaultTravel n }

-- a team: its name, home, shift and skills
abbrev pub team_form : Form
team_form = record {
  key = codes "team";
  slots = Named ∷ Named ∷ time ∷ time ∷ Skilled ∷ [];
  entry = λ name home from until skills. Team name home from until skills;
}

-- a task: its name, place, window, minutes, teams and skills
abbrev pub task_form : Form
task_form = record {
  key = codes "task";
  slots = Named ∷ Named ∷ time ∷ time ∷ duration ∷ count ∷ Skilled ∷ [];
  entry = λ name place earliest latest n teams skills. Task name place earliest latest n teams skills;
}

-- a task that is no more
abbrev pub cancel_form : Form
cancel_form = record { key = codes "cancel"; slots = Named ∷ []; entry = λ task. Cancel task }

-- a task, and its new window
abbrev pub move_form : Form
move_form = record { key = codes "move"; slots = Named ∷ time ∷ time ∷ []; entry = λ task earliest latest. Move task earliest latest }

-- a task, and its new minutes
abbrev pub longer_form : Form
longer_form = record { key = codes "longer"; slots = Named ∷ duration ∷ []; entry = λ task n. Longer task n }

-- a task, and its new number of teams
abbrev pub needs_form : Form
needs_form = record { key = codes "needs"; slots = Named ∷ count ∷ []; entry = λ task teams. Needs task teams }

-- a team that is no more
abbrev pub sick_form : Form
sick_form = record { key = codes "sick"; slots = Named ∷ []; entry = λ team. Sick team }

-- a team, and its new shift
abbrev pub shift_form : Form
shift_form = record { key = codes "shift"; slots = Named ∷ time ∷ time ∷ []; entry = λ team from until. Shift team from until }

-- a team, and the skill that it gets
abbrev pub skill_form : Form
skill_form = record { key = codes "skill"; slots = Named ∷ skill ∷ []; entry = λ team n. Skill team n }

-- a team, and the skill that it loses
abbrev pub unskill_form : Form
unskill_form = record { key = codes "unskill"; slots = Named ∷ skill ∷ []; entry = λ team n. Unskill team n }

-- a plan is due, with this budget
abbrev pub plan_form : Form
plan_form = record { key = codes "plan"; slots = nodes ∷ []; entry = λ n. Plan n }

-- what is to begin before this time is frozen
abbrev pub now_form : Form
now_form = record { key = codes "now"; slots = time ∷ []; entry = λ n. Now n }

-- a task whose frozen job is frozen no more
abbrev pub thaw_form : Form
thaw_form = record { key = codes "thaw"; slots = Named ∷ []; entry = λ task. Thaw task }

-- what the records of a kind must be
abbrev pub form_of : RecordKind → Form
form_of kinds.Place = place_form
form_of kinds.Travel = travel_form
form_of kinds.RouteTime = route_time_form
form_of kinds.DefaultTravel = default_travel_form
form_of kinds.Team = team_form
form_of kinds.Task = task_form
form_of kinds.Cancel = cancel_form
form_of kinds.Move = move_form
form_of kinds.Longer = longer_form
form_of kinds.Needs = needs_form
form_of kinds.Sick = sick_form
form_of kinds.Shift = shift_form
form_of kinds.Skill = skill_form
form_of kinds.Unskill = unskill_form
form_of kinds.Plan = plan_form
form_of kinds.Now = now_form
form_of kinds.Thaw = thaw_form
