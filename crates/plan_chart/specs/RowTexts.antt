-- the rows of a chart, as text
use Rattle.std.specs.Prelude.{◌+◌, ◌-◌, ◌++◌, ℕ, List, [], ◌∷◌, codes, is_none, length, nat_lt, slice_index, slice_index_or, if◌then◌else◌}
use Rattle.std.specs.Option.{option_map_or}
use Rattle.std.specs.Fmt.{decimal}
use Rattle.crew_terms.specs.Instance.{Instance, task_of, team_of}
use Rattle.crew_terms.specs.Plan.{Job, Plan, job_of}
use Rattle.crew_terms.specs.declared.Task.{Task}
use Rattle.crew_terms.specs.declared.Team.{Team}
use Rattle.field_table.specs.Clocks.{clock_text}
use Rattle.each_out.specs.Pieces.{joined}
use Rattle.plan_chart.specs.Rows.{open_top, row_top}
use Rattle.plan_chart.specs.declared.links.TheConstants.{MIDDLE}

-- ---- teams and hours

-- the name of a team on the left of the first minute, and its shift from when it begins and as wide as its minutes, which tells the team
unfoldable pub band_of : ℕ → ℕ → Team → List ℕ
band_of left top team = joined (
    (10 ∷ codes "<text x='") ∷ decimal left ∷ codes "' dx='-58' y='" ∷ decimal top ∷ codes "' dy='8'>" ∷ team.name
    ∷ codes "</text><rect class='shift' x='" ∷ decimal team.from ∷ codes "' y='" ∷ decimal top ∷ codes "' width='" ∷ decimal (team.until - team.from)
    ∷ codes "' height='11'><title>" ∷ team.name ∷ codes ", " ∷ [])

-- when a shift begins and ends
unfoldable pub shift_times : Team → List ℕ
shift_times team = joined (clock_text team.from ∷ codes " to " ∷ clock_text team.until ∷ codes "</title></rect>" ∷ [])

-- the row of a team
abbrev pub shift_of : ℕ → ℕ → Team → List ℕ
shift_of left top team = band_of left top team ++ shift_times team

-- the row of team k
abbrev pub shift_row : Instance → ℕ → ℕ → List ℕ
shift_row i left k = shift_of left (row_top k) (team_of i k)

-- the line of a minute, with what a clock shows then above it
unfoldable pub hour_line : ℕ → ℕ → List ℕ
hour_line bottom minute = joined (
    (10 ∷ codes "<path class='hour' d='M") ∷ decimal minute ∷ codes " 12V" ∷ decimal bottom
    ∷ codes "'/><text class='hour' x='" ∷ decimal minute ∷ codes "' y='8'>" ∷ clock_text minute ∷ codes "</text>" ∷ [])

-- ---- links

-- the line at a minute from the middle of the row of one team to that of another
unfoldable pub link_line : ℕ → ℕ → ℕ → List ℕ
link_line start first last = joined (
    (10 ∷ codes "<path class='link' d='M") ∷ decimal start ∷ codes " " ∷ decimal (row_top first + MIDDLE) ∷ codes "V" ∷ decimal (row_top last + MIDDLE)
    ∷ codes "'/>" ∷ [])

-- the line between teams, if they are several
abbrev pub link_of_teams : ℕ → List ℕ → List ℕ
link_of_teams start teams = if nat_lt 1 (length teams) then link_line start (slice_index teams 0) (slice_index teams (length teams - 1)) else []

-- the line of task j, if several teams do it
abbrev pub link_text : Plan → ℕ → List ℕ
link_text p j = option_map_or (λ (job : Job). link_of_teams job.start job.teams) (job_of p j) []

-- ---- open tasks

-- what is open where, for how many minutes
unfoldable pub open_what : List ℕ → Task → List ℕ
open_what place task = joined (
    (10 ∷ codes "<g class='open'><title>") ∷ task.name ∷ codes " at " ∷ place ∷ codes " is open: " ∷ decimal task.minutes ∷ codes " minutes, to begin from " ∷ [])

-- when it may begin, and how many teams it wants
unfoldable pub open_when : Task → List ℕ
open_when task = joined (clock_text task.earliest ∷ codes " to " ∷ clock_text task.latest ∷ codes ", teams wanted: " ∷ decimal task.teams ∷ codes "</title>" ∷ [])

-- its name, its bar from when it may begin first to when it may end last, and how many teams it wants
unfoldable pub open_bar : ℕ → ℕ → Task → List ℕ
open_bar left top task = joined (
    codes "<text x='" ∷ decimal left ∷ codes "' dx='-58' y='" ∷ decimal top ∷ codes "' dy='8'>" ∷ task.name
    ∷ codes "</text><rect x='" ∷ decimal task.earliest ∷ codes "' y='" ∷ decimal (top + 1) ∷ codes "' width='" ∷ decimal ((task.latest - task.earliest) + task.minutes)
    ∷ codes "' height='9'/><text x='" ∷ decimal task.earliest ∷ codes "' dx='2' y='" ∷ decimal top ∷ codes "' dy='7'>" ∷ decimal task.teams
    ∷ codes "</text></g>" ∷ [])

abbrev pub open_of : ℕ → ℕ → List ℕ → Task → List ℕ
open_of left top place task = (open_what place task ++ open_when task) ++ open_bar left top task

-- the row of open task j
unfoldable pub open_task : Instance → Plan → ℕ → ℕ → List ℕ
open_task i p left j = open_of left (open_top i p j) (slice_index_or i.places (task_of i j).place []) (task_of i j)

-- the row of task j, if nobody does it
abbrev pub open_row : Instance → Plan → ℕ → ℕ → List ℕ
open_row i p left j = if is_none (job_of p j) then open_task i p left j else []
