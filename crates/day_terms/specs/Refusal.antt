-- why an entry is refused in a state
use Rattle.std.specs.Prelude.{◌≡◌, ◌-◌, ◌||◌, ℕ, Bool, List, [], ◌∷◌, Option, None, filter, find, length, not, nat_le, nat_lt, option_map}
use Rattle.std.specs.Option.{option_or}
use Rattle.std.specs.Map.{lookup}
use Rattle.crew_terms.specs.declared.TheConstants.{MOST_PLACES, MOST_TEAMS, MOST_TASKS, MOST_TEAMS_PER_TASK, WIDEST_WINDOW}
use Rattle.day_terms.specs.State.{DayState, has_place, has_team, has_task}
use Rattle.day_terms.specs.Work.{faulty_job, first_by_task, is_job_of, needs_team}
use Rattle.day_terms.specs.Entries.{after_entry}
use Rattle.day_terms.specs.Rounds.{first_missing}
use Rattle.day_terms.specs.declared.Entry.{Entry}
use Rattle.day_terms.specs.declared.Entry.TheVariants.{Place, Travel, RouteTime, DefaultTravel, Team, Task, Cancel, Move, Longer, Needs, Sick, Shift, Skill, Unskill, Plan, Now, Thaw}

-- MissingTravel tells the names of two places; FrozenWork that of a task
pub data Refusal : Type 0 where
  TooMany : Refusal
  SameName : Refusal
  NoPlace : Refusal
  NoTask : Refusal
  NoTeam : Refusal
  BadWindow : Refusal
  BadShift : Refusal
  BadTeams : Refusal
  MissingTravel : (from to : List ℕ) → Refusal
  FrozenWork : (task : List ℕ) → Refusal

-- of these conditions, the refusal of the first that holds
abbrev pub first_of : List (Bool × Refusal) → Option Refusal
first_of rows = lookup (λ holds. holds) rows

-- a window that ends before it begins, or is too wide
abbrev pub is_bad_window : ℕ → ℕ → Bool
is_bad_window earliest latest = nat_lt latest earliest || nat_lt WIDEST_WINDOW (latest - earliest)

-- no team, or too many
abbrev pub is_bad_count : ℕ → Bool
is_bad_count teams = nat_lt teams 1 || nat_lt MOST_TEAMS_PER_TASK teams

-- a shift that ends before it begins, or when it begins
abbrev pub is_bad_shift : ℕ → ℕ → Bool
is_bad_shift from until = nat_le until from

-- the refusal of the entry by the lists as they are, if they refuse it: of each kind's conditions, the first that holds
abbrev pub refusal_by_lists : DayState → Entry → Option Refusal
refusal_by_lists s (Place name) = first_of ((nat_le MOST_PLACES (length s.places), TooMany) ∷ (has_place s name, SameName) ∷ [])
refusal_by_lists s (Travel from to minutes) = first_of ((not (has_place s from) || not (has_place s to), NoPlace) ∷ [])
refusal_by_lists s (RouteTime from to minutes) = first_of ((not (has_place s from) || not (has_place s to), NoPlace) ∷ [])
refusal_by_lists s (DefaultTravel minutes) = None
refusal_by_lists s (Team name home from until skills) = first_of (
    (nat_le MOST_TEAMS (length s.teams), TooMany)
    ∷ (has_team s name, SameName)
    ∷ (not (has_place s home), NoPlace)
    ∷ (is_bad_shift from until, BadShift)
    ∷ []
    )
refusal_by_lists s (Task name place earliest latest minutes teams skills) = first_of (
    (nat_le MOST_TASKS (length s.tasks), TooMany)
    ∷ (has_task s name, SameName)
    ∷ (not (has_place s place), NoPlace)
    ∷ (is_bad_window earliest latest, BadWindow)
    ∷ (is_bad_count teams, BadTeams)
    ∷ []
    )
refusal_by_lists s (Cancel task) = first_of ((not (has_task s task), NoTask) ∷ [])
refusal_by_lists s (Move task earliest latest) = first_of ((not (has_task s task), NoTask) ∷ (is_bad_window earliest latest, BadWindow) ∷ [])
refusal_by_lists s (Longer task minutes) = first_of ((not (has_task s task), NoTask) ∷ [])
refusal_by_lists s (Needs task teams) = first_of ((not (has_task s task), NoTask) ∷ (is_bad_count teams, BadTeams) ∷ [])
refusal_by_lists s (Sick team) = first_of ((not (has_team s team), NoTeam) ∷ [])
refusal_by_lists s (Shift team from until) = first_of ((not (has_team s team), NoTeam) ∷ (is_bad_shift from until, BadShift) ∷ [])
refusal_by_lists s (Skill team skill) = first_of ((not (has_team s team), NoTeam) ∷ [])
refusal_by_lists s (Unskill team skill) = first_of ((not (has_team s team), NoTeam) ∷ [])
refusal_by_lists s (Plan nodes) = option_map (λ p. MissingTravel p.0 p.1) (first_missing s)
refusal_by_lists s (Now time) = option_map (λ p. MissingTravel p.0 p.1) (first_missing s)
refusal_by_lists s (Thaw task) = first_of ((not (has_task s task), NoTask) ∷ [])

-- the frozen task that would be gone, or, by number, the first of which the team would be
abbrev pub gone_work : DayState → Entry → Option (List ℕ)
gone_work s (Cancel task) = option_map (λ job. job.task) (find (is_job_of task) s.frozen)
gone_work s (Sick team) = option_map (λ job. job.task) (first_by_task s (filter (needs_team team) s.frozen))
gone_work s entry = None

-- the first frozen task of which the teams can't do the job
abbrev pub faulty_work : DayState → Option (List ℕ)
faulty_work s = faulty_job s s.frozen

-- the frozen task that forbids the entry, if one does: it would be gone, or else the teams couldn't do all frozen jobs any
-- more. A missing travel time counts as 0
abbrev pub work_against : DayState → Entry → Option (List ℕ)
work_against s (Plan nodes) = None
work_against s (Now time) = None
work_against s entry = option_or (gone_work s entry) (faulty_work (after_entry s entry))

-- the refusal of the entry, if it is refused: by the lists, or else for the sake of frozen work
abbrev pub refusal_of : DayState → Entry → Option Refusal
refusal_of s entry = option_or (refusal_by_lists s entry) (option_map FrozenWork (work_against s entry))

-- each of these entries is taken by the state that those before it come to
abbrev pub AreTaken : DayState → List Entry → Type 0
AreTaken s [] = Unit {0}
AreTaken s (entry ∷ entries) = (refusal_of s entry ≡ None) × AreTaken (after_entry s entry) entries
