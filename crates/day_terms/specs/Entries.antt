-- what each entry makes of a day's state
use Rattle.std.specs.Prelude.{◌^◌, ◌++◌, List, [], ◌∷◌, Some, not, bit_and, bit_or, filter, fold, nat_lt}
use Rattle.std.specs.Int.{bit_not, w64}
use Rattle.crew_terms.specs.Plan.{Plan as Jobs}
use Rattle.day_terms.specs.declared.Entry.{Entry}
use Rattle.day_terms.specs.declared.Entry.TheVariants.{Place, Travel, RouteTime, DefaultTravel, Team as NewTeam, Task as NewTask, Cancel, Move, Longer, Needs, Sick, Shift, Skill, Unskill, Plan, Now, Thaw}
use Rattle.day_terms.specs.State.{DayState, start_with, is_task, is_team, place_number, with_changed_task, with_changed_team, with_time_between}
use Rattle.day_terms.specs.Work.{after_plan, is_job_of, needs_team, with_frozen}

-- the state behind a round: its plan is the last one, if it is known
abbrev pub after_round : DayState → List Jobs → DayState
after_round s [] = s
after_round s (p ∷ ps) = record (after_plan s p) { plans = ps }

-- the state after an entry that is not refused
abbrev pub after_entry : DayState → Entry → DayState
after_entry s (Place name) = record s { places = s.places ++ name ∷ [] }
after_entry s (Travel from to minutes) = with_time_between (with_time_between s from to minutes) to from minutes
after_entry s (RouteTime from to minutes) = with_time_between s from to minutes
after_entry s (DefaultTravel minutes) = record s { default_minutes = Some minutes }
after_entry s (NewTeam name home from until skills) = record s {
  teams = s.teams ++ record { name = name; home = place_number s home; from = from; until = until; skills = skills } ∷ [];
}
after_entry s (NewTask name place earliest latest minutes teams skills) = record s {
  tasks =
      s.tasks
      ++ record {
        name = name;
        place = place_number s place;
        earliest = earliest;
        latest = latest;
        minutes = minutes;
        teams = teams;
        skills = skills;
      }
      ∷ [];
}
after_entry s (Cancel task) = record s {
  tasks = filter (λ t. not (is_task task t)) s.tasks;
  last_plan = filter (λ job. not (is_job_of task job)) s.last_plan;
}
after_entry s (Move task earliest latest) = with_changed_task s task (λ t. record t { earliest = earliest; latest = latest })
after_entry s (Longer task minutes) = with_changed_task s task (λ t. record t { minutes = minutes })
after_entry s (Needs task teams) = with_changed_task s task (λ t. record t { teams = teams })
after_entry s (Sick team) = record s {
  teams = filter (λ t. not (is_team team t)) s.teams;
  last_plan = filter (λ job. not (needs_team team job)) s.last_plan;
}
after_entry s (Shift team from until) = with_changed_team s team (λ t. record t { from = from; until = until })
after_entry s (Skill team skill) = with_changed_team s team (λ t. record t { skills = bit_or t.skills (2 ^ skill) })
after_entry s (Unskill team skill) = with_changed_team s team (λ t. record t { skills = bit_and t.skills (bit_not w64 (2 ^ skill)) })
after_entry s (Plan nodes) = after_round s s.plans
after_entry s (Now time) = record s { frozen = fold (with_frozen s) s.frozen (filter (λ job. nat_lt job.start time) s.last_plan) }
after_entry s (Thaw task) = record s { frozen = filter (λ job. not (is_job_of task job)) s.frozen }

-- the state after these entries, none of which is refused, where the rounds among them have these plans
abbrev pub state_after : List Jobs → List Entry → DayState
state_after plans entries = fold after_entry (start_with plans) entries
