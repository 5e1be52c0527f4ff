-- the limits of a state
use Rattle.std.specs.Prelude.{◌≡◌, ◌≤◌, true, List, [], IfSome, All}
use Rattle.crew_terms.specs.Legal.{IsFeasible}
use Rattle.crew_terms.specs.Rules.{AreParts}
use Rattle.crew_terms.specs.declared.TheConstants.{LAST_MINUTE}
use Rattle.day_terms.specs.State.{DayState, NamedJob, has_team}
use Rattle.day_terms.specs.Instances.{day_instance, plan_of_jobs}
use Rattle.day_terms.specs.declared.Entry.{Entry}
use Rattle.day_terms.specs.declared.Entry.TheVariants.{Plan, Now, Thaw}

-- all of the lists is within the limits, and the names of each kind differ
pub record IsState (s : DayState) : Type 0 where
  pub parts : AreParts s.places s.teams s.tasks
  pub times : All (λ g. g.minutes ≤ LAST_MINUTE) s.times
  pub default_minutes : IfSome s.default_minutes (λ m. m ≤ LAST_MINUTE)

-- each team of the job is there
abbrev pub AreTeamsKnown : DayState → NamedJob → Type 0
AreTeamsKnown s job = All (λ name. has_team s name ≡ true) job.teams

-- each team of the jobs is there, and the teams can do them all
pub record AreDoable (s : DayState) (jobs : List NamedJob) : Type 0 where
  pub known : All (AreTeamsKnown s) jobs
  pub feasible : IsFeasible (day_instance (record s { frozen = [] })) (plan_of_jobs s jobs)

-- the teams of all jobs are there, and they can do all frozen ones
pub record IsWork (s : DayState) : Type 0 where
  pub last_plan : All (AreTeamsKnown s) s.last_plan
  pub frozen : AreDoable s s.frozen

-- the entry changes the lists
abbrev pub IsListEntry : Entry → Type 0
IsListEntry (Plan nodes) = ⊥
IsListEntry (Now time) = ⊥
IsListEntry (Thaw task) = ⊥
IsListEntry entry = Unit {0}
