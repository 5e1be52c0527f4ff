-- what the fields stand for
use Rattle.std.specs.Prelude.{◌≡◌, length}
use Rattle.crew_terms.specs.Legal.{IsLegal}
use Rattle.crew_terms.specs.Rules.{IsInstance}
use Rattle.plan_builder.specs.Schedules.{Schedule, AreDays}
use Rattle.plan_builder.specs.declared.schedule.Schedule.TheInside.{Inside}

abbrev pub kept : Inside → Schedule
kept a = record { instance = a.instance.now; plan = a.plan }

-- the plan is legal, and the days are those of its teams
pub record IsKept (a : Inside) : Type 0 where
  pub instance : IsInstance a.instance.now
  pub legal : IsLegal a.instance.now a.plan
  pub teams : length a.days.items ≡ length a.instance.now.teams
  pub days : AreDays a.plan a.days.items
