-- what the fields stand for
use Rattle.std.specs.Prelude.{◌≡◌, length}
use Rattle.crew_terms.specs.Legal.{IsLegal}
use Rattle.crew_terms.specs.Rules.{IsInstance}
use Rattle.why_not.specs.Days.{Planned, AreDays}
use Rattle.why_not.specs.declared.days.Days.TheInside.{Inside}

abbrev pub kept : Inside → Planned
kept a = record { instance = a.instance.now; plan = a.plan.now }

-- the plan is legal, and the days are those of its teams
pub record IsKept (a : Inside) : Type 0 where
  pub instance : IsInstance a.instance.now
  pub legal : IsLegal a.instance.now a.plan.now
  pub teams : length a.days.items ≡ length a.instance.now.teams
  pub days : AreDays a.plan.now a.days.items
