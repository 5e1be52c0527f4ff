-- what the fields stand for
use Rattle.std.specs.Prelude.{ℕ, List, [], Option, None, Some, option_map}
use Rattle.route_terms.specs.Named.{NamedRoute}
use Rattle.day_terms.specs.State.{DayState}
use Rattle.day_terms.specs.Instances.{day_instance}
use Rattle.day_terms.specs.Rounds.{Round}
use Rattle.day_audit.specs.Audited.{Audited}
use Rattle.day_audit.specs.declared.audit.Audit.TheInside.{Inside}

-- the routes that are carried, none before the first dossier
abbrev pub handed_in : Option (List NamedRoute) → List NamedRoute
handed_in None = []
handed_in (Some carried) = carried

-- the round of the day as it stands, with this budget
abbrev pub round_of : DayState → ℕ → Round
round_of s nodes = record { instance = day_instance s; nodes = nodes }

abbrev pub audited : Inside → Audited
audited a = record { day = a.desk; due = option_map (round_of a.desk) a.due; handed = handed_in a.carry }
