-- what the fields stand for
use Rattle.std.specs.Prelude.{Option, None, Some, List, []}
use Rattle.route_terms.specs.Named.{NamedRoute}
use Rattle.replan.specs.Planning.{Planning}
use Rattle.replan.specs.declared.session.Session.TheInside.{Inside}

-- the routes that are carried, none before the first round
abbrev pub handed_in : Option (List NamedRoute) → List NamedRoute
handed_in None = []
handed_in (Some carried) = carried

abbrev pub planning_of : Inside → Planning
planning_of a = record { day = a.desk; handed = handed_in a.carry; failed = a.failed }
