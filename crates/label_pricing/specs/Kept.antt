-- what the fields stand for
use Rattle.std.specs.Prelude.{◌≤◌, vec_capacity}
use Rattle.crew_terms.specs.declared.TheConstants.{MOST_TEAMS}
use Rattle.label_pricing.specs.Pricing.{Pricing}
use Rattle.label_pricing.specs.Work.{HasWorkRoom}
use Rattle.label_pricing.specs.declared.pricer.Pricer.TheInside.{Inside as Parts}

abbrev pub kept : Parts → Pricing
kept a = record { places = a.places; route = a.work.route.items; worths = a.worths.items }

-- there is room for so many places, and for the worths of all teams
pub record IsKept (a : Parts) : Type 0 where
  pub work : HasWorkRoom a.places a.work
  pub worths : MOST_TEAMS ≤ vec_capacity a.worths
