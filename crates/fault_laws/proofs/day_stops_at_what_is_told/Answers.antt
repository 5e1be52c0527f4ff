use Rattle.fault_laws.proofs.Stops.{first_or_work, none_told}
use Rattle.std.proofs.Common.{None}
use Rattle.fault_laws.proofs.day_stops_at_what_is_told.Goals as goal

pub returns : goal.returns
returns c =
    let law = first_or_work c.state_takes_entries.ensures (λ records entries says. ((c.entries_are_said_by_place.ensures records entries).0 says).0) c.one_reading.ensures.of_day
    c.free_days_forbid_nothing.ensures c.apply_stops_at_what_is_told.ensures in
    record { first = law; none = λ text told plans rounds first comes. none_told told (law text told plans rounds None first comes) }
