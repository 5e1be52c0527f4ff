use Rattle.fault_laws.proofs.Stops.{same_stop}
use Rattle.day_commands.specs.Rounds.{change_stop}
use Rattle.fault_laws.proofs.apply_stops_at_what_is_told.Goals as goal

pub returns : goal.returns
returns c = same_stop c.state_takes_entries.ensures (c.one_coming.ensures change_stop)
