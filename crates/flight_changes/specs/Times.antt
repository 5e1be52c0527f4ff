-- a state's travel times, by the numbers of its places
use Rattle.std.specs.Prelude.{[], length, slice_index_or}
use Rattle.crew_instance.specs.Times.{Times}
use Rattle.day_terms.specs.State.{DayState}
use Rattle.day_terms.specs.Instances.{minutes_given}

abbrev pub known_times : DayState → Times
known_times s = record {
  places = length s.places;
  given = λ a b. minutes_given s (slice_index_or s.places a []) (slice_index_or s.places b []);
  default_minutes = s.default_minutes;
}
