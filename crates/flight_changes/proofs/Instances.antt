-- the travel times of a state within the limits
use Rattle.std.proofs.Common.{◌≤◌, List, [], ◌∷◌, length, get_or, subst}
use Rattle.std.specs.Prelude.{All, IfSome, find, option_map}
use Rattle.std.proofs.lemmas.List.Elements.{All-head, All-tail}
use Rattle.crew_terms.specs.Rules.{AreTimes}
use Rattle.crew_terms.specs.declared.TheConstants.{LAST_MINUTE}
use Rattle.crew_instance.specs.FewMinutes as minutes
use Rattle.day_terms.specs.State.{DayState, Given, is_way}
use Rattle.day_terms.specs.Instances.{day_instance}
use Rattle.flight_changes.specs.Limits.{IsState}
use Rattle.flight_changes.specs.Times.{known_times}
use Rattle.day_terms.specs.ByTest.{by_test}
use Rattle.flight_changes.proofs.ByNumber.{rows_same}
use Rattle.flight_changes.proofs.Keyed.{Bytes}

abbrev Few : Given → Type 0
Few g = g.minutes ≤ LAST_MINUTE

few_found : (gs : List Given) (from to : Bytes) → All Few gs → IfSome (option_map (λ g. g.minutes) (find (is_way from to) gs)) (λ m. m ≤ LAST_MINUTE)
few_found [] from to all = tt
few_found (g ∷ gs) from to all =
    by_test (is_way from to g) (λ t. rw t (All-head Few g gs all)) (λ t. rw t (few_found gs from to (All-tail Few g gs all)))

pub are_times : (s : DayState) → IsState s → AreTimes (length s.places) (day_instance s).travel
are_times s is =
    subst (AreTimes (length s.places)) (rows_same s is.parts.place_names)
    (minutes.are_times (known_times s) (λ a b. few_found s.times (get_or s.places a []) (get_or s.places b []) is.times) is.default_minutes)
