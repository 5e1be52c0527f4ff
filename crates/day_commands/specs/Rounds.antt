-- what a day comes to, and what a command over days writes of it
use Rattle.std.specs.Prelude.{◌≡◌, ◌≤◌, ◌<◌, ◌+◌, ◌++◌, ℕ, List, [], ◌∷◌, length, take, Option, None, Some, option_map}
use Rattle.crew_terms.specs.Plan.{Plan}
use Rattle.crew_terms.specs.declared.TheConstants.{LONGEST_DAY}
use Rattle.day_terms.specs.declared.Entry.{Entry}
use Rattle.day_terms.specs.declared.Refused.{Refused}
use Rattle.day_terms.specs.Days.{IsDayOf}
use Rattle.day_terms.specs.State.{DayState, start_with}
use Rattle.day_terms.specs.Entries.{after_entry, state_after}
use Rattle.day_terms.specs.Refusal.{refusal_of}
use Rattle.day_terms.specs.Rounds.{Round, rounds_of}
use Rattle.flight_changes.specs.Faults.{fault_of}
use Rattle.day_commands.specs.Refused.{refused_line}
use Rattle.day_commands.specs.Staying.{PlansStay}
use Rattle.day_commands.specs.declared.refused.DayFault.{DayFault}
use Rattle.day_commands.specs.declared.refused.DayFault.TheVariants.{TooLong, InItself, Change}

-- ---- what a day comes to

-- why a command takes no entry in a state, if it takes it not
abbrev pub Stops : Type 0
Stops = DayState → Entry → Option DayFault

-- the state refuses the entry
abbrev pub change_stop : Stops
change_stop s entry = option_map (λ refusal. Change (fault_of refusal)) (refusal_of s entry)

-- each of the entries is taken by the state that those before it come to
abbrev pub AreTakenBy : Stops → DayState → List Entry → Type 0
AreTakenBy stops s [] = Unit {0}
AreTakenBy stops s (entry ∷ entries) = (stops s entry ≡ None) × AreTakenBy stops (after_entry s entry) entries

-- the record of a day that is refused: its number, from 1, and why
pub record DayStop : Type 0 where
  pub number : ℕ
  pub cause : DayFault

-- where its rounds have these plans, as far as they are known, a day's text comes to these rounds: those of its entries before
-- the first record that is refused, in itself or by the command in the state that the entries before it come to; and to that
-- refusal, if there is one
pub data ComesTo (stops : Stops) (plans : List Plan) (text : List ℕ) (rounds : List Round) (stop : Option DayStop) : Type 0 where
  AllTaken : (entries : List Entry) (day : IsDayOf text entries None) (taken : AreTakenBy stops (start_with plans) entries)
      (rounds_are : rounds ≡ rounds_of plans entries) (is : stop ≡ None) → ComesTo stops plans text rounds stop
  BadRecord : (entries : List Entry) (refused : Refused) (day : IsDayOf text entries (Some refused)) (taken : AreTakenBy stops (start_with plans) entries)
      (rounds_are : rounds ≡ rounds_of plans entries) (is : stop ≡ Some (record { number = refused.number; cause = InItself refused.cause })) → ComesTo stops plans text rounds stop
  BadEntry : (front back : List Entry) (entry : Entry) (later : Option Refused) (day : IsDayOf text (front ++ entry ∷ back) later)
      (taken : AreTakenBy stops (start_with plans) front) (fault : DayFault) (refused : stops (state_after plans front) entry ≡ Some fault)
      (rounds_are : rounds ≡ rounds_of plans front) (is : stop ≡ Some (record { number = length front + 1; cause = fault })) → ComesTo stops plans text rounds stop

-- the plans that some rounds may have
abbrev pub PlansOf : Type 1
PlansOf = List Plan → List Round → Type 0

-- what is taken to its end: a day of which no record is refused, whichever of these plans its rounds have
abbrev pub IsFineDay : Stops → PlansOf → List ℕ → Type 0
IsFineDay stops Plans input = (length input ≤ LONGEST_DAY)
    × ((plans : List Plan) (rounds : List Round) (stop : Option DayStop) → ComesTo stops plans input rounds stop → Plans plans rounds → stop ≡ None)

-- ---- what is written of it; `Texts` says which texts are those of some rounds with such plans, one for each round, in order. The
-- plans are such as stay

-- which texts are those of rounds with these plans
abbrev pub TextsFor : Type 1
TextsFor = List Plan → List Round → List ℕ → Type 0

-- the day is no longer than it may be, none of its records is refused, and the texts of its rounds were written
pub record SaysRounds (stops : Stops) (Texts : TextsFor) (input written : List ℕ) : Type 0 where
  pub within : length input ≤ LONGEST_DAY
  pub plans : List Plan
  pub rounds : List Round
  pub comes_to : ComesTo stops plans input rounds None
  pub stay : PlansStay input plans
  pub texts : Texts plans rounds written

-- the output of a day that is refused: its one line where it is too long, else the texts of the rounds before the
-- refused record, and its line
pub data IsRefusedOutput (stops : Stops) (Texts : TextsFor) (input output : List ℕ) : Type 0 where
  IsTooLong : (more : LONGEST_DAY < length input) (is : output ≡ refused_line 0 TooLong) → IsRefusedOutput stops Texts input output
  IsStopped : (within : length input ≤ LONGEST_DAY) (plans : List Plan) (rounds : List Round) (stop : DayStop) (comes_to : ComesTo stops plans input rounds (Some stop))
      (stay : PlansStay input plans) (text : List ℕ) (texts : Texts plans rounds text) (is : output ≡ text ++ refused_line stop.number stop.cause)
      → IsRefusedOutput stops Texts input output

-- the texts of the first rounds were written and nothing else, if any; no plan of a later round is known
pub data SaysFirstRounds (stops : Stops) (Texts : TextsFor) (input written : List ℕ) : Type 0 where
  NoRound : (none : written ≡ []) → SaysFirstRounds stops Texts input written
  Rounds : (within : length input ≤ LONGEST_DAY) (plans : List Plan) (rounds : List Round) (stop : Option DayStop) (comes_to : ComesTo stops plans input rounds stop)
      (stay : PlansStay input plans) (n : ℕ) (texts : Texts plans (take n rounds) written) → SaysFirstRounds stops Texts input written

-- a front was written: of the texts of the first rounds, so that the last of them may be cut short; or of the output of a day
-- that is refused
pub data SaysOutputPart (stops : Stops) (Texts : TextsFor) (input written : List ℕ) : Type 0 where
  OfRounds : (output : List ℕ) (says : SaysFirstRounds stops Texts input output) (n : ℕ) (front : written ≡ take n output) → SaysOutputPart stops Texts input written
  OfRefusal : (output : List ℕ) (says : IsRefusedOutput stops Texts input output) (n : ℕ) (front : written ≡ take n output) → SaysOutputPart stops Texts input written

-- nothing was written; the input is what was read, no longer than a day may be, and what was not seen
pub record SaysNothingRead (unseen : Option (List ℕ)) (input written : List ℕ) : Type 0 where
  pub none : written ≡ []
  pub read : List ℕ
  pub within : length read ≤ LONGEST_DAY
  pub rest : List ℕ
  pub left : unseen ≡ Some rest
  pub parts : input ≡ read ++ rest
