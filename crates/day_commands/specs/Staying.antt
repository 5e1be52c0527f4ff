-- plans of a day's rounds that stay, unless they do more tasks
use Rattle.std.specs.Prelude.{◌≡◌, ℕ, List, Option, Some, IfSome, slice_get, take}
use Rattle.crew_terms.specs.Plan.{Plan as Jobs}
use Rattle.day_terms.specs.declared.Entry.{Entry}
use Rattle.day_terms.specs.declared.Entry.TheVariants.{Plan}
use Rattle.day_terms.specs.declared.Refused.{Refused}
use Rattle.day_terms.specs.Days.{IsDayOf}
use Rattle.day_terms.specs.Entries.{state_after}
use Rattle.day_terms.specs.State.{DayState}
use Rattle.replan.specs.Staying.{StaysIn}

-- the first of these plans, if one is known, stays in the state
abbrev pub FirstStays : DayState → List Jobs → Type 0
FirstStays s plans = IfSome (slice_get plans 0) (StaysIn s)

-- so it is of the plan of the round that begins in the state
abbrev pub RoundStays : DayState → Type 0
RoundStays s = FirstStays s s.plans

-- at each entry of a plan the plan of its round, if it is known, stays in the state that the entries before it come to: where what
-- is left of the last plan is legal for the round's instance, the round's plan leaves no more tasks unassigned than that does, and
-- where it leaves as many it has each of those jobs
abbrev pub EachStays : List Jobs → List Entry → Type 0
EachStays plans entries = (n nodes : ℕ) → slice_get entries n ≡ Some (Plan nodes) → RoundStays (state_after plans (take n entries))

-- so it is of the entries of the day's text
abbrev pub PlansStay : List ℕ → List Jobs → Type 0
PlansStay text plans = (entries : List Entry) (refused : Option Refused) → IsDayOf text entries refused → EachStays plans entries
