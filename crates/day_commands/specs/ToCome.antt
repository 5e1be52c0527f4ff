-- plans of rounds to come
use Rattle.std.specs.Prelude.{◌≡◌, ◌++◌, ℕ, List, Option, count_by, length}
use Rattle.crew_terms.specs.Plan.{Plan}
use Rattle.day_terms.specs.declared.Entry.{Entry}
use Rattle.day_terms.specs.declared.Refused.{Refused}
use Rattle.day_terms.specs.Days.{IsDayOf}
use Rattle.day_terms.specs.Entries.{state_after}
use Rattle.day_terms.specs.Laws.{is_plan}
use Rattle.day_terms.specs.Refusal.{AreTaken, refusal_of}
use Rattle.day_terms.specs.Rounds.{round_at, rounds_of}
use Rattle.day_terms.specs.State.{DayState, start_with}

-- they decide nothing of the entries before: of their state, of their rounds, of whether they are taken; and a text has one list of
-- entries
pub record PlansToCome : Type 0 where
  pub state : (plans more : List Plan) (entries : List Entry) → length plans ≡ count_by is_plan entries → state_after (plans ++ more) entries ≡ record (state_after plans entries) { plans = more }
  pub rounds : (plans more : List Plan) (entries : List Entry) → length plans ≡ count_by is_plan entries → rounds_of (plans ++ more) entries ≡ rounds_of plans entries
  pub taken : (plans more : List Plan) (entries : List Entry) → length plans ≡ count_by is_plan entries → AreTaken (start_with plans) entries → AreTaken (start_with (plans ++ more)) entries
  pub count : (plans : List Plan) (entries : List Entry) → length (rounds_of plans entries) ≡ count_by is_plan entries
  pub refusal : (s : DayState) (plans : List Plan) (entry : Entry) → refusal_of (record s { plans = plans }) entry ≡ refusal_of s entry
  pub round : (s : DayState) (plans : List Plan) (entry : Entry) → round_at (record s { plans = plans }) entry ≡ round_at s entry
  pub reading : (text : List ℕ) (entries others : List Entry) (refused other : Option Refused) → IsDayOf text entries refused → IsDayOf text others other → entries ≡ others
