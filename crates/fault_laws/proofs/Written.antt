-- what `explain` writes of a day, next to what `apply` writes of it
use Rattle.std.proofs.Common.{◌≡◌, ◌≢◌, ◌++◌, ◌∷◌, [], ℕ, List, Option, None, Some, refl, ap, sym, ◌∙◌, subst, option_map, arith}
use Rattle.std.specs.Prelude.{codes}
use Rattle.std.specs.Fmt.{digits}
use Rattle.std.specs.List.{flat_map}
use Rattle.crew_terms.specs.Plan.{Plan}
use Rattle.day_terms.specs.Rounds.{Round}
use Rattle.day_commands.specs.Outputs.{ProvedOf, TextsOf}
use Rattle.day_commands.specs.Refused.{refused_line}
use Rattle.day_commands.specs.Rounds.{ComesTo, DayStop, IsRefusedOutput, IsStopped, SaysRounds, change_stop}
use Rattle.day_commands.specs.Rounds.IsRefusedOutput.{IsTooLong as IsRefusedWhole}
use Rattle.day_commands.specs.declared.ended.DayOutput.TheVariants.{Instances}
use Rattle.day_commands.specs.declared.refused.DayFault.TheVariants.{TooLong}
use Rattle.day_explain.specs.Says.{AreTold, HasFaults, SaysFine, SaysWrong}
use Rattle.day_explain.specs.Says.SaysWrong.{IsTooLong}
use Rattle.day_explain.specs.Text.{apply_text, explanation, long_text, refused_text, remarks_text, told_text}
use Rattle.day_explain.specs.declared.told.Told.{Told}
use Rattle.day_faults.specs.Days.{StopsFirst, first_stop, stops_of}
use Rattle.day_faults.specs.declared.faults.FaultyRecord.{FaultyRecord}
use Rattle.day_faults.specs.declared.passes.DayFaults.{DayFaults}
use Rattle.day_faults.specs.declared.stops.Stop.{Stop}
use Rattle.fault_laws.specs.Told.{EndAlike, day_stop}

-- what stands before the line of `apply`
abbrev front_of : DayFaults → List Told → List ℕ
front_of faults told = flat_map told_text told ++ remarks_text faults

explained_as : (faults : DayFaults) (told : List Told) → explanation faults told ≡ front_of faults told ++ apply_text (first_stop (stops_of faults.records.items))
unfolding explanation
explained_as faults told = refl

-- what is told of a day that is too long, before the line of `apply`
abbrev long_front : List ℕ
long_front = codes "the day is longer than 8388608 bytes" ++ 10 ∷ []

long_as : long_text ≡ long_front ++ (codes "apply would say: " ++ refused_line 0 TooLong)
unfolding digits
long_as = refl

-- some records have a first stop
some_stop : (records : List FaultyRecord) → records ≢ [] → first_stop (stops_of records) ≡ None → ⊥
some_stop [] some e = absurd (some refl)
some_stop (r ∷ rs) some e = cc

-- and none have none
no_stop : (records : List FaultyRecord) → records ≡ [] → first_stop (stops_of records) ≡ None
no_stop records e = ap (λ rs. first_stop (stops_of rs)) e

module _ (same : (text : List ℕ) (told : Option Stop) (rounds : List Round) (stop : Option DayStop) → StopsFirst text told → ComesTo change_stop [] text rounds stop → stop ≡ option_map day_stop told)
    (line : (stop : Stop) → refused_text stop.number stop.cause ≡ refused_line (day_stop stop).number (day_stop stop).cause) where
  ends_alike : (explained applied front rounds : List ℕ) (first : Option Stop) (stop : DayStop) → Some stop ≡ option_map day_stop first → explained ≡ front ++ apply_text first
      → applied ≡ rounds ++ refused_line stop.number stop.cause → EndAlike explained applied
  ends_alike explained applied front rounds None stop e told written = absurd (cc)
  ends_alike explained applied front rounds (Some first) stop e told written =
      let is : stop ≡ day_stop first = cc in
      record {
        number = stop.number;
        cause = stop.cause;
        faults = front;
        rounds = rounds;
        told = told ∙ ap (λ l. front ++ (codes "apply would say: " ++ l)) (line first ∙ ap (λ (s : DayStop). refused_line s.number s.cause) (sym is));
        written = written;
      }

  stops_there : (text : List ℕ) (faults : DayFaults) (told : List Told) (plans : List Plan) (rounds : List Round) (stop : Option DayStop) → AreTold text faults told → plans ≡ []
      → ComesTo change_stop plans text rounds stop → stop ≡ option_map day_stop (first_stop (stops_of faults.records.items))
  stops_there text faults told plans rounds stop are none comes =
      same text (first_stop (stops_of faults.records.items)) rounds stop are.first (subst (λ ps. ComesTo change_stop ps text rounds stop) none comes)

  pub wrong_alike : (input explained applied : List ℕ) → SaysWrong input explained → IsRefusedOutput change_stop (TextsOf Instances) input applied → EndAlike explained applied
  wrong_alike input explained applied (IsTooLong more text) (IsRefusedWhole longer is) = record {
    number = 0;
    cause = TooLong;
    faults = long_front;
    rounds = [];
    told = text ∙ long_as;
    written = is;
  }
  wrong_alike input explained applied (IsTooLong more text) (IsStopped within plans rounds stop comes stay lines texts is) = absurd (omega arith)
  wrong_alike input explained applied (HasFaults within faults told are some text) (IsRefusedWhole longer is) = absurd (omega arith)
  wrong_alike input explained applied (HasFaults within faults told are some text) (IsStopped fits plans rounds stop comes stay lines texts is) =
      ends_alike explained applied (front_of faults told) lines (first_stop (stops_of faults.records.items)) stop (stops_there input faults told plans rounds (Some stop) are texts.0 comes)
      (text ∙ explained_as faults told) is

  pub fine_is_not_refused : (input explained applied : List ℕ) → SaysFine input explained → IsRefusedOutput change_stop (TextsOf Instances) input applied → ⊥
  fine_is_not_refused input explained applied fine (IsRefusedWhole longer is) = let within = fine.within in omega arith
  fine_is_not_refused input explained applied fine (IsStopped within plans rounds stop comes stay lines texts is) =
      let there = stops_there input fine.faults fine.told plans rounds (Some stop) fine.are texts.0 comes in
      let none = no_stop fine.faults.records.items fine.none in
      let e : Some stop ≡ None = there ∙ ap (option_map day_stop) none in
      cc

  none_first : (first : Option Stop) → None ≡ option_map day_stop first → first ≡ None
  none_first None e = refl
  none_first (Some stop) e = absurd (cc)

  pub wrong_is_not_taken : (input explained applied : List ℕ) → SaysWrong input explained → SaysRounds change_stop (ProvedOf Instances) input applied → ⊥
  wrong_is_not_taken input explained applied (IsTooLong more text) taken = let within = taken.within in omega arith
  wrong_is_not_taken input explained applied (HasFaults within faults told are some text) taken =
      some_stop faults.records.items some
      (none_first (first_stop (stops_of faults.records.items)) (stops_there input faults told taken.plans taken.rounds None are taken.texts.0 taken.comes_to))
