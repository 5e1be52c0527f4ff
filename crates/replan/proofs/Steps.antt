-- what an entry comes to in a session
use Rattle.std.proofs.Common.{◌≡◌, ◌⊎◌, inl, inr, ◌∷◌, [], ℕ, List, Option, None, Some, Result, Ok, Err, ap, subst, sym, refl, ◌∙◌}
use Rattle.std.specs.Prelude.{option_map}
use Rattle.std.specs.Option.{option_or}
use Rattle.crew_terms.specs.Instance.{Instance}
use Rattle.crew_terms.specs.Plan.{Plan as Jobs}
use Rattle.route_terms.specs.Named.{NamedRoute}
use Rattle.day_terms.specs.declared.Entry.{Entry}
use Rattle.day_terms.specs.declared.Entry.TheVariants.{Plan}
use Rattle.day_terms.specs.State.{DayState}
use Rattle.day_terms.specs.Entries.{after_entry, after_round}
use Rattle.day_terms.specs.Refusal.{Refusal, TooMany, SameName, NoPlace, NoTask, NoTeam, BadWindow, BadShift, BadTeams, MissingTravel, FrozenWork, refusal_by_lists, refusal_of}
use Rattle.day_terms.specs.Rounds.{round_at}
use Rattle.day_terms.specs.Work.{after_plan, jobs_by_names}
use Rattle.day_terms.specs.Instances.{day_instance}
use Rattle.flight_changes.specs.Faults.{fault_of}
use Rattle.flight_changes.specs.declared.faults.ChangeFault.{ChangeFault}
use Rattle.flight_changes.specs.declared.faults.ChangeFault.TheVariants as changes
use Rattle.replan.specs.Entries.{told_is_no_want}
use Rattle.replan.specs.Planning.{Planning, IsEntered, IsRoundPut, failure_of, refusal_told}
use Rattle.replan.specs.Rounds.{handed_on}
use Rattle.replan.specs.Staying.{last_plan_of}
use Rattle.replan.proofs.Staying.{stays_in}
use Rattle.replan.specs.declared.faults.Failure.{Failure}
use Rattle.replan.specs.declared.faults.SessionFault.{SessionFault}
use Rattle.replan.specs.declared.faults.SessionFault.TheVariants.{Change, WriteFault, OutOfMemory}
use Rattle.replan.specs.declared.round.Planned.{Planned}
use Rattle.replan.specs.declared.session.Done.{Done}
use Rattle.replan.specs.declared.session.Done.TheVariants.{Changed, Round as HasRound}

-- a planning with these parts
pub planning_is : (s : Planning) (day : DayState) (handed : List NamedRoute) (failed : Option Failure) → day ≡ s.day → handed ≡ s.handed → failed ≡ s.failed
    → ◌≡◌ {A = Planning} (record { day = day; handed = handed; failed = failed }) s
planning_is s day handed failed d h f =
    ap (λ x. record { day = x; handed = handed; failed = failed }) d
    ∙ ap (λ x. record { day = s.day; handed = x; failed = failed }) h
    ∙ ap (λ x. record { day = s.day; handed = s.handed; failed = x }) f

told_as_change : (t : Refusal) → refusal_told (fault_of t) ≡ Change (fault_of t)
told_as_change TooMany = refl
told_as_change SameName = refl
told_as_change NoPlace = refl
told_as_change NoTask = refl
told_as_change NoTeam = refl
told_as_change BadWindow = refl
told_as_change BadShift = refl
told_as_change BadTeams = refl
told_as_change (MissingTravel from to) = refl
told_as_change (FrozenWork task) = refl

-- of two refusals there is none, and so no first one
none_first : {X : Type 0} (a b : Option X) → option_or a b ≡ None → a ≡ None
none_first None b e = refl
none_first (Some x) b e = absurd (cc)

-- what is answered as want of memory is not refused by the lists
unrefused : {X : Type 0} (r : Result X ChangeFault) (told : Option Refusal) → ((t : Refusal) → told ≡ Some t → r ≡ Err (fault_of t)) → r ≡ Err changes.OutOfMemory → told ≡ None
unrefused r None by_lists is = refl
unrefused r (Some t) by_lists is = absurd (told_is_no_want t (let e = sym (by_lists t refl) ∙ is in cc))

-- the session after an answer, but for the failure
abbrev pub with_day : DayState → List NamedRoute → Result Done SessionFault → Planning
with_day day handed result = record { day = day; handed = handed; failed = failure_of result }

module _ (s : Planning) (entry : Entry) (day : DayState) (got later : Option (List ℕ)) (open_yet : s.failed ≡ None) where
  -- the state refuses the entry, or memory was wanting
  pub refusal_entered : {X : Type 0} (r : Result X ChangeFault) (fault : ChangeFault) → r ≡ Err fault → ((t : Refusal) → refusal_by_lists s.day entry ≡ Some t → r ≡ Err (fault_of t))
      → (fault ≡ changes.OutOfMemory) ⊎ (option_map fault_of (refusal_of s.day entry) ≡ Some fault) → day ≡ s.day
      → IsEntered s entry (Err (refusal_told fault)) (with_day day s.handed (Err (refusal_told fault))) got got
  refusal_entered r fault is_err by_lists (inl want) same =
      subst (λ f. IsEntered s entry (Err (refusal_told f)) (with_day day s.handed (Err (refusal_told f))) got got) (sym want) (
        unrefused r (refusal_by_lists s.day entry) by_lists (is_err ∙ ap (λ f. Err f) want),
        planning_is (record s { failed = failure_of (Err OutOfMemory) }) day s.handed _ same refl refl,
        refl,
      )
  refusal_entered r fault is_err by_lists (inr is) same = by (refusal_of s.day entry) refl is
    where
      by : (told : Option Refusal) → refusal_of s.day entry ≡ told → option_map fault_of told ≡ Some fault
          → IsEntered s entry (Err (refusal_told fault)) (with_day day s.handed (Err (refusal_told fault))) got got
      by None e is = absurd (cc)
      by (Some t) e is =
          let known : fault ≡ fault_of t = (let f : fault_of t ≡ fault = cc in sym f) in
          let told : refusal_told fault ≡ Change (fault_of t) = ap refusal_told known ∙ told_as_change t in
          subst (λ f. IsEntered s entry (Err f) (with_day day s.handed (Err f)) got got) (sym told)
          ((t, e, refl), planning_is s day s.handed None same refl (sym open_yet), refl)

  -- it changes the state
  pub changed_entered : refusal_of s.day entry ≡ None → round_at s.day entry ≡ [] → day ≡ after_entry s.day entry
      → IsEntered s entry (Ok Changed) (with_day day s.handed (Ok Changed)) got got
  changed_entered none round same = (none, round, planning_is (record s { day = after_entry s.day entry }) day s.handed None same refl (sym open_yet), refl)

  -- it begins a round
  module _ (nodes : ℕ) (is : entry ≡ Plan nodes) (none : refusal_of s.day entry ≡ None) (unknown : s.day.plans ≡ []) (same : day ≡ after_entry s.day entry) where
    pub state_stays : day ≡ s.day
    state_stays = same ∙ ap (after_entry s.day) is ∙ ap (after_round s.day) unknown

    pub want_entered : IsEntered s entry (Err OutOfMemory) (with_day day s.handed (Err OutOfMemory)) got got
    want_entered = (none_first _ _ none, planning_is (record s { failed = failure_of (Err OutOfMemory) }) day s.handed _ state_stays refl refl, refl)

    at_round : (instance : Instance) → instance ≡ day_instance day → round_at s.day entry ≡ record { instance = instance; nodes = nodes } ∷ []
    at_round instance i = ap (round_at s.day) is ∙ ap (λ x. record { instance = x; nodes = nodes } ∷ []) (sym (i ∙ ap day_instance state_stays))

    -- and a dossier of it was written
    pub round_entered : (instance : Instance) (last : Jobs) (planned : Planned) (behind : DayState) → instance ≡ day_instance day → last ≡ last_plan_of day → behind ≡ record day { last_plan = planned.jobs }
        → IsRoundPut s.handed (Some last) (record { instance = instance; nodes = nodes }) (Ok planned) got later
        → IsEntered s entry (Ok (HasRound planned.counts)) (with_day behind planned.carry (Ok (HasRound planned.counts))) got later
    round_entered instance last planned behind i left has put = (
      none,
      (
        put.0,
        record {
          round = record { instance = instance; nodes = nodes };
          begins = at_round instance i;
          dossier = put.1;
          stays = stays_in s.day day instance last put.0.plan state_stays i left put.6;
        },
        put.2,
        planning_is (record s { day = after_plan s.day put.0.plan; handed = handed_on put.0 }) behind planned.carry None
            (has ∙ ap (λ (x : DayState). record x { last_plan = planned.jobs }) state_stays ∙ ap (λ jobs. record s.day { last_plan = jobs })
            (put.4 ∙ ap (λ x. jobs_by_names x put.0.plan) (put.1.instance ∙ i ∙ ap day_instance state_stays)))
            put.3 (sym open_yet),
        put.5,
      ),
    )

    -- or it was not
    pub fault_entered : (instance : Instance) (last : Jobs) (fault : SessionFault) → instance ≡ day_instance day → last ≡ last_plan_of day
        → IsRoundPut s.handed (Some last) (record { instance = instance; nodes = nodes }) (Err fault) got later
        → IsEntered s entry (Err fault) (with_day day s.handed (Err fault)) got later
    fault_entered instance last (Change fault) i left put = absurd put
    fault_entered instance last WriteFault i left put = (
      none,
      planning_is (record s { failed = failure_of (Err WriteFault) }) day s.handed _ state_stays refl refl,
      (
        put.0,
        record {
          round = record { instance = instance; nodes = nodes };
          begins = at_round instance i;
          dossier = put.1;
          stays = stays_in s.day day instance last put.0.plan state_stays i left put.3;
        },
        put.2,
      ),
    )
    fault_entered instance last OutOfMemory i left put = (none_first _ _ none, planning_is (record s { failed = failure_of (Err OutOfMemory) }) day s.handed _ state_stays refl refl, put)
