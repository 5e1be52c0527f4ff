-- what one entry comes to where dossiers are written
use Rattle.std.proofs.Common.{◌≡◌, ◌≢◌, ◌≤◌, ◌<◌, ◌⊎◌, inl, inr, ◌∷◌, [], ℕ, Bool, true, false, List, Option, None, Some, Ok, Err, ap, subst, sym, refl, ◌∙◌, arith, append-nil}
use Rattle.std.specs.Prelude.{option_map}
use Rattle.std.proofs.lemmas.Bool.{cases_lt}
use Rattle.std.proofs.lemmas.List.Elements.{All-nil, All-push}
use Rattle.crew_io.specs.Io.{Appended}
use Rattle.crew_io.specs.Appends.{appended_none}
use Rattle.crew_terms.specs.Plan.{Plan as Jobs, unassigned_count}
use Rattle.dossier_terms.specs.Dossier.{Dossier}
use Rattle.dossier_terms.specs.Lines.{text_of}
use Rattle.route_terms.specs.Named.{NamedRoute}
use Rattle.day_terms.specs.declared.Entry.{Entry}
use Rattle.day_terms.specs.declared.Entry.TheVariants.{Place, Travel, RouteTime, DefaultTravel, Team, Task, Cancel, Move, Longer, Needs, Sick, Shift, Skill, Unskill, Plan, Now, Thaw}
use Rattle.day_terms.specs.State.{DayState}
use Rattle.day_terms.specs.Entries.{after_entry}
use Rattle.day_terms.specs.Rounds.{Round, round_at}
use Rattle.day_terms.specs.Work.{after_plan}
use Rattle.flight_changes.specs.Faults.{fault_of}
use Rattle.flight_changes.specs.declared.faults.ChangeFault.{ChangeFault}
use Rattle.replan.specs.Rounds.{IsRoundDossier, AreRoundDossiers, handed_on}
use Rattle.replan.specs.Planning.{Planning, IsEntered, IsDossierAt}
use Rattle.replan.specs.declared.counts.Counts.{Counts}
use Rattle.replan.specs.declared.faults.SessionFault.TheVariants as faults
use Rattle.replan.specs.declared.session.Done.TheVariants.{Changed, Round as HasRound}
use Rattle.day_commands.specs.Dossiers.{IsProved}
use Rattle.day_commands.specs.Taken.{AreDossiersFrom, IsStateAfter, IsTakenSo, TellsProved}
use Rattle.day_commands.specs.declared.ended.DayOutput.TheVariants.{Dossiers}
use Rattle.day_commands.specs.declared.entries.Taken.TheVariants.{Whole, Refused as IsRefused, WriteFault}
use Rattle.day_commands.specs.declared.refused.DayFault.TheVariants.{Change}
use Rattle.replan.specs.Entries.{told_is_no_want}
use Rattle.day_commands.proofs.Applied.{plans_kept, state_after_none, stop_of_none}

-- behind an entry that begins a round the state has the round's plan as the last one
round_plans : (s : DayState) (entry : Entry) (r : Round) (p : Jobs) → round_at s entry ≡ r ∷ [] → after_entry (record s { plans = p ∷ [] }) entry ≡ record (after_plan s p) { plans = [] }
round_plans s (Place name) r p e = absurd (cc)
round_plans s (Travel from to minutes) r p e = absurd (cc)
round_plans s (RouteTime from to minutes) r p e = absurd (cc)
round_plans s (DefaultTravel minutes) r p e = absurd (cc)
round_plans s (Team name home from until skills) r p e = absurd (cc)
round_plans s (Task name place earliest latest minutes teams skills) r p e = absurd (cc)
round_plans s (Cancel task) r p e = absurd (cc)
round_plans s (Move task earliest latest) r p e = absurd (cc)
round_plans s (Longer task minutes) r p e = absurd (cc)
round_plans s (Needs task teams) r p e = absurd (cc)
round_plans s (Sick team) r p e = absurd (cc)
round_plans s (Shift team from until) r p e = absurd (cc)
round_plans s (Skill team skill) r p e = absurd (cc)
round_plans s (Unskill team skill) r p e = absurd (cc)
round_plans s (Plan nodes) r p e = refl
round_plans s (Now time) r p e = absurd (cc)
round_plans s (Thaw task) r p e = absurd (cc)

plan_state : (s new : DayState) (entry : Entry) (r : Round) (p : Jobs) → round_at s entry ≡ r ∷ [] → s.plans ≡ [] → new ≡ after_plan s p → IsStateAfter s (p ∷ []) entry new
plan_state s new entry r p begins unknown is = (
  is ∙ ap (λ ps. record (after_plan s p) { plans = ps }) unknown ∙ sym (round_plans s entry r p begins),
  ap (λ (x : DayState). x.plans) is ∙ unknown,
)

-- ---- a dossier is proved or not

at_most : (handed : List NamedRoute) (round : Round) (d : Dossier) → IsRoundDossier handed round d → d.bound ≤ unassigned_count d.plan
at_most handed round d is = is.least d.plan is.legal

tells_proved : (d : Dossier) → d.bound ≡ unassigned_count d.plan → TellsProved true (d ∷ [])
tells_proved d is = All-push IsProved [] d (All-nil IsProved) is

tells_unproved : (d : Dossier) → d.bound < unassigned_count d.plan → TellsProved false (d ∷ [])
tells_unproved d less = (0, d, omega arith, refl, less)

proved_or_not : (d : Dossier) → d.bound ≤ unassigned_count d.plan → (q : Bool) × TellsProved q (d ∷ [])
proved_or_not d most = elim (cases_lt d.bound (unassigned_count d.plan)) [
  | inl less ↦ (false, tells_unproved d less)
  | inr more ↦ (true, tells_proved d (omega (arith, most, more)))
]

one_dossier : (s : Planning) (entry : Entry) (d : Dossier) (q : Bool) → IsDossierAt s entry d → TellsProved q (d ∷ []) → AreDossiersFrom s.handed (d.plan ∷ []) (round_at s.day entry) (text_of d) q (handed_on d)
one_dossier s entry d q at tells = record {
  dossiers = d ∷ [];
  dossiers_are = subst (λ rounds. AreRoundDossiers s.handed rounds (d ∷ [])) (sym at.begins) (at.dossier, tt);
  plans_are = refl;
  texts = sym (append-nil (text_of d));
  tells = tells;
  handed_last = refl;
}

-- ---- what the answers come to

pub changed_so : (s new : Planning) (entry : Entry) (got later : Option (List ℕ)) → s.failed ≡ None → s.day.plans ≡ [] → IsEntered s entry (Ok Changed) new got later → IsTakenSo Dossiers s entry (Whole true) new got later
changed_so s new entry got later open_yet unknown e = (
  stop_of_none s.day entry e.0,
  ap (λ (x : Planning). x.failed) e.2 ∙ open_yet,
  (
    [],
    [],
    (let day = ap (λ (x : Planning). x.day) e.2 in
        state_after_none s.day new.day entry unknown day (ap (λ (x : DayState). x.plans) day ∙ plans_kept s.day entry e.1 ∙ unknown)),
    record {
      dossiers = [];
      dossiers_are = subst (λ rounds. AreRoundDossiers s.handed rounds []) (sym e.1) tt;
      plans_are = refl;
      texts = refl;
      tells = All-nil IsProved;
      handed_last = ap (λ (x : Planning). x.handed) e.2;
    },
    subst (λ x. Appended got x []) (sym e.3) (appended_none got),
    tt,
  ),
)

pub round_so : (s new : Planning) (entry : Entry) (got later : Option (List ℕ)) (counts : Counts) (q : Bool) → s.failed ≡ None → s.day.plans ≡ [] → IsEntered s entry (Ok (HasRound counts)) new got later
    → (q ≡ true → counts.bound ≡ counts.unassigned) → (q ≡ false → counts.bound ≢ counts.unassigned) → IsTakenSo Dossiers s entry (Whole q) new got later
round_so s new entry got later counts q open_yet unknown e equal apart_so =
    let at = e.1.1 in
    let d = e.1.0 in (
      stop_of_none s.day entry e.0,
      ap (λ (x : Planning). x.failed) e.1.3 ∙ open_yet,
      (
        d.plan ∷ [],
        text_of d,
        plan_state s.day new.day entry at.round d.plan at.begins unknown (ap (λ (x : Planning). x.day) e.1.3),
        subst (λ h. AreDossiersFrom s.handed (d.plan ∷ []) (round_at s.day entry) (text_of d) q h) (sym (ap (λ (x : Planning). x.handed) e.1.3)) (one_dossier s entry d q at (by q equal apart_so)),
        e.1.4,
        at.stays,
      ),
    )
  where
    bound_is : counts.bound ≡ e.1.0.bound
    bound_is = ap (λ (c : Counts). c.bound) e.1.2

    left_is : counts.unassigned ≡ unassigned_count e.1.0.plan
    left_is = ap (λ (c : Counts). c.unassigned) e.1.2

    by : (q : Bool) → (q ≡ true → counts.bound ≡ counts.unassigned) → (q ≡ false → counts.bound ≢ counts.unassigned) → TellsProved q (e.1.0 ∷ [])
    by true equal apart_so = tells_proved e.1.0 (sym bound_is ∙ equal refl ∙ left_is)
    by false equal apart_so =
        tells_unproved e.1.0 (less (cases_lt e.1.0.bound (unassigned_count e.1.0.plan)) (apart_so refl) bound_is left_is (at_most s.handed e.1.1.round e.1.0 e.1.1.dossier))
      where
        less : ((e.1.0.bound < unassigned_count e.1.0.plan) ⊎ (unassigned_count e.1.0.plan ≤ e.1.0.bound)) → (counts.bound ≡ counts.unassigned → ⊥) → counts.bound ≡ e.1.0.bound
            → counts.unassigned ≡ unassigned_count e.1.0.plan → e.1.0.bound ≤ unassigned_count e.1.0.plan → e.1.0.bound < unassigned_count e.1.0.plan
        less (inl l) apart b u most = l
        less (inr m) apart b u most = absurd (apart (omega (arith, m, b, u, most)))

pub change_so : (s new : Planning) (entry : Entry) (got later : Option (List ℕ)) (fault : ChangeFault) → IsEntered s entry (Err (faults.Change fault)) new got later → IsTakenSo Dossiers s entry (IsRefused (Change fault)) new got later
change_so s new entry got later fault e =
    let r = e.0 in (
      ap (λ told. option_map (λ refusal. Change (fault_of refusal)) told) r.1 ∙ ap (λ f. Some (Change f)) (sym r.2),
      (λ same. told_is_no_want r.0 (let f : fault ≡ _ = cc in sym r.2 ∙ f)),
      e.2,
    )

pub fault_so : (s new : Planning) (entry : Entry) (got later : Option (List ℕ)) → IsEntered s entry (Err faults.WriteFault) new got later → IsTakenSo Dossiers s entry WriteFault new got later
fault_so s new entry got later e =
    let f = e.2 in
    let d = f.0 in
    let t = proved_or_not d (at_most s.handed f.1.round d f.1.dossier) in
    (stop_of_none s.day entry e.0, (d.plan ∷ [], text_of d, t.0, handed_on d, one_dossier s entry d t.0 f.1 t.1, f.2, f.1.stays))
