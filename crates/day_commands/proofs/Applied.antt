-- what one entry comes to
use Rattle.std.proofs.Common.{◌≡◌, ◌∷◌, [], ℕ, true, false, List, Option, None, Some, ap, subst, sym, refl, ◌∙◌, append-nil}
use Rattle.std.specs.Prelude.{IsTrue, codes, option_map}
use Rattle.std.specs.Fmt.{decimal}
use Rattle.crew_terms.specs.Words.{line_text}
use Rattle.crew_terms.specs.Instance.{Instance}
use Rattle.crew_io.specs.Io.{Appended, AppendedPart}
use Rattle.dossier_terms.specs.Lines.{instance_text}
use Rattle.day_terms.specs.declared.Entry.{Entry}
use Rattle.day_terms.specs.declared.Entry.TheVariants.{Place, Travel, RouteTime, DefaultTravel, Team, Task, Cancel, Move, Longer, Needs, Sick, Shift, Skill, Unskill, Plan, Now, Thaw}
use Rattle.day_terms.specs.State.{DayState}
use Rattle.day_terms.specs.Entries.{after_entry, after_round}
use Rattle.day_terms.specs.Refusal.{Refusal, refusal_of}
use Rattle.day_terms.specs.Rounds.{round_at}
use Rattle.day_terms.specs.Instances.{day_instance}
use Rattle.flight_changes.specs.Faults.{fault_of}
use Rattle.flight_changes.specs.declared.faults.ChangeFault.{ChangeFault}
use Rattle.flight_changes.specs.declared.faults.ChangeFault.TheVariants.{OutOfMemory, MissingTravel, FrozenWork}
use Rattle.replan.specs.Entries.{told_is_no_want}
use Rattle.day_commands.specs.Refused.{refused_line}
use Rattle.day_commands.specs.Rounds.{change_stop}
use Rattle.day_commands.specs.Instances.{rounds_text}
use Rattle.day_commands.specs.Taken.{IsStateAfter, IsTakenSo, is_whole_or_write_fault, of_desk}
use Rattle.day_commands.specs.declared.ended.DayOutput.TheVariants.{Instances}
use Rattle.day_commands.specs.declared.entries.Taken.{Taken}
use Rattle.day_commands.specs.declared.entries.Taken.TheVariants.{Whole, Refused as IsRefused, WriteFault}
use Rattle.day_commands.specs.declared.refused.DayFault.TheVariants.{Change}

pub missing_line : (number : ℕ) (fault : ChangeFault) (from to a b : List ℕ) → fault ≡ MissingTravel from to → a ≡ from → b ≡ to
    → line_text (codes "refused" ∷ decimal number ∷ codes "MissingTravel" ∷ a ∷ b ∷ []) ≡ refused_line number (Change fault)
missing_line number fault from to a b is e f =
    ap (λ x. line_text (codes "refused" ∷ decimal number ∷ codes "MissingTravel" ∷ x ∷ b ∷ [])) e
    ∙ ap (λ x. line_text (codes "refused" ∷ decimal number ∷ codes "MissingTravel" ∷ from ∷ x ∷ [])) f
    ∙ ap (λ x. refused_line number (Change x)) (sym is)

pub work_line : (number : ℕ) (fault : ChangeFault) (task a : List ℕ) → fault ≡ FrozenWork task → a ≡ task
    → line_text (codes "refused" ∷ decimal number ∷ codes "FrozenWork" ∷ a ∷ []) ≡ refused_line number (Change fault)
work_line number fault task a is e =
    ap (λ x. line_text (codes "refused" ∷ decimal number ∷ codes "FrozenWork" ∷ x ∷ [])) e
    ∙ ap (λ x. refused_line number (Change x)) (sym is)

-- ---- a state takes it or not

pub stop_of_none : (s : DayState) (entry : Entry) → refusal_of s entry ≡ None → change_stop s entry ≡ None
stop_of_none s entry none = ap (λ told. option_map (λ refusal. Change (fault_of refusal)) told) none

-- the state refuses it
pub refused_so : (s new : DayState) (entry : Entry) (fault : ChangeFault) (got : Option (List ℕ)) → (t : Refusal) × (refusal_of s entry ≡ Some t) × (fault ≡ fault_of t)
    → IsTakenSo Instances (of_desk s) entry (IsRefused (Change fault)) (of_desk new) got got
refused_so s new entry fault got r = (
  ap (λ told. option_map (λ refusal. Change (fault_of refusal)) told) r.1 ∙ ap (λ f. Some (Change f)) (sym r.2),
  (λ e. told_is_no_want r.0 (let same : fault ≡ OutOfMemory = cc in sym r.2 ∙ same)),
  refl,
)

-- where no plan to come is known
pub known_none : (s : DayState) → s.plans ≡ [] → record s { plans = [] } ≡ s
known_none s unknown = ap (λ ps. record s { plans = ps }) (sym unknown)

-- an entry that begins no round takes no plan
pub plans_kept : (s : DayState) (entry : Entry) → round_at s entry ≡ [] → (after_entry s entry).plans ≡ s.plans
plans_kept s (Place name) none = refl
plans_kept s (Travel from to minutes) none = refl
plans_kept s (RouteTime from to minutes) none = refl
plans_kept s (DefaultTravel minutes) none = refl
plans_kept s (Team name home from until skills) none = refl
plans_kept s (Task name place earliest latest minutes teams skills) none = refl
plans_kept s (Cancel task) none = refl
plans_kept s (Move task earliest latest) none = refl
plans_kept s (Longer task minutes) none = refl
plans_kept s (Needs task teams) none = refl
plans_kept s (Sick team) none = refl
plans_kept s (Shift team from until) none = refl
plans_kept s (Skill team skill) none = refl
plans_kept s (Unskill team skill) none = refl
plans_kept s (Plan nodes) none = absurd (cc)
plans_kept s (Now time) none = refl
plans_kept s (Thaw task) none = refl

-- an entry of a state that knows no plan to come
pub state_after_none : (s new : DayState) (entry : Entry) → s.plans ≡ [] → new ≡ after_entry s entry → new.plans ≡ [] → IsStateAfter s [] entry new
state_after_none s new entry unknown same none = (same ∙ ap (λ x. after_entry x entry) (sym (known_none s unknown)), none)

-- an entry that begins a round
pub plan_applied : (a : Taken) (s mid : DayState) (entry : Entry) (nodes : ℕ) (instance : Instance) (got later : Option (List ℕ)) → entry ≡ Plan nodes → refusal_of s entry ≡ None → mid ≡ after_entry s entry
    → s.plans ≡ [] → instance ≡ day_instance mid → (a ≡ Whole true → Appended got later (instance_text instance nodes)) → (a ≡ WriteFault → AppendedPart got later (instance_text instance nodes))
    → IsTrue (is_whole_or_write_fault a) → IsTakenSo Instances (of_desk s) entry a (of_desk mid) got later
plan_applied a s mid entry nodes instance got later is none same unknown i taken part others =
    let m : mid ≡ s = same ∙ ap (after_entry s) is ∙ ap (after_round s) unknown in
    let t : instance_text instance nodes ≡ rounds_text (round_at s entry) =
    ap (λ x. instance_text x nodes) (i ∙ ap day_instance m) ∙ sym (append-nil (instance_text (day_instance s) nodes)) ∙ ap (λ x. rounds_text (round_at s x)) (sym is) in
    by a taken part others t (state_after_none s mid entry unknown same (ap (λ (x : DayState). x.plans) m ∙ unknown))
  where
    by : (a : Taken) → (a ≡ Whole true → Appended got later (instance_text instance nodes)) → (a ≡ WriteFault → AppendedPart got later (instance_text instance nodes))
        → IsTrue (is_whole_or_write_fault a) → instance_text instance nodes ≡ rounds_text (round_at s entry) → IsStateAfter s [] entry mid → IsTakenSo Instances (of_desk s) entry a (of_desk mid) got later
    by (Whole true) taken part others t after = (stop_of_none s entry none, refl, ([], rounds_text (round_at s entry), after, ((refl, refl), refl), subst (λ x. Appended got later x) t (taken refl), tt))
    by (Whole false) taken part others t after = absurd (cc)
    by (IsRefused fault) taken part others t after = absurd (cc)
    by WriteFault taken part others t after = (stop_of_none s entry none, ([], rounds_text (round_at s entry), true, [], ((refl, refl), refl), subst (λ x. AppendedPart got later x) t (part refl), tt))
