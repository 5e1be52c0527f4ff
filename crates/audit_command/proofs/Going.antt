-- the records of a day and the dossiers of its rounds, one after another
use Rattle.std.proofs.Common.{◌≡◌, ◌≢◌, ◌≤◌, ◌<◌, ◌+◌, ◌++◌, ◌∷◌, [], ℕ, zero, suc, List, Option, None, Some, Result, Ok, length, slice_get, get_or, take, drop, ap, subst, sym, refl, ◌∙◌, arith, length-append, append_assoc, append-nil, count_by, ◌⊎◌, inl, inr}
use Rattle.std.proofs.lemmas.List.{length-map, length-take, take_more, take-append-drop}
use Rattle.std.proofs.lemmas.List.Elements.{All-nil}
use Rattle.std.specs.Prelude.{IfSome, option_map}
use Rattle.crew_terms.specs.Words.{IsLine}
use Rattle.crew_terms.specs.Plan.{Plan as Jobs}
use Rattle.crew_terms.specs.declared.TheConstants.{LONGEST_INPUT}
use Rattle.crew_io.specs.Draws.{TellsReads, reads_none, reads_then}
use Rattle.crew_io.specs.Io.{HasEnded}
use Rattle.crew_io.specs.Lines.{Advances, Answers as Finds, AnswersTold, Reader, allowance, rest_of, with_left}
use Rattle.crew_io.specs.declared.lines.Progress.{Progress}
use Rattle.crew_io.specs.declared.lines.Progress.TheVariants as progress
use Rattle.crew_io.specs.declared.source.Source.{Ghosts as SourceTells}
use Rattle.dossier_terms.specs.Dossier.{Dossier, IsGood}
use Rattle.dossier_terms.specs.declared.Reason.{Reason}
use Rattle.dossier_terms.specs.declared.Reason.TheVariants as reasons
use Rattle.day_terms.specs.Days.{IsDayOf}
use Rattle.day_terms.specs.Entries.{after_entry, after_round, state_after}
use Rattle.day_terms.specs.Laws.{is_plan}
use Rattle.day_terms.specs.Refusal.{AreTaken, Refusal, refusal_of}
use Rattle.flight_changes.specs.Faults.{fault_of}
use Rattle.flight_changes.specs.declared.faults.ChangeFault.{ChangeFault}
use Rattle.flight_changes.specs.declared.faults.ChangeFault.TheVariants.{OutOfMemory}
use Rattle.day_terms.specs.Rounds.{Round, round_at, rounds_of}
use Rattle.day_terms.specs.State.{DayState, start_with}
use Rattle.day_terms.specs.Work.{after_plan}
use Rattle.day_terms.specs.declared.Entry.{Entry}
use Rattle.day_terms.specs.declared.Entry.TheVariants.{Place, Travel, RouteTime, DefaultTravel, Team, Task, Cancel, Move, Longer, Needs, Sick, Shift, Skill, Unskill, Plan, Now, Thaw}
use Rattle.day_terms.specs.declared.Refused.{Refused as BadRecord}
use Rattle.cert_checker.specs.Checked.{Checked, IsEnded, IsWholeAt, fresh_checker, opened_at}
use Rattle.cert_checker.specs.declared.checker.Verdict.{Verdict}
use Rattle.dossier_commands.specs.Input.{CanGoOn, Fresh, Front, IsAcceptedBehind, IsBetween, IsInterrupted, IsNextDossier, IsRefusal, lines_before, text_before}
use Rattle.day_commands.specs.Rounds.{BadEntry, BadRecord as IsBadRecord, DayStop, change_stop}
use Rattle.day_commands.specs.declared.refused.DayFault.TheVariants.{Change, InItself}
use Rattle.day_audit.specs.Audited.{Audited, IsNext, behind_dossier, behind_entry, no_entry_yet}
use Rattle.day_audit.specs.declared.audit.Next.TheVariants.{Due}
use Rattle.day_audit.specs.Belongs.{BelongToRounds, BelongsToRound, IsFit, plans_of}
use Rattle.day_audit.specs.declared.audit.Fit.{Fit}
use Rattle.day_audit.specs.declared.audit.Fit.TheVariants as fits
use Rattle.audit_command.specs.Days.{front_of_day}
use Rattle.audit_command.specs.Events.{AreStopped, AtRound, BadLine, BelongToText, Belongs, Differs, HasAudited, IsMore, IsNextRound, IsRefused, IsRoundEvent, NoMore, handed_behind, misfit}
use Rattle.audit_command.specs.Reads.{EndsSo, FoundHasLine, IsAmid, IsBehindDay, IsBehindLine, IsChange, IsDossierRead, IsFound, IsFoundAtRound, IsRound, IsStopped, IsUnread, NoneLeft, ReadsDossier, ReadsEntry, ReadsRound, SomeLeft, Unknown, found_at_end, with_entry}
use Rattle.audit_command.specs.declared.event.Event.TheVariants.{BadDossier, Belong, More, Refused}
use Rattle.audit_command.specs.declared.rounds.Dossiers.{Dossiers}
use Rattle.audit_command.specs.declared.rounds.Found.{Found}
use Rattle.audit_command.specs.declared.rounds.Found.TheVariants as finds
use Rattle.audit_command.proofs.DayLaws.{DayLaws, belong_more, handed_more, plans_known, plans_more, taken_more}

-- ---- faults

-- the same fault by another name
pub same_fault : {S : Type 0} (source : SourceTells S) (old new : S) {A B : Type 0} → TellsReads source old new A → (B → A) → (A → B) → TellsReads source old new B
same_fault source old new t to from = reads_then source old old new (λ fault. fault) (reads_none source old) t to from

-- what a source has not given
unseen_of : (held : List ℕ) (left : Option (List ℕ)) (rest : List ℕ) → with_left held left ≡ Some rest → (unseen : List ℕ) × (left ≡ Some unseen) × (rest ≡ held ++ unseen)
unseen_of held None rest e = absurd (cc)
unseen_of held (Some unseen) rest e = (unseen, refl, (let f : held ++ unseen ≡ rest = cc in sym f))

-- where a read fails, the input is what was read and what was not seen
pub unread : (before input rest : List ℕ) (reader : Reader) (left : Option (List ℕ)) → input ≡ before ++ rest → rest_of reader left ≡ Some rest → IsUnread left input
unread before input rest reader left text e =
    let u = unseen_of reader.held left rest e in
    record { read = before ++ reader.held; rest = u.0; left = u.1; parts = text ∙ ap (λ x. before ++ x) u.2 ∙ sym (append_assoc before reader.held u.0) }

-- ---- the dossier of a round

-- what the parts of a reading are together
abbrev pub dossiers_at : Reader → Checked → Audited → ℕ → Dossiers
dossiers_at reader checker audit rounds = record { reader = reader; checker = checker; audit = audit; rounds = rounds }

-- a whole dossier was compared with the round
pub compared : (old : Dossiers) (left later : Option (List ℕ)) (reader : Reader) (checker : Checked) (audit : Audited) (rounds : ℕ) (verdict : Verdict) (fit : Fit) (found : Option Found)
    → found ≡ option_map (λ event. finds.Event event) (misfit (old.rounds + 1) fit) → rounds ≡ old.rounds + 1 → CanGoOn reader checker
    → ((round : Round) (d : Dossier) → old.audit.due ≡ Some round → IsWholeAt checker.at d → IsGood d → IsFit old.audit.handed round d fit)
    → ((d : Dossier) → IsWholeAt checker.at d → IsGood d → fit ≡ fits.Fits → audit ≡ behind_dossier old.audit d)
    → ((front : Front) (input : List ℕ) (done : List Dossier) → IsBetween front input done old.reader left old.checker → IsNextDossier front input done verdict reader later checker)
    → ReadsRound old left found (dossiers_at reader checker audit rounds) later
compared old left later reader checker audit rounds verdict fits.Fits found is count going told follows next =
    subst (λ f. ReadsRound old left f (dossiers_at reader checker audit rounds) later) (sym is) (record {
      rounds = count;
      going = going;
      reads = λ front input done b.
          let n = next front input done b in
          record {
            dossier = n.dossier;
            belongs = λ round due. told round n.dossier due n.whole n.true_yes.good;
            audit = follows n.dossier n.whole n.true_yes.good refl;
            between = n.between;
          };
    })
compared old left later reader checker audit rounds verdict fits.Instance found is count going told follows next =
    subst (λ f. ReadsRound old left f (dossiers_at reader checker audit rounds) later) (sym is) (λ round front input done due b.
    let n = next front input done b in
    Differs n.dossier n.between.rest n.between.read fits.Instance (told round n.dossier due n.whole n.true_yes.good) refl)
compared old left later reader checker audit rounds verdict fits.Nodes found is count going told follows next =
    subst (λ f. ReadsRound old left f (dossiers_at reader checker audit rounds) later) (sym is) (λ round front input done due b.
    let n = next front input done b in
    Differs n.dossier n.between.rest n.between.read fits.Nodes (told round n.dossier due n.whole n.true_yes.good) refl)
compared old left later reader checker audit rounds verdict fits.Kept found is count going told follows next =
    subst (λ f. ReadsRound old left f (dossiers_at reader checker audit rounds) later) (sym is) (λ round front input done due b.
    let n = next front input done b in
    Differs n.dossier n.between.rest n.between.read fits.Kept (told round n.dossier due n.whole n.true_yes.good) refl)

pub misfit_amid : (number : ℕ) (fit : Fit) (found : Option Found) → found ≡ option_map (λ event. finds.Event event) (misfit number fit) → IfSome found IsAmid
misfit_amid number fits.Fits found is = subst (λ f. IfSome f IsAmid) (sym is) tt
misfit_amid number fits.Instance found is = subst (λ f. IfSome f IsAmid) (sym is) (record { line = λ n e. cc; amid = λ n e. cc })
misfit_amid number fits.Nodes found is = subst (λ f. IfSome f IsAmid) (sym is) (record { line = λ n e. cc; amid = λ n e. cc })
misfit_amid number fits.Kept found is = subst (λ f. IfSome f IsAmid) (sym is) (record { line = λ n e. cc; amid = λ n e. cc })

-- a misfit is no read fault
pub misfit_no_fault : (number : ℕ) (fit : Fit) (found : Option Found) → found ≡ option_map (λ event. finds.Event event) (misfit number fit) → found ≡ Some finds.ReadFault → ⊥
misfit_no_fault number fits.Fits found is e = cc
misfit_no_fault number fits.Instance found is e = cc
misfit_no_fault number fits.Nodes found is e = cc
misfit_no_fault number fits.Kept found is e = cc

pub bad_line : (old new : Dossiers) (left later : Option (List ℕ)) (found : Found) (line : ℕ) (reason : Reason) → found ≡ finds.Event (BadDossier (old.rounds + 1) line reason)
    → ((front : Front) (input : List ℕ) (done : List Dossier) → IsBetween front input done old.reader left old.checker → IsRefusal front input done line reason)
    → ReadsRound old left (Some found) new later
bad_line old new left later found line reason is refusal = λ round front input done due b.
    subst (IsFoundAtRound old round front input done later) (sym is) (BadLine line reason (refusal front input done b) refl)

pub no_more : (old new : Dossiers) (left later : Option (List ℕ)) (found : Found) (line : ℕ) → found ≡ finds.Event (BadDossier (old.rounds + 1) line reasons.End) → line ≡ old.checker.lines + 1
    → ((front : Front) (input : List ℕ) (done : List Dossier) → IsBetween front input done old.reader left old.checker → IsAcceptedBehind front input done)
    → ReadsRound old left (Some found) new later
no_more old new left later found line is number accepted = λ round front input done due b.
    let e : line ≡ suc (lines_before front done []) = (let n = b.number in omega (arith, n, number)) in
    subst (IsFoundAtRound old round front input done later) (sym is) (NoMore (accepted front input done b) (ap (λ n. BadDossier (old.rounds + 1) n reasons.End) e))

pub bad_amid : (found : Found) (number line : ℕ) (reason : Reason) → found ≡ finds.Event (BadDossier number line reason) → IsAmid found
bad_amid found number line reason is = record { line = subst FoundHasLine (sym is) (λ n e. cc); amid = λ n e. (let f = sym is ∙ e in cc) }

pub failed : (old new : Dossiers) (left later : Option (List ℕ))
    → ((front : Front) (input : List ℕ) (done : List Dossier) → IsBetween front input done old.reader left old.checker → IsInterrupted front input done new.reader later)
    → ReadsRound old left (Some finds.ReadFault) new later
failed old new left later interrupted = λ round front input done due b.
    let i = interrupted front input done b in
    unread (text_before front done i.lines) input i.rest new.reader later i.read.text i.is

-- ---- a record

-- an entry that begins a round, and the reading of its dossier
pub enters : (old new : Dossiers) (audit : Audited) (left later : Option (List ℕ)) (number : ℕ) (entry : Entry) (found : Option Found) → refusal_of old.audit.day entry ≡ None → IsNext old.audit.day entry Due
    → audit ≡ behind_entry old.audit entry → ReadsRound (record old { audit = audit }) left found new later → ReadsEntry old left number entry found new later
enters old new audit left later number entry found taken next is read = IsRound next.0 taken next.1 (subst (λ a. ReadsRound (record old { audit = a }) left found new later) is read)

-- what an audit tells of an entry that it does not take is why the day stops there
pub change_stopped : (s : DayState) (entry : Entry) (fault : ChangeFault) → fault ≢ OutOfMemory → (fault ≡ OutOfMemory) ⊎ (option_map fault_of (refusal_of s entry) ≡ Some fault)
    → change_stop s entry ≡ Some (Change fault)
change_stopped s entry fault other (inl e) = absurd (other e)
change_stopped s entry fault other (inr e) = by (refusal_of s entry) e
  where
    by : (o : Option Refusal) → option_map fault_of o ≡ Some fault → option_map (λ refusal. Change (fault_of refusal)) o ≡ Some (Change fault)
    by None e = absurd (cc)
    by (Some refusal) e = let f : fault_of refusal ≡ fault = cc in ap (λ x. Some (Change x)) f

pub refused_amid : (found : Found) (number : ℕ) (fault : ChangeFault) → found ≡ finds.Event (Refused number (Change fault)) → fault ≢ OutOfMemory → IsAmid found
refused_amid found number fault is other = record { line = subst FoundHasLine (sym is) (λ n e. other (cc)); amid = λ n e. (let f = sym is ∙ e in cc) }

-- a refusal is no read fault
pub found_no_fault : {E : Type 0} (found : Found) (number : ℕ) (fault : ChangeFault) → found ≡ finds.Event (Refused number (Change fault)) → ◌≡◌ {A = Result (Option Found) E} (Ok (Some found)) (Ok (Some finds.ReadFault)) → ⊥
found_no_fault found number fault is e = let f : found ≡ finds.ReadFault = cc in let h = sym is ∙ f in cc

-- ---- the records of a day

-- along the input: these dossiers were read, and belong to the rounds of the entries
pub record IsAlong (front : Front) (input : List ℕ) (before : List Entry) (now : Dossiers) (left : Option (List ℕ)) : Type 0 where
  pub done : List Dossier
  pub count : now.rounds ≡ length done
  pub day : now.audit.day ≡ state_after (plans_of done) before
  pub handed : now.audit.handed ≡ handed_behind [] done
  pub taken : AreTaken (start_with (plans_of done)) before
  pub belong : BelongToRounds [] (rounds_of (plans_of done) before) done
  pub between : IsBetween front input done now.reader left now.checker

-- so far these entries were taken, and nothing was found
pub record IsSoFar (first : Dossiers) (left0 : Option (List ℕ)) (before : List Entry) (now : Dossiers) (left : Option (List ℕ)) : Type 0 where
  pub going : CanGoOn now.reader now.checker
  pub few : now.rounds ≤ length before
  pub along : (front : Front) (input : List ℕ) → IsBetween front input [] first.reader left0 first.checker → IsAlong front input before now left

pub starts : (first : Dossiers) (left0 : Option (List ℕ)) → first.audit ≡ no_entry_yet → first.rounds ≡ 0 → CanGoOn first.reader first.checker → IsSoFar first left0 [] first left0
starts first left0 audit rounds going = record {
  going = going;
  few = omega (arith, rounds);
  along = λ front input b. record {
    done = [];
    count = rounds;
    day = ap (λ (a : Audited). a.day) audit;
    handed = ap (λ (a : Audited). a.handed) audit;
    taken = tt;
    belong = tt;
    between = b;
  };
}

-- behind an entry that begins a round, the round's plan is the last one
plan_behind : (s : DayState) (entry : Entry) (round : Round) (p : Jobs) → round_at s entry ≡ round ∷ [] → s.plans ≡ [] → after_plan (after_entry s entry) p ≡ after_entry (record s { plans = p ∷ [] }) entry
plan_behind s (Place name) r p e none = absurd (cc)
plan_behind s (Travel from to minutes) r p e none = absurd (cc)
plan_behind s (RouteTime from to minutes) r p e none = absurd (cc)
plan_behind s (DefaultTravel minutes) r p e none = absurd (cc)
plan_behind s (Team name home from until skills) r p e none = absurd (cc)
plan_behind s (Task name place earliest latest minutes teams skills) r p e none = absurd (cc)
plan_behind s (Cancel task) r p e none = absurd (cc)
plan_behind s (Move task earliest latest) r p e none = absurd (cc)
plan_behind s (Longer task minutes) r p e none = absurd (cc)
plan_behind s (Needs task teams) r p e none = absurd (cc)
plan_behind s (Sick team) r p e none = absurd (cc)
plan_behind s (Shift team from until) r p e none = absurd (cc)
plan_behind s (Skill team skill) r p e none = absurd (cc)
plan_behind s (Unskill team skill) r p e none = absurd (cc)
plan_behind s (Now time) r p e none = absurd (cc)
plan_behind s (Thaw task) r p e none = absurd (cc)
plan_behind s (Plan nodes) r p e none =
    ap (λ (ps : List Jobs). after_plan (after_round s ps) p) none
    ∙ ap (λ (ps : List Jobs). record (after_plan s p) { plans = ps }) none

module _ (laws : DayLaws) where
  known : (before : List Entry) (done : List Dossier) → BelongToRounds [] (rounds_of (plans_of done) before) done → length (plans_of done) ≡ count_by is_plan before
  known before done b = length-map done (λ (d : Dossier). d.plan) ∙ sym (plans_known laws (plans_of done) before done b)

  -- the plans of all rounds so far are used up
  used_up : (before : List Entry) (done : List Dossier) → BelongToRounds [] (rounds_of (plans_of done) before) done → (state_after (plans_of done) before).plans ≡ []
  used_up before done b =
      ap (λ ps. (state_after ps before).plans) (sym (append-nil (plans_of done)))
      ∙ ap (λ (s : DayState). s.plans) (laws.state (plans_of done) [] before (known before done b))

  -- one more entry, which changes the state
  along_change : (front : Front) (input : List ℕ) (before : List Entry) (old new : Dossiers) (left later : Option (List ℕ)) (entry : Entry) → refusal_of old.audit.day entry ≡ None
      → round_at old.audit.day entry ≡ [] → new ≡ with_entry old entry → later ≡ left → IsAlong front input before old left → IsAlong front input (before ++ entry ∷ []) new later
  along_change front input before old new left later entry taken none same unseen a =
      let plans = plans_of a.done in
      let s = state_after plans before in
      record {
        done = a.done;
        count = ap (λ (x : Dossiers). x.rounds) same ∙ a.count;
        day = ap (λ (x : Dossiers). x.audit.day) same ∙ ap (λ z. after_entry z entry) a.day ∙ sym (laws.next_state plans before entry);
        handed = ap (λ (x : Dossiers). x.audit.handed) same ∙ a.handed;
        taken = taken_more plans before entry a.taken (ap (λ z. refusal_of z entry) (sym a.day) ∙ taken);
        belong = subst (λ rs. BelongToRounds [] rs a.done)
            (sym (laws.one_more plans before entry ∙ ap (λ rs. rounds_of plans before ++ rs) (ap (λ z. round_at z entry) (sym a.day) ∙ none) ∙ append-nil (rounds_of plans before))) a.belong;
        between = subst (λ x. IsBetween front input a.done new.reader x new.checker) (sym unseen)
            (subst (λ (x : Dossiers). IsBetween front input a.done x.reader left x.checker) (sym same) a.between);
      }

  -- one more entry, which begins a round, and its dossier
  along_round : (front : Front) (input : List ℕ) (before : List Entry) (old new : Dossiers) (left later : Option (List ℕ)) (entry : Entry) (round : Round) → refusal_of old.audit.day entry ≡ None
      → round_at old.audit.day entry ≡ round ∷ [] → ReadsDossier (with_entry old entry) left new later → IsAlong front input before old left → IsAlong front input (before ++ entry ∷ []) new later
  along_round front input before old new left later entry round taken begins reads a = record {
    done = all;
    count = reads.rounds ∙ (let c = a.count in let n = length-append a.done (r.dossier ∷ []) in omega (arith, c, n));
    day = ap (λ (x : Audited). x.day) r.audit ∙ ap (λ z. after_plan (after_entry z entry) r.dossier.plan) a.day
        ∙ plan_behind s entry round r.dossier.plan here (used_up before a.done a.belong) ∙ ap (λ z. after_entry z entry) (sym state) ∙ sym (laws.next_state (plans_of all) before entry);
    handed = ap (λ (x : Audited). x.handed) r.audit ∙ sym (handed_more [] a.done r.dossier);
    taken = taken_more (plans_of all) before entry (subst (λ ps. AreTaken (start_with ps) before) (sym plans) (laws.taken (plans_of a.done) last before count a.taken))
        (ap (λ z. refusal_of z entry) state ∙ laws.refusal s last entry ∙ ap (λ z. refusal_of z entry) (sym a.day) ∙ taken);
    belong = subst (λ rs. BelongToRounds [] rs all) (sym rounds) (belong_more [] (rounds_of (plans_of a.done) before) round a.done r.dossier a.belong
        (subst (λ h. BelongsToRound h round r.dossier) a.handed (r.belongs round (ap (λ rs. slice_get rs 0) begins))));
    between = r.between;
  }
    where
      r : IsDossierRead (with_entry old entry) front input a.done new later
      r = reads.reads front input a.done a.between

      all : List Dossier
      all = a.done ++ r.dossier ∷ []

      last : List Jobs
      last = r.dossier.plan ∷ []

      plans : plans_of all ≡ plans_of a.done ++ last
      plans = plans_more a.done (r.dossier ∷ [])

      s : DayState
      s = state_after (plans_of a.done) before

      count : length (plans_of a.done) ≡ count_by is_plan before
      count = known before a.done a.belong

      state : state_after (plans_of all) before ≡ record s { plans = last }
      state = ap (λ ps. state_after ps before) plans ∙ laws.state (plans_of a.done) last before count

      here : round_at s entry ≡ round ∷ []
      here = ap (λ z. round_at z entry) (sym a.day) ∙ begins

      rounds : rounds_of (plans_of all) (before ++ entry ∷ []) ≡ rounds_of (plans_of a.done) before ++ round ∷ []
      rounds = laws.one_more (plans_of all) before entry
          ∙ ap (λ rs. rs ++ round_at (state_after (plans_of all) before) entry) (ap (λ ps. rounds_of ps before) plans ∙ laws.rounds (plans_of a.done) last before count)
          ∙ ap (λ rs. rounds_of (plans_of a.done) before ++ rs) (ap (λ z. round_at z entry) state ∙ laws.round s last entry ∙ here)

  -- nothing was found at one more entry
  pub goes_on : (first old new : Dossiers) (left0 left later : Option (List ℕ)) (before : List Entry) (number : ℕ) (entry : Entry) → IsSoFar first left0 before old left
      → ReadsEntry old left number entry None new later → IsSoFar first left0 (before ++ entry ∷ []) new later
  goes_on first old new left0 left later before number entry s (IsChange taken none is same unseen) = record {
    going = subst (λ (x : Dossiers). CanGoOn x.reader x.checker) (sym same) s.going;
    few = (let e = ap (λ (x : Dossiers). x.rounds) same in let f = s.few in let n = length-append before (entry ∷ []) in omega (arith, e, f, n));
    along = λ front input b. along_change front input before old new left later entry taken none same unseen (s.along front input b);
  }
  goes_on first old new left0 left later before number entry s (IsStopped fault refused is) = absurd (cc)
  goes_on first old new left0 left later before number entry s (IsRound round taken begins read) = record {
    going = read.going;
    few = (let e = read.rounds in let f = s.few in let n = length-append before (entry ∷ []) in omega (arith, e, f, n));
    along = λ front input b. along_round front input before old new left later entry round taken begins read (s.along front input b);
  }

  -- the dossiers so far are audited
  audited_at : (input text : List ℕ) (before : List Entry) (first now : Dossiers) (left0 left : Option (List ℕ)) (l : IsBehindLine input text first.reader left0 first.checker)
      (a : IsAlong (front_of_day text) input before now left) → HasAudited input text a.done a.between.rest
  audited_at input text before first now left0 left l a = record { behind = l.behind; day = l.day; within = l.within; read = a.between.read }

  -- something was found at one more entry
  pub found_at : (first old new : Dossiers) (left0 left later : Option (List ℕ)) (before after : List Entry) (last : Option BadRecord) (entry : Entry) (found : Found)
      → IsSoFar first left0 before old left → ReadsEntry old left (length before + 1) entry (Some found) new later
      → (input text : List ℕ) → IsDayOf text (before ++ entry ∷ after) last → IsBehindLine input text first.reader left0 first.checker → IsFound input later found
  found_at first old new left0 left later before after last entry found s (IsChange taken none is same unseen) input text day l = absurd (cc)
  found_at first old new left0 left later before after last entry found s (IsStopped fault refused is) input text day l =
      let a = s.along (front_of_day text) input l.between in
      let plans = plans_of a.done in
      let e : found ≡ finds.Event (Refused (length before + 1) fault) = cc in
      let stopped : AreStopped text a.done (record { number = length before + 1; cause = fault }) = record {
        rounds = rounds_of plans before;
        comes_to = BadEntry before after entry last day ((laws.takes plans before).1 a.taken) fault (ap (λ z. change_stop z entry) (sym a.day) ∙ refused) refl refl;
        belong = a.belong;
      } in
      subst (IsFound input later) (sym e) (IsRefused text a.done a.between.rest (audited_at input text before first old left0 left l a) (record { number = length before + 1; cause = fault }) stopped refl)
  found_at first old new left0 left later before after last entry found s (IsRound round taken begins read) input text day l =
      by found (read round (front_of_day text) input a.done (ap (λ rs. slice_get rs 0) begins) a.between)
    where
      a : IsAlong (front_of_day text) input before old left
      a = s.along (front_of_day text) input l.between

      next : IsNextRound text a.done round
      next = record {
        before = before;
        entry = entry;
        after = after;
        stop = last;
        day = day;
        taken = a.taken;
        belong = a.belong;
        accepted = ap (λ z. refusal_of z entry) (sym a.day) ∙ taken;
        begins = ap (λ z. round_at z entry) (sym a.day) ∙ begins;
      }

      by : (found : Found) → IsFoundAtRound (with_entry old entry) round (front_of_day text) input a.done later found → IsFound input later found
      by (finds.Event event) at =
          AtRound text a.done a.between.rest (audited_at input text before first old left0 left l a) round next
          (subst (λ n. IsRoundEvent (handed_behind [] a.done) round (n + 1) (front_of_day text) input a.done event) a.count
          (subst (λ h. IsRoundEvent h round (old.rounds + 1) (front_of_day text) input a.done event) a.handed at))
      by finds.ReadFault at = at

  -- a record that is refused in itself comes behind all entries
  pub bad_record : (first now : Dossiers) (left0 left later : Option (List ℕ)) (entries : List Entry) (bad : BadRecord) → IsSoFar first left0 entries now left
      → (input text : List ℕ) → IsDayOf text entries (Some bad) → IsBehindLine input text first.reader left0 first.checker
      → IsFound input later (finds.Event (Refused bad.number (InItself bad.cause)))
  bad_record first now left0 left later entries bad s input text day l =
      let a = s.along (front_of_day text) input l.between in
      let plans = plans_of a.done in
      let stop : DayStop = record { number = bad.number; cause = InItself bad.cause } in
      let stopped : AreStopped text a.done stop = record {
        rounds = rounds_of plans entries;
        comes_to = IsBadRecord entries bad day ((laws.takes plans entries).1 a.taken) refl refl;
        belong = a.belong;
      } in
      IsRefused text a.done a.between.rest (audited_at input text entries first now left0 left l a) stop stopped refl

  -- the end of the input behind all entries
  pub at_end : (first now : Dossiers) (left0 left later : Option (List ℕ)) (entries : List Entry) (found : Found) → IsSoFar first left0 entries now left
      → ((rest : List ℕ) → rest_of now.reader left ≡ Some rest → EndsSo now.rounds rest later found)
      → (input text : List ℕ) → IsDayOf text entries None → IsBehindLine input text first.reader left0 first.checker → IsFound input later found
  at_end first now left0 left later entries found s ends input text day l = by (ends a.between.rest a.between.is)
    where
      a : IsAlong (front_of_day text) input entries now left
      a = s.along (front_of_day text) input l.between

      belong : BelongToText text a.done
      belong = record { entries = entries; day = day; belong = record { taken = a.taken; rounds = a.belong } }

      by : EndsSo now.rounds a.between.rest later found → IsFound input later found
      by (NoneLeft none is) =
          subst (IsFound input later) (sym is) (Belongs text a.done (subst (HasAudited input text a.done) none (audited_at input text entries first now left0 left l a)) belong (ap Belong a.count))
      by (SomeLeft some is) =
          subst (IsFound input later) (sym is) (IsMore text a.done a.between.rest (audited_at input text entries first now left0 left l a) some belong (ap More a.count))
      by (Unknown unread is) =
          subst (IsFound input later) (sym is) (record {
            read = text_before (front_of_day text) a.done [] ++ unread.read;
            rest = unread.rest;
            left = unread.left;
            parts = a.between.read.text ∙ ap (λ x. text_before (front_of_day text) a.done [] ++ x) unread.parts ∙ sym (append_assoc (text_before (front_of_day text) a.done []) unread.read unread.rest);
          })

-- ---- the end of the input

no_bytes : (xs : List ℕ) → 0 ≡ length xs → xs ≡ []
no_bytes [] e = refl
no_bytes (x ∷ xs) e = absurd (omega (arith, e))

-- what a reader finds of the rest
pub found_of : (old new : Reader) (left later : Option (List ℕ)) (answer : Progress) (rest : List ℕ) → rest_of old left ≡ Some rest → Advances old left answer new later
    → (after : List ℕ) × (rest_of new later ≡ Some after) × Finds (allowance old) rest answer new.line after
found_of old new left later answer rest is a = subst (λ o. AnswersTold (allowance old) o answer new.line (rest_of new later)) is a.rest

some_rest : (rest : List ℕ) → 0 < length rest → rest ≢ []
some_rest rest l e = let n = ap length e in omega (arith, n, l)

pub ends_so : (old new : Reader) (left later : Option (List ℕ)) (rounds : ℕ) (rest : List ℕ) (answer : Progress) → rest_of old left ≡ Some rest → Advances old left answer new later
    → EndsSo rounds rest later (found_at_end rounds answer)
ends_so old new left later rounds rest progress.Line is a =
    let f = found_of old new left later progress.Line rest is a in
    SomeLeft (some_rest rest (let e = ap length f.2.parts in let n = length-append (new.line ++ 10 ∷ []) f.0 in let m = length-append new.line (10 ∷ []) in omega (arith, e, n, m))) refl
ends_so old new left later rounds rest progress.TooLong is a =
    let f = found_of old new left later progress.TooLong rest is a in SomeLeft (some_rest rest (let m = f.2.0.more in omega (arith, m))) refl
ends_so old new left later rounds rest progress.TooMuch is a =
    let f = found_of old new left later progress.TooMuch rest is a in SomeLeft (some_rest rest (let m = f.2.0.more in omega (arith, m))) refl
ends_so old new left later rounds rest (progress.End zero) is a =
    let f = found_of old new left later (progress.End 0) rest is a in NoneLeft (no_bytes rest f.2.0.count) refl
ends_so old new left later rounds rest (progress.End (suc n)) is a =
    let f = found_of old new left later (progress.End (suc n)) rest is a in SomeLeft (some_rest rest (let m = f.2.0.count in omega (arith, m))) refl
ends_so old new left later rounds rest progress.ReadFault is a =
    let f = found_of old new left later progress.ReadFault rest is a in
    Unknown (unread [] rest rest new later refl (f.1 ∙ ap Some f.2)) refl

pub end_has_line : (rounds : ℕ) (answer : Progress) → FoundHasLine (found_at_end rounds answer)
end_has_line rounds progress.Line = λ n e. cc
end_has_line rounds progress.TooLong = λ n e. cc
end_has_line rounds progress.TooMuch = λ n e. cc
end_has_line rounds (progress.End zero) = λ n e. cc
end_has_line rounds (progress.End (suc n)) = λ m e. cc
end_has_line rounds progress.ReadFault = tt

pub end_fault : (rounds : ℕ) (answer : Progress) → found_at_end rounds answer ≡ finds.ReadFault → answer ≡ progress.ReadFault
end_fault rounds progress.Line e = absurd (cc)
end_fault rounds progress.TooLong e = absurd (cc)
end_fault rounds progress.TooMuch e = absurd (cc)
end_fault rounds (progress.End zero) e = absurd (cc)
end_fault rounds (progress.End (suc n)) e = absurd (cc)
end_fault rounds progress.ReadFault e = refl

pub at_none : (rounds partial : ℕ) → partial ≡ 0 → finds.Event (Belong rounds) ≡ found_at_end rounds (progress.End partial)
at_none rounds partial e = ap (λ n. found_at_end rounds (progress.End n)) (sym e)

pub at_some : (rounds partial : ℕ) → partial ≢ 0 → finds.Event (More rounds) ≡ found_at_end rounds (progress.End partial)
at_some rounds zero some = absurd (some refl)
at_some rounds (suc n) some = refl

-- at the end nothing is left in the source, where it tells its bytes
none_unseen : (allowed : ℕ) (rest : Option (List ℕ)) (new : Reader) (later : Option (List ℕ)) → AnswersTold allowed rest (progress.End 0) new.line (rest_of new later) → HasEnded later
none_unseen allowed rest new None told = tt
none_unseen allowed None new (Some unseen) told = absurd (cc)
none_unseen allowed (Some rest) new (Some unseen) told =
    let e : new.held ++ unseen ≡ rest = (let x = told.1 in let y = told.2.1 in cc) in
    no_bytes unseen (let p = told.2.0.count in let m = ap length e in let n = length-append new.held unseen in omega (arith, p, m, n))

pub end_has_ended : (old new : Reader) (left later : Option (List ℕ)) (rounds belong : ℕ) (answer : Progress) → Advances old left answer new later
    → found_at_end rounds answer ≡ finds.Event (Belong belong) → HasEnded later
end_has_ended old new left later rounds belong progress.Line a e = absurd (cc)
end_has_ended old new left later rounds belong progress.TooLong a e = absurd (cc)
end_has_ended old new left later rounds belong progress.TooMuch a e = absurd (cc)
end_has_ended old new left later rounds belong (progress.End zero) a e = none_unseen (allowance old) (rest_of old left) new later a.rest
end_has_ended old new left later rounds belong (progress.End (suc n)) a e = absurd (cc)
end_has_ended old new left later rounds belong progress.ReadFault a e = absurd (cc)

-- the entries before one of a day's, that one, and those after it
pub entries_more : (entries : List Entry) (n : ℕ) (entry : Entry) → n < length entries → entry ≡ get_or entries n entry → take n entries ++ entry ∷ [] ≡ take (n + 1) entries
entries_more entries n entry below is = ap (λ e. take n entries ++ e ∷ []) is ∙ sym (take_more entries n entry below)

pub entries_at : (entries : List Entry) (n : ℕ) (entry : Entry) → n < length entries → entry ≡ get_or entries n entry → entries ≡ take n entries ++ entry ∷ drop (n + 1) entries
entries_at entries n entry below is =
    sym (take-append-drop (n + 1) entries) ∙ ap (λ es. es ++ drop (n + 1) entries) (sym (entries_more entries n entry below is))
    ∙ append_assoc (take n entries) (entry ∷ []) (drop (n + 1) entries)

pub front_count : (entries : List Entry) (n : ℕ) → n ≤ length entries → length (take n entries) ≡ n
front_count entries n below = let t = length-take n entries in omega arith

-- ---- the start

-- what is behind the line `dossiers`, as a reader and a checker that has read nothing come to it
pub behind_line : (input text : List ℕ) (reader : Reader) (left : Option (List ℕ)) (checker : Checked) → checker ≡ fresh_checker → IsBehindDay input text reader left
    → IsBehindLine input text reader left checker
behind_line input text reader left checker fresh b = record {
  within = b.within;
  behind = b.behind;
  day = b.day;
  between = record {
    rest = b.behind;
    is = b.is;
    read = record {
      text = b.day.parts ∙ ap (λ x. x ++ b.behind) none;
      within = subst (λ x. length x ≤ LONGEST_INPUT) none b.day.within;
      good = All-nil IsGood;
      each = All-nil IsLine;
      leads = refl;
    };
    handed = b.handed ∙ ap length none;
    number = ap (λ (c : Checked). c.lines) fresh;
    ended = ((λ e. absurd (let f = subst (λ (c : Checked). IsEnded c.at) fresh e in f.1)), (λ some. absurd (some refl)));
  };
}
  where
    none : (front_of_day text).text ≡ text_before (front_of_day text) [] []
    none = sym (append-nil (front_of_day text).text)

pub can_start : (reader : Reader) (checker : Checked) → checker ≡ fresh_checker → reader.stopped ≡ None → reader.limit ≡ LONGEST_INPUT → reader.handed ≤ LONGEST_INPUT → CanGoOn reader checker
can_start reader checker fresh going limit within = record {
  going = record { going = going; limit = limit; within = within; few = (let e = ap (λ (c : Checked). c.lines) fresh in omega (arith, e)) };
  first = Fresh (fresh ∙ ap opened_at (sym (ap (λ (c : Checked). c.lines) fresh)));
}
