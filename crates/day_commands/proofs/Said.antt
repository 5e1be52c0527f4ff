-- what is written of a day, entry by entry
use Rattle.std.proofs.Common.{◌≡◌, ◌≢◌, ◌≤◌, ◌<◌, ◌+◌, ◌&&◌, ◌++◌, ◌∷◌, [], ℕ, Bool, true, false, List, Option, None, Some, Result, Ok, length, take, drop, get_or, ap, subst, sym, refl, ◌∙◌, arith, append_assoc, append-nil, length-take}
use Rattle.std.specs.Prelude.{IfSome, IsTrue, count_by}
use Rattle.std.proofs.lemmas.List.{take_more, take_all, take-append-drop}
use Rattle.crew_terms.specs.Plan.{Plan}
use Rattle.crew_terms.specs.declared.TheConstants.{LONGEST_DAY}
use Rattle.crew_io.specs.Io.{Appended, AppendedPart, HasEnded}
use Rattle.crew_io.specs.Text.{TookAtMost, ReadsText}
use Rattle.crew_io.specs.declared.text.Text.TheVariants as text_is
use Rattle.crew_io.specs.Appends.{take_past, appended_none, appended_both}
use Rattle.crew_io.specs.Bytes.{OfBytes, piece_front}
use Rattle.route_terms.specs.Named.{NamedRoute}
use Rattle.day_terms.specs.declared.Entry.{Entry}
use Rattle.day_terms.specs.declared.Refused.{Refused}
use Rattle.day_terms.specs.Days.{IsDayOf}
use Rattle.day_terms.specs.State.{DayState, start, start_with}
use Rattle.day_terms.specs.Entries.{after_entry, state_after}
use Rattle.day_terms.specs.Laws.{is_plan}
use Rattle.day_terms.specs.Rounds.{Round, round_at, rounds_of}
use Rattle.replan.specs.Planning.{Planning}
use Rattle.day_commands.specs.Refused.{refused_line}
use Rattle.day_commands.specs.Rounds.{AreTakenBy, DayStop, ComesTo, AllTaken, BadRecord, BadEntry, IsFineDay, IsTooLong, IsStopped, OfRounds, OfRefusal, SaysFirstRounds, NoRound, Rounds, change_stop}
use Rattle.day_commands.specs.Outputs.{MayHave, TextsOf}
use Rattle.day_commands.specs.Says.{SaysAt, whole_end, is_refused_or_write_fault, is_of_text, is_whole, can_end}
use Rattle.day_commands.specs.Staying.{FirstStays, PlansStay}
use Rattle.day_commands.specs.Taken.{AreTextsFrom, IsTakenSo, IsDay, Wrote}
use Rattle.day_commands.specs.ToCome.{PlansToCome}
use Rattle.day_commands.specs.Fronts.{take_front}
use Rattle.day_commands.specs.declared.ended.DayOutput.{DayOutput}
use Rattle.day_commands.specs.declared.ended.DayOutput.TheVariants.{Instances, Dossiers}
use Rattle.day_commands.specs.declared.ended.Ended.{Ended}
use Rattle.day_commands.specs.declared.ended.Ended.TheVariants as ended
use Rattle.day_commands.specs.declared.entries.Taken.{Taken}
use Rattle.day_commands.specs.declared.entries.Taken.TheVariants.{Whole, Refused as IsRefused, WriteFault}
use Rattle.day_commands.specs.declared.refused.DayFault.{DayFault}
use Rattle.day_commands.specs.declared.refused.DayFault.TheVariants.{TooLong, InItself, Change}
use Rattle.flight_changes.specs.declared.faults.ChangeFault.TheVariants.{OutOfMemory}
use Rattle.day_commands.proofs.Applied.{known_none}
use Rattle.day_commands.proofs.Days.{goes_on, rounds_more, state_takes_entries, stop_same, taken_more, state_more}
use Rattle.day_commands.proofs.Stays.{StayFor, none_stay, plans_stay, stay_more}
use Rattle.day_commands.proofs.Texts.{HasAll, has_all, texts_none, texts_then, texts_are, texts_proved, texts_unproved}

pub same_ok : {T E : Type 0} {x y : T} → ◌≡◌ {A = Result T E} (Ok x) (Ok y) → x ≡ y
same_ok e = cc

-- ---- fronts of texts

-- a piece behind a whole text, of which a front was written
pub front_behind : (xs ys : List ℕ) (n : ℕ) → xs ++ take n ys ≡ take (length xs + n) (xs ++ ys)
front_behind xs ys n = sym (take_past xs ys n)

-- ---- the whole day

-- what was written of the rounds of these entries, up to routes that are handed on
pub record SoFar (output : DayOutput) (entries : List Entry) (proved : Bool) (s : Planning) (got later : Option (List ℕ)) : Type 0 where
  pub plans : List Plan
  pub state : s.day ≡ state_after plans entries
  pub unknown : s.day.plans ≡ []
  pub open_yet : s.failed ≡ None
  pub taken : AreTakenBy change_stop (start_with plans) entries
  pub text : List ℕ
  pub texts : AreTextsFrom output [] plans (rounds_of plans entries) text proved s.handed
  pub stay : StayFor output plans entries
  pub wrote : Appended got later text

-- their plans stay, in a day that begins with them
so_stay : PlansToCome → (output : DayOutput) (text : List ℕ) (front back : List Entry) (last : Option Refused) (proved : Bool) (s : Planning) (got later : Option (List ℕ)) (so : SoFar output front proved s got later)
    → IsDayOf text (front ++ back) last → PlansStay text so.plans
so_stay laws output text front back last proved s got later so day =
    plans_stay laws output so.plans text front back last day (has_all output [] s.handed so.plans (rounds_of so.plans front) so.text proved so.texts) so.stay

-- and in one of which they are all
all_stay : PlansToCome → (output : DayOutput) (text : List ℕ) (entries : List Entry) (last : Option Refused) (proved : Bool) (s : Planning) (got later : Option (List ℕ)) (so : SoFar output entries proved s got later)
    → IsDayOf text entries last → PlansStay text so.plans
all_stay laws output text entries last proved s got later so day = so_stay laws output text entries [] last proved s got later so (subst (λ es. IsDayOf text es last) (sym (append-nil entries)) day)

-- the rounds of entries that are taken are the first of those that the day comes to
first_rounds : (output : DayOutput) (plans : List Plan) (text : List ℕ) (front back : List Entry) (last : Option Refused) (written : List ℕ) → length text ≤ LONGEST_DAY → IsDayOf text (front ++ back) last
    → AreTakenBy change_stop (start_with plans) front → PlansStay text plans → TextsOf output plans (rounds_of plans front) written → SaysFirstRounds change_stop (TextsOf output) text written
first_rounds output plans text front back last written within day taken stay texts =
    let g = goes_on change_stop plans text front back last day taken in
    Rounds within plans (rounds_of plans front ++ g.rest) g.stop g.comes_to stay (length (rounds_of plans front))
    (subst (λ rounds. TextsOf output plans rounds written) (sym (take_front (rounds_of plans front) g.rest)) texts)

-- memory was wanting behind entries that are taken
pub says_first : PlansToCome → (output : DayOutput) (text : List ℕ) (front back : List Entry) (last : Option Refused) (proved : Bool) (s : Planning) (got later : Option (List ℕ)) → length text ≤ LONGEST_DAY → IsDayOf text (front ++ back) last
    → SoFar output front proved s got later → Wrote got later (SaysFirstRounds change_stop (TextsOf output) text)
says_first laws output text front back last proved s got later within day so =
    (so.text, so.wrote, first_rounds output so.plans text front back last so.text within day so.taken (so_stay laws output text front back last proved s got later so day) (texts_are output so.plans (rounds_of so.plans front) so.text proved s.handed so.texts))

-- no record was refused
pub says_rounds : PlansToCome → (output : DayOutput) (text : List ℕ) (entries : List Entry) (proved : Bool) (s : Planning) (got later : Option (List ℕ)) → length text ≤ LONGEST_DAY → IsDayOf text entries None
    → SoFar output entries proved s got later → Wrote got later (SaysAt output (whole_end proved) None text)
says_rounds laws output text entries true s got later within day so = (
  so.text,
  so.wrote,
  record { within = within; plans = so.plans; rounds = rounds_of so.plans entries; comes_to = AllTaken entries day so.taken refl refl; stay = all_stay laws output text entries None true s got later so day; texts = texts_proved output so.plans (rounds_of so.plans entries) so.text s.handed so.texts },
)
says_rounds laws output text entries false s got later within day so = (
  so.text,
  so.wrote,
  record { within = within; plans = so.plans; rounds = rounds_of so.plans entries; comes_to = AllTaken entries day so.taken refl refl; stay = all_stay laws output text entries None false s got later so day; texts = texts_unproved output so.plans (rounds_of so.plans entries) so.text s.handed so.texts },
)

-- a record is refused
pub says_stop : (output : DayOutput) (plans : List Plan) (text : List ℕ) (rounds : List Round) (stop : DayStop) (written : List ℕ) (got mid later : Option (List ℕ)) (answer : Ended) → length text ≤ LONGEST_DAY
    → ComesTo change_stop plans text rounds (Some stop) → PlansStay text plans → TextsOf output plans rounds written → Appended got mid written
    → (answer ≡ ended.Refused → Appended mid later (refused_line stop.number stop.cause)) → AppendedPart mid later (refused_line stop.number stop.cause)
    → IsTrue (is_refused_or_write_fault answer) → Wrote got later (SaysAt output answer None text)
says_stop output plans text rounds stop written got mid later ended.Done within c stay texts wrote all part others = absurd (cc)
says_stop output plans text rounds stop written got mid later ended.Unproved within c stay texts wrote all part others = absurd (cc)
says_stop output plans text rounds stop written got mid later ended.ReadFault within c stay texts wrote all part others = absurd (cc)
says_stop output plans text rounds stop written got mid later ended.Refused within c stay texts wrote all part others = (
  written ++ refused_line stop.number stop.cause,
  appended_both got mid later written (refused_line stop.number stop.cause) wrote (all refl),
  IsStopped within plans rounds stop c stay written texts refl,
)
says_stop output plans text rounds stop written got mid later ended.WriteFault within c stay texts wrote all part others =
    let line = refused_line stop.number stop.cause in
    let w = piece_front got mid later written line wrote part in
    (written ++ take w.0 line, w.2, OfRefusal (written ++ line) (IsStopped within plans rounds stop c stay written texts refl) (length written + w.0) (front_behind written line w.0))

-- ---- plans of later rounds

-- further plans change nothing of these entries
record IsLater (plans more : List Plan) (entries : List Entry) : Type 0 where
  pub state : state_after (plans ++ more) entries ≡ record (state_after plans entries) { plans = more }
  pub rounds : rounds_of (plans ++ more) entries ≡ rounds_of plans entries
  pub taken : AreTakenBy change_stop (start_with (plans ++ more)) entries

are_later : PlansToCome → (output : DayOutput) (plans more : List Plan) (entries : List Entry) (rounds : List Round) → AreTakenBy change_stop (start_with plans) entries
    → HasAll output plans (rounds_of plans entries) → HasAll output more rounds → (state_after plans entries).plans ≡ [] → IsLater plans more entries
are_later laws Instances plans more entries rounds taken has none unknown =
    let same = append-nil plans in
    subst (λ m. IsLater plans m entries) (sym none) (record {
      state = ap (λ ps. state_after ps entries) same ∙ sym (known_none (state_after plans entries) unknown);
      rounds = ap (λ ps. rounds_of ps entries) same;
      taken = subst (λ ps. AreTakenBy change_stop (start_with ps) entries) (sym same) taken;
    })
are_later laws Dossiers plans more entries rounds taken has all unknown =
    let many : length plans ≡ count_by is_plan entries = has ∙ laws.count plans entries in
    record {
      state = laws.state plans more entries many;
      rounds = laws.rounds plans more entries many;
      taken = (state_takes_entries (plans ++ more) entries).1 (laws.taken plans more entries many ((state_takes_entries plans entries).0 taken));
    }

-- ---- at an entry of the day

-- entries are the first n, the next one, and those behind it
pub entries_at : (entries : List Entry) (n : ℕ) (d : Entry) → n < length entries → entries ≡ take n entries ++ get_or entries n d ∷ drop (n + 1) entries
entries_at entries n d h =
    sym (take-append-drop (n + 1) entries) ∙ ap (λ es. es ++ drop (n + 1) entries) (take_more entries n d h) ∙ append_assoc (take n entries) (get_or entries n d ∷ []) (drop (n + 1) entries)

pub day_at : (text : List ℕ) (entries : List Entry) (n : ℕ) (d : Entry) (last : Option Refused) → n < length entries → IsDayOf text entries last
    → IsDayOf text (take n entries ++ get_or entries n d ∷ drop (n + 1) entries) last
day_at text entries n d last below day = subst (λ es. IsDayOf text es last) (entries_at entries n d below) day

module _ (output : DayOutput) (text : List ℕ) (entries : List Entry) (n : ℕ) (last : Option Refused) (proved : Bool) (s : Planning) (got mid : Option (List ℕ)) where
  -- the entry is refused
  pub at_refused : PlansToCome → (d : Entry) (new : Planning) (taken : Taken) (fault : DayFault) (held later : Option (List ℕ)) (answer : Ended) → IsDay text entries last → n < length entries → SoFar output (take n entries) proved s got mid
      → IsTakenSo output s (get_or entries n d) taken new mid held → taken ≡ IsRefused fault → (answer ≡ ended.Refused → Appended held later (refused_line (n + 1) fault))
      → AppendedPart held later (refused_line (n + 1) fault) → IsTrue (is_refused_or_write_fault answer) → Wrote got later (SaysAt output answer None text)
  at_refused laws d new taken fault held later answer day below so comes is all part others =
      let front = take n entries in
      let entry = get_or entries n d in
      let p = subst (λ x. IsTakenSo output s entry x new mid held) is comes in
      let refused : change_stop (state_after so.plans front) entry ≡ Some fault = subst (λ x. change_stop x entry ≡ Some fault) so.state p.0 in
      let number : n + 1 ≡ length front + 1 = omega (arith, length-take n entries, below) in
      let stop : DayStop = record { number = n + 1; cause = fault } in
      let stop_is : Some stop ≡ Some (record { number = length front + 1; cause = fault }) = ap (λ k. Some (record { number = k; cause = fault })) number in
      says_stop output so.plans text (rounds_of so.plans front) stop so.text got mid later answer day.within
      (BadEntry front (drop (n + 1) entries) entry last (day_at text entries n d last below day.day) so.taken fault refused refl stop_is)
      (so_stay laws output text front (entry ∷ drop (n + 1) entries) last proved s got mid so (day_at text entries n d last below day.day))
      (texts_are output so.plans (rounds_of so.plans front) so.text proved s.handed so.texts) so.wrote
      (λ e. subst (λ x. Appended x later (refused_line (n + 1) fault)) p.2 (all e)) (subst (λ x. AppendedPart x later (refused_line (n + 1) fault)) p.2 part) others

  -- it is taken, where its round has these plans
  module _ (laws : PlansToCome) (d : Entry) (below : n < length entries) (so : SoFar output (take n entries) proved s got mid) (more : List Plan)
      (has : HasAll output more (round_at s.day (get_or entries n d))) where
    abbrev front : List Entry
    front = take n entries

    abbrev entry : Entry
    entry = get_or entries n d

    abbrev known : List Plan
    known = so.plans ++ more

    same_before : IsLater so.plans more front
    same_before =
        are_later laws output so.plans more front (round_at s.day entry) so.taken (has_all output [] s.handed so.plans (rounds_of so.plans front) so.text proved so.texts) has
        (ap (λ (x : DayState). x.plans) (sym so.state) ∙ so.unknown)

    more_taken : change_stop s.day entry ≡ None → AreTakenBy change_stop (start_with known) (front ++ entry ∷ [])
    more_taken none =
        taken_more change_stop known front entry same_before.taken
        (ap (λ x. change_stop x entry) same_before.state ∙ stop_same laws.refusal (state_after so.plans front) more entry ∙ ap (λ x. change_stop x entry) (sym so.state) ∙ none)

    more_texts : (ys : List ℕ) (q : Bool) (handed : List NamedRoute) → AreTextsFrom output s.handed more (round_at s.day entry) ys q handed
        → AreTextsFrom output [] known (rounds_of known (front ++ entry ∷ [])) (so.text ++ ys) (proved && q) handed
    more_texts ys q handed texts =
        subst (λ rounds. AreTextsFrom output [] known rounds (so.text ++ ys) (proved && q) handed)
        (ap (λ rs. rs ++ round_at s.day entry) (sym same_before.rounds)
        ∙ ap (λ r. rounds_of known front ++ r)
        (ap (λ x. round_at x entry) so.state ∙ sym (laws.round (state_after so.plans front) more entry) ∙ ap (λ x. round_at x entry) (sym same_before.state))
        ∙ sym (rounds_more known front entry))
        (texts_then output [] s.handed handed so.plans more (rounds_of so.plans front) (round_at s.day entry) so.text ys proved q so.texts texts)

    more_stay : FirstStays s.day more → StayFor output known (front ++ entry ∷ [])
    more_stay first =
        stay_more laws output so.plans more front entry s.day so.state (has_all output [] s.handed so.plans (rounds_of so.plans front) so.text proved so.texts) has first so.stay

    more_state : (new : DayState) → new ≡ after_entry (record s.day { plans = more }) entry → new ≡ state_after known (front ++ entry ∷ [])
    more_state new is =
        is ∙ ap (λ (x : DayState). after_entry (record x { plans = more }) entry) so.state ∙ ap (λ x. after_entry x entry) (sym same_before.state) ∙ sym (state_more known front entry)

  -- a write of its round failed
  pub at_front : PlansToCome → (d : Entry) (new : Planning) (taken : Taken) (later : Option (List ℕ)) → IsDay text entries last → n < length entries → SoFar output (take n entries) proved s got mid
      → IsTakenSo output s (get_or entries n d) taken new mid later → taken ≡ WriteFault → Wrote got later (SaysAt output ended.WriteFault None text)
  at_front laws d new taken later day below so comes is =
      let front = take n entries in
      let entry = get_or entries n d in
      let p = subst (λ x. IsTakenSo output s entry x new mid later) is comes in
      let f = p.1 in
      let known = so.plans ++ f.0 in
      let w = piece_front got mid later so.text f.1 so.wrote f.5 in
      let has = has_all output s.handed f.3 f.0 (round_at s.day entry) f.1 f.2 f.4 in
      let more = more_texts laws d below so f.0 has f.1 f.2 f.3 f.4 in
      let whole_day = subst (λ es. IsDayOf text es last) (sym (append_assoc front (entry ∷ []) (drop (n + 1) entries))) (day_at text entries n d last below day.day) in
      let whole = first_rounds output known text (front ++ entry ∷ []) (drop (n + 1) entries) last (so.text ++ f.1) day.within whole_day
      (more_taken laws d below so f.0 has p.0)
      (plans_stay laws output known text (front ++ entry ∷ []) (drop (n + 1) entries) last whole_day (has_all output [] f.3 known (rounds_of known (front ++ entry ∷ [])) (so.text ++ f.1) (proved && f.2) more)
      (more_stay laws d below so f.0 has f.6))
      (texts_are output known (rounds_of known (front ++ entry ∷ [])) (so.text ++ f.1) (proved && f.2) f.3 more) in
      (so.text ++ take w.0 f.1, w.2, OfRounds (so.text ++ f.1) whole (length so.text + w.0) (front_behind so.text f.1 w.0))

  -- memory was wanting for it
  pub at_memory : PlansToCome → (later : Option (List ℕ)) → IsDay text entries last → SoFar output (take n entries) proved s got mid → later ≡ mid → Wrote got later (SaysFirstRounds change_stop (TextsOf output) text)
  at_memory laws later day so same =
      subst (λ x. Wrote got x (SaysFirstRounds change_stop (TextsOf output) text)) (sym same)
      (says_first laws output text (take n entries) (drop n entries) last proved s got mid day.within (subst (λ es. IsDayOf text es last) (sym (take-append-drop n entries)) day.day) so)

  pub at_taken : PlansToCome → (d : Entry) (new : Planning) (taken : Taken) (q : Bool) (later : Option (List ℕ)) → n < length entries → SoFar output (take n entries) proved s got mid
      → IsTakenSo output s (get_or entries n d) taken new mid later → taken ≡ Whole q → SoFar output (take (n + 1) entries) (proved && q) new got later
  at_taken laws d new taken q later below so comes is =
      let front = take n entries in
      let entry = get_or entries n d in
      let p = subst (λ x. IsTakenSo output s entry x new mid later) is comes in
      let f = p.2 in
      let more : front ++ entry ∷ [] ≡ take (n + 1) entries = sym (take_more entries n d below) in
      let has = has_all output s.handed new.handed f.0 (round_at s.day entry) f.1 q f.3 in
      subst (λ es. SoFar output es (proved && q) new got later) more (record {
        plans = so.plans ++ f.0;
        state = more_state laws d below so f.0 has new.day f.2.0;
        unknown = f.2.1;
        open_yet = p.1;
        taken = more_taken laws d below so f.0 has p.0;
        text = so.text ++ f.1;
        texts = more_texts laws d below so f.0 has f.1 q new.handed f.3;
        stay = more_stay laws d below so f.0 has f.5;
        wrote = appended_both got mid later so.text f.1 so.wrote f.4;
      })

  -- ---- behind the last entry

  pub at_end : PlansToCome → IsDay text entries last → length entries ≤ n → SoFar output (take n entries) proved s got mid → last ≡ None → Wrote got mid (SaysAt output (whole_end proved) None text)
  at_end laws day all so none =
      says_rounds laws output text entries proved s got mid day.within (subst (IsDayOf text entries) none day.day) (subst (λ es. SoFar output es proved s got mid) (take_all n entries all) so)

  pub at_stop : PlansToCome → (stop : Refused) (later : Option (List ℕ)) (answer : Ended) → IsDay text entries last → length entries ≤ n → SoFar output (take n entries) proved s got mid → last ≡ Some stop
      → (answer ≡ ended.Refused → Appended mid later (refused_line stop.number (InItself stop.cause)))
      → AppendedPart mid later (refused_line stop.number (InItself stop.cause)) → IsTrue (is_refused_or_write_fault answer) → Wrote got later (SaysAt output answer None text)
  at_stop laws stop later answer day all so some whole part others =
      let done = subst (λ es. SoFar output es proved s got mid) (take_all n entries all) so in
      says_stop output done.plans text (rounds_of done.plans entries) (record { number = stop.number; cause = InItself stop.cause }) done.text got mid later answer day.within
      (BadRecord entries stop (subst (IsDayOf text entries) some day.day) done.taken refl refl)
      (all_stay laws output text entries last proved s got mid done day.day)
      (texts_are output done.plans (rounds_of done.plans entries) done.text proved s.handed done.texts) done.wrote whole part others

-- before the first entry
pub nothing_yet : (output : DayOutput) (s : Planning) (got : Option (List ℕ)) → s ≡ record { day = start; handed = []; failed = None } → SoFar output [] true s got got
nothing_yet output s got is = subst (λ x. SoFar output [] true x got got) (sym is) (record {
  plans = [];
  state = refl;
  unknown = refl;
  open_yet = refl;
  taken = tt;
  text = [];
  texts = texts_none output;
  stay = none_stay output;
  wrote = appended_none got;
})

pub refused_is_no_want : (output : DayOutput) (taken : Taken) (s new : Planning) (entry : Entry) (fault : DayFault) (got later : Option (List ℕ)) → IsTakenSo output s entry taken new got later → taken ≡ IsRefused fault → fault ≢ Change OutOfMemory
refused_is_no_want output taken s new entry fault got later comes is = (subst (λ x. IsTakenSo output s entry x new got later) is comes).1

pub whole_is_no_fault : {E : Type 0} (taken : Taken) (q : Bool) → taken ≡ Whole q → ◌≡◌ {A = Result Taken E} (Ok taken) (Ok WriteFault) → ⊥
whole_is_no_fault taken q is e = cc

pub refused_entry_is_no_fault : {E : Type 0} (taken : Taken) (fault : DayFault) → taken ≡ IsRefused fault → ◌≡◌ {A = Result Taken E} (Ok taken) (Ok WriteFault) → ⊥
refused_entry_is_no_fault taken fault is e = cc

-- ---- the whole call

says_any : (output : DayOutput) (answer : Ended) (unseen : Option (List ℕ)) (input written : List ℕ) → IsTrue (is_of_text output answer) → SaysAt output answer None input written → SaysAt output answer unseen input written
says_any output ended.Done unseen input written of_day says = says
says_any output ended.Unproved unseen input written of_day says = says
says_any output ended.Refused unseen input written of_day says = says
says_any output ended.ReadFault unseen input written of_day says = absurd (cc)
says_any output ended.WriteFault unseen input written of_day says = says

-- the whole text was read
pub whole_says : (output : DayOutput) (left later got new : Option (List ℕ)) (bytes : List ℕ) (answer : Ended) → ReadsText LONGEST_DAY left (text_is.Whole bytes) later → IsTrue (is_of_text output answer)
    → Wrote got new (SaysAt output answer None bytes) → OfBytes left got new (SaysAt output answer later)
whole_says output None later got new bytes answer read of_day wrote = tt
whole_says output (Some input) later got new bytes answer read of_day wrote = (wrote.0, wrote.1, says_any output answer later input wrote.0 of_day (subst (λ x. SaysAt output answer None x wrote.0) read.0 wrote.2))

pub whole_memory : (output : DayOutput) (left later got new : Option (List ℕ)) (bytes : List ℕ) → ReadsText LONGEST_DAY left (text_is.Whole bytes) later
    → Wrote got new (SaysFirstRounds change_stop (TextsOf output) bytes) → OfBytes left got new (SaysFirstRounds change_stop (TextsOf output))
whole_memory output None later got new bytes read wrote = tt
whole_memory output (Some input) later got new bytes read wrote = (wrote.0, wrote.1, subst (λ x. SaysFirstRounds change_stop (TextsOf output) x wrote.0) read.0 wrote.2)

pub whole_not_fine : (output : DayOutput) (left later : Option (List ℕ)) (bytes : List ℕ) → ReadsText LONGEST_DAY left (text_is.Whole bytes) later → (IsFineDay change_stop (MayHave output) bytes → ⊥)
    → IfSome left (λ input. IsFineDay change_stop (MayHave output) input → ⊥)
whole_not_fine output None later bytes read not = tt
whole_not_fine output (Some input) later bytes read not = subst (λ x. IsFineDay change_stop (MayHave output) x → ⊥) read.0 not

-- and nothing is left
pub whole_ended : (left later : Option (List ℕ)) (bytes : List ℕ) → ReadsText LONGEST_DAY left (text_is.Whole bytes) later → HasEnded later
whole_ended None later bytes read = subst HasEnded (sym read) tt
whole_ended (Some input) later bytes read = subst HasEnded (sym read.1) refl

pub refused_not_whole : (answer : Ended) → IsTrue (is_refused_or_write_fault answer) → IsTrue (is_whole answer) → ⊥
refused_not_whole ended.Done others whole = absurd (cc)
refused_not_whole ended.Unproved others whole = absurd (cc)
refused_not_whole ended.Refused others whole = absurd (cc)
refused_not_whole ended.ReadFault others whole = absurd (cc)
refused_not_whole ended.WriteFault others whole = absurd (cc)

pub refused_no_fault : (answer : Ended) → IsTrue (is_refused_or_write_fault answer) → answer ≡ ended.ReadFault → ⊥
refused_no_fault answer others fault = absurd (let f = subst (λ s. IsTrue (is_refused_or_write_fault s)) fault others in cc)

pub of_text_no_fault : (output : DayOutput) (answer : Ended) → IsTrue (is_of_text output answer) → answer ≡ ended.ReadFault → ⊥
of_text_no_fault output answer others fault = absurd (let f = subst (λ s. IsTrue (is_of_text output s)) fault others in cc)

pub of_text_can_end : (output : DayOutput) (answer : Ended) → IsTrue (is_of_text output answer) → IsTrue (can_end output answer)
of_text_can_end output ended.Done others = others
of_text_can_end output ended.Unproved others = others
of_text_can_end output ended.Refused others = others
of_text_can_end output ended.ReadFault others = absurd (cc)
of_text_can_end output ended.WriteFault others = others

pub refused_can_end : (output : DayOutput) (answer : Ended) → IsTrue (is_refused_or_write_fault answer) → IsTrue (can_end output answer)
refused_can_end output ended.Done others = refl
refused_can_end output ended.Unproved others = absurd (cc)
refused_can_end output ended.Refused others = refl
refused_can_end output ended.ReadFault others = refl
refused_can_end output ended.WriteFault others = refl

pub refused_of_text : (output : DayOutput) (answer : Ended) → IsTrue (is_refused_or_write_fault answer) → IsTrue (is_of_text output answer)
refused_of_text output ended.Done others = refl
refused_of_text output ended.Unproved others = absurd (cc)
refused_of_text output ended.Refused others = refl
refused_of_text output ended.ReadFault others = absurd (cc)
refused_of_text output ended.WriteFault others = refl

-- of instances all is proved
pub whole_of_text : (output : DayOutput) (entries : List Entry) (proved : Bool) (s : Planning) (got later : Option (List ℕ)) → SoFar output entries proved s got later → IsTrue (is_of_text output (whole_end proved))
whole_of_text Instances entries proved s got later so = subst (λ q. IsTrue (is_of_text Instances (whole_end q))) (sym so.texts.1) refl
whole_of_text Dossiers entries true s got later so = refl
whole_of_text Dossiers entries false s got later so = refl

-- nothing was written, and memory was wanting
pub none_memory : (output : DayOutput) (left got : Option (List ℕ)) → OfBytes left got got (SaysFirstRounds change_stop (TextsOf output))
none_memory output None got = tt
none_memory output (Some input) got = ([], appended_none got, NoRound refl)

-- more bytes come than a day may have
pub long_says : (output : DayOutput) (left later got new : Option (List ℕ)) (answer : Ended) → ReadsText LONGEST_DAY left text_is.TooLong later → (answer ≡ ended.Refused → Appended got new (refused_line 0 TooLong))
    → AppendedPart got new (refused_line 0 TooLong) → IsTrue (is_refused_or_write_fault answer) → OfBytes left got new (SaysAt output answer later)
long_says output None later got new answer read all part others = tt
long_says output (Some input) later got new ended.Done read all part others = absurd (cc)
long_says output (Some input) later got new ended.Unproved read all part others = absurd (cc)
long_says output (Some input) later got new ended.ReadFault read all part others = absurd (cc)
long_says output (Some input) later got new ended.Refused read all part others = (refused_line 0 TooLong, all refl, IsTooLong read.0 refl)
long_says output (Some input) later got new ended.WriteFault read all part others =
    let line = refused_line 0 TooLong in
    let w = piece_front got got new [] line (appended_none got) part in
    (take w.0 line, w.2, OfRefusal line (IsTooLong read.0 refl) w.0 refl)

pub long_not_fine : (output : DayOutput) (left later : Option (List ℕ)) → ReadsText LONGEST_DAY left text_is.TooLong later → IfSome left (λ input. IsFineDay change_stop (MayHave output) input → ⊥)
long_not_fine output None later read = tt
long_not_fine output (Some input) later read = λ fine. let a = read.0 in let b = fine.0 in absurd (omega arith)

-- a read has failed
pub fault_says : (output : DayOutput) (left later got : Option (List ℕ)) → TookAtMost LONGEST_DAY left later → OfBytes left got got (SaysAt output ended.ReadFault later)
fault_says output None later got took = tt
fault_says output (Some input) later got took = (
  [],
  appended_none got,
  record {
    none = refl;
    read = take took.0 input;
    within = (let a = took.1 in omega (arith, length-take took.0 input));
    rest = drop took.0 input;
    left = took.3;
    parts = sym (take-append-drop took.0 input);
  },
)

pub whole_no_fault : {E : Type 0} (q : Bool) (answer : Ended) → answer ≡ whole_end q → ◌≡◌ {A = Result Ended E} (Ok answer) (Ok ended.WriteFault) → ⊥
whole_no_fault true answer is e = let f : ended.Done ≡ ended.WriteFault = sym is ∙ same_ok e in absurd (cc)
whole_no_fault false answer is e = let f : ended.Unproved ≡ ended.WriteFault = sym is ∙ same_ok e in absurd (cc)
