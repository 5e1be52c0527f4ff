-- what comes next in a day behind dossiers that belong to its first rounds
use Rattle.std.proofs.Common.{◌≡◌, ◌+◌, ◌++◌, ◌∷◌, ◌⊎◌, inl, inr, [], ℕ, List, Option, None, Some, length, ap, subst, sym, refl, ◌∙◌, arith, length-append, append_assoc, append-nil, count_by}
use Rattle.std.proofs.lemmas.List.{append_cancel_left, length-map}
use Rattle.std.specs.Prelude.{option_map}
use Rattle.crew_terms.specs.Plan.{Plan}
use Rattle.dossier_terms.specs.Dossier.{Dossier}
use Rattle.day_terms.specs.Days.{IsDayOf}
use Rattle.day_terms.specs.Entries.{after_entry, state_after}
use Rattle.day_terms.specs.Laws.{is_plan}
use Rattle.day_terms.specs.Refusal.{AreTaken, Refusal, refusal_of}
use Rattle.day_terms.specs.Rounds.{Round, round_at, rounds_from, rounds_of}
use Rattle.day_terms.specs.State.{DayState, start_with}
use Rattle.day_terms.specs.declared.Entry.{Entry}
use Rattle.day_terms.specs.declared.Refused.{Refused}
use Rattle.flight_changes.specs.Faults.{fault_of}
use Rattle.day_commands.specs.Rounds.{AllTaken, BadEntry, BadRecord, ComesTo, DayStop, change_stop}
use Rattle.day_commands.specs.declared.refused.DayFault.{DayFault}
use Rattle.day_commands.specs.declared.refused.DayFault.TheVariants.{Change, InItself}
use Rattle.day_audit.specs.Belongs.{BelongToRounds, BelongsToRound, plans_of}
use Rattle.audit_command.specs.Events.{AreStopped, BelongToText, IsNextRound, handed_behind}
use Rattle.audit_command.proofs.DayLaws.{DayLaws, belong_at, count_le, plans_known, plans_more, taken_at}

-- a round, the first record that is refused, or the end of the day
pub data Coming : Type 0 where
  Begins : (round : Round) → Coming
  Stops : (stop : DayStop) → Coming
  Ends : Coming

-- behind the entries before, to whose rounds the dossiers belong, this comes
pub data IsNext (done : List Dossier) (before after : List Entry) (last : Option Refused) (what : Coming) : Type 0 where
  NextRound : (entry : Entry) (rest : List Entry) (round : Round) (here : after ≡ entry ∷ rest) (accepted : refusal_of (state_after (plans_of done) before) entry ≡ None)
      (begins : round_at (state_after (plans_of done) before) entry ≡ round ∷ []) (is : what ≡ Begins round) → IsNext done before after last what
  NextRefused : (entry : Entry) (rest : List Entry) (fault : DayFault) (here : after ≡ entry ∷ rest) (refused : change_stop (state_after (plans_of done) before) entry ≡ Some fault)
      (is : what ≡ Stops (record { number = length before + 1; cause = fault })) → IsNext done before after last what
  NextBad : (bad : Refused) (here : after ≡ []) (refused : last ≡ Some bad) (is : what ≡ Stops (record { number = bad.number; cause = InItself bad.cause })) → IsNext done before after last what
  NoNext : (here : after ≡ []) (none : last ≡ None) (is : what ≡ Ends) → IsNext done before after last what

-- the dossiers belong to the rounds of the first entries of the day, and this comes next
pub record Comes (text : List ℕ) (done : List Dossier) (what : Coming) : Type 0 where
  pub before : List Entry
  pub after : List Entry
  pub last : Option Refused
  pub day : IsDayOf text (before ++ after) last
  pub taken : AreTaken (start_with (plans_of done)) before
  pub belong : BelongToRounds [] (rounds_of (plans_of done) before) done
  pub next : IsNext done before after last what

-- ---- what the events say comes next

pub of_round : (text : List ℕ) (done : List Dossier) (round : Round) → IsNextRound text done round → Comes text done (Begins round)
of_round text done round n = record {
  before = n.before;
  after = n.entry ∷ n.after;
  last = n.stop;
  day = n.day;
  taken = n.taken;
  belong = n.belong;
  next = NextRound n.entry n.after round refl n.accepted n.begins refl;
}

pub of_all : (text : List ℕ) (done : List Dossier) → BelongToText text done → Comes text done Ends
of_all text done b = record {
  before = b.entries;
  after = [];
  last = None;
  day = subst (λ es. IsDayOf text es None) (sym (append-nil b.entries)) b.day;
  taken = b.belong.taken;
  belong = b.belong.rounds;
  next = NoNext refl refl refl;
}

stop_is : (a b : DayStop) → ◌≡◌ {A = Option DayStop} (Some a) (Some b) → Stops a ≡ Stops b
stop_is a b e = let f : a ≡ b = cc in ap Stops f

pub of_stop : DayLaws → (text : List ℕ) (done : List Dossier) (stop : DayStop) → AreStopped text done stop → Comes text done (Stops stop)
of_stop laws text done stop s = by s.rounds s.comes_to s.belong
  where
    by : (rounds : List Round) → ComesTo change_stop (plans_of done) text rounds (Some stop) → BelongToRounds [] rounds done → Comes text done (Stops stop)
    by rounds (AllTaken entries day taken are is) b = absurd (cc)
    by rounds (BadRecord entries refused day taken are is) b = record {
      before = entries;
      after = [];
      last = Some refused;
      day = subst (λ es. IsDayOf text es (Some refused)) (sym (append-nil entries)) day;
      taken = (laws.takes (plans_of done) entries).0 taken;
      belong = subst (λ rs. BelongToRounds [] rs done) are b;
      next = NextBad refused refl refl (stop_is stop (record { number = refused.number; cause = InItself refused.cause }) is);
    }
    by rounds (BadEntry front back entry later day taken fault refused are is) b = record {
      before = front;
      after = entry ∷ back;
      last = later;
      day = day;
      taken = (laws.takes (plans_of done) front).0 taken;
      belong = subst (λ rs. BelongToRounds [] rs done) are b;
      next = NextRefused entry back fault refl refused (stop_is stop (record { number = length front + 1; cause = fault }) is);
    }

-- ---- one thing comes next

-- of two lists that go on to one list, one goes on to the other
pub front_of : {X : Type 0} (xs ys a b : List X) → xs ++ a ≡ ys ++ b → ((m : List X) × (xs ≡ ys ++ m)) ⊎ ((m : List X) × (ys ≡ xs ++ m))
front_of [] ys a b e = inr (ys, refl)
front_of (x ∷ xs) [] a b e = inl (x ∷ xs, refl)
front_of (x ∷ xs) (y ∷ ys) a b e =
    let f : x ≡ y = cc in
    let g : xs ++ a ≡ ys ++ b = cc in
    elim (front_of xs ys a b g) [
      | inl m ↦ inl (m.0, ap (λ z. z ∷ xs) f ∙ ap (λ z. y ∷ z) m.1)
      | inr m ↦ inr (m.0, ap (λ z. z ∷ ys) (sym f) ∙ ap (λ z. x ∷ z) m.1)
    ]

not_told : (told : Option Refusal) (fault : DayFault) → told ≡ None → option_map (λ refusal. Change (fault_of refusal)) told ≡ Some fault → ⊥
not_told None fault e f = cc
not_told (Some t) fault e f = cc

-- an entry that is taken is not refused
pub not_refused : (s : DayState) (entry : Entry) (fault : DayFault) → refusal_of s entry ≡ None → change_stop s entry ≡ Some fault → ⊥
not_refused s entry fault e f = not_told (refusal_of s entry) fault e f

-- what comes at one place
same_next : (done : List Dossier) (before after : List Entry) (last : Option Refused) (a b : Coming) → IsNext done before after last a → IsNext done before after last b → a ≡ b
same_next done before after last a b (NextRound x r round h acc begins is) (NextRound y q other g acc2 begins2 is2) =
    let same : x ≡ y = (let e = sym h ∙ g in cc) in
    let s = state_after (plans_of done) before in
    let f : round ≡ other = (let e = sym begins ∙ ap (round_at s) same ∙ begins2 in cc) in
    is ∙ ap Begins f ∙ sym is2
same_next done before after last a b (NextRound x r round h acc begins is) (NextRefused y q fault g refused is2) =
    let same : x ≡ y = (let e = sym h ∙ g in cc) in
    let s = state_after (plans_of done) before in
    absurd (not_refused s y fault (subst (λ z. refusal_of s z ≡ None) same acc) refused)
same_next done before after last a b (NextRound x r round h acc begins is) (NextBad bad g refused is2) = absurd (let e = sym h ∙ g in cc)
same_next done before after last a b (NextRound x r round h acc begins is) (NoNext g none is2) = absurd (let e = sym h ∙ g in cc)
same_next done before after last a b (NextRefused y q fault g refused is2) (NextRound x r round h acc begins is) =
    let same : x ≡ y = (let e = sym h ∙ g in cc) in
    let s = state_after (plans_of done) before in
    absurd (not_refused s y fault (subst (λ z. refusal_of s z ≡ None) same acc) refused)
same_next done before after last a b (NextRefused x r fault h refused is) (NextRefused y q cause g refused2 is2) =
    let same : x ≡ y = (let e = sym h ∙ g in cc) in
    let s = state_after (plans_of done) before in
    let f : fault ≡ cause = (let e = sym refused ∙ ap (change_stop s) same ∙ refused2 in cc) in
    is ∙ ap (λ c. Stops (record { number = length before + 1; cause = c })) f ∙ sym is2
same_next done before after last a b (NextRefused x r fault h refused is) (NextBad bad g none is2) = absurd (let e = sym h ∙ g in cc)
same_next done before after last a b (NextRefused x r fault h refused is) (NoNext g none is2) = absurd (let e = sym h ∙ g in cc)
same_next done before after last a b (NextBad bad g none is2) (NextRound x r round h acc begins is) = absurd (let e = sym h ∙ g in cc)
same_next done before after last a b (NextBad bad g none is2) (NextRefused x r fault h refused is) = absurd (let e = sym h ∙ g in cc)
same_next done before after last a b (NextBad bad h refused is) (NextBad other g refused2 is2) =
    let same : bad ≡ other = (let e = sym refused ∙ refused2 in cc) in
    is ∙ ap (λ (r : Refused). Stops (record { number = r.number; cause = InItself r.cause })) same ∙ sym is2
same_next done before after last a b (NextBad bad h refused is) (NoNext g none is2) = absurd (let e = sym refused ∙ none in cc)
same_next done before after last a b (NoNext g none is2) (NextRound x r round h acc begins is) = absurd (let e = sym h ∙ g in cc)
same_next done before after last a b (NoNext g none is2) (NextRefused x r fault h refused is) = absurd (let e = sym h ∙ g in cc)
same_next done before after last a b (NoNext g none is2) (NextBad bad h refused is) = absurd (let e = sym refused ∙ none in cc)
same_next done before after last a b (NoNext h none is) (NoNext g none2 is2) = is ∙ sym is2

-- a day's text has one list of entries and one stop
abbrev pub IsOneReading : Type 0
IsOneReading = (text : List ℕ) (entries others : List Entry) (stop other : Option Refused) → IsDayOf text entries stop → IsDayOf text others other → (entries ≡ others) × (stop ≡ other)

-- the dossier belongs to the round that comes next
pub record NextBelongs (done : List Dossier) (d : Dossier) (what : Coming) : Type 0 where
  pub round : Round
  pub is : what ≡ Begins round
  pub belongs : BelongsToRound (handed_behind [] done) round d

module _ (laws : DayLaws) (one_reading : IsOneReading) where
  -- nothing comes next before entries that are taken, to whose rounds the dossiers belong
  not_before : (done : List Dossier) (before after m : List Entry) (x : Entry) (last : Option Refused) (what : Coming) → IsNext done before after last what → after ≡ x ∷ m
      → (back : List Entry) → AreTaken (start_with (plans_of done)) (before ++ x ∷ back) → BelongToRounds [] (rounds_of (plans_of done) before) done
      → BelongToRounds [] (rounds_of (plans_of done) (before ++ x ∷ back)) done → ⊥
  not_before done before after m x last what (NextRound y r round h acc begins is) e back taken belong all =
      let plans = plans_of done in
      let same : y ≡ x = (let f = sym h ∙ e in cc) in
      let s = state_after plans before in
      let here : round_at s x ≡ round ∷ [] = subst (λ z. round_at s z ≡ round ∷ []) same begins in
      let a = ap length (laws.appended plans before (x ∷ back)) in
      let n = length-append (rounds_of plans before) (round_at s x ++ rounds_from (after_entry s x) back) in
      let k = length-append (round_at s x) (rounds_from (after_entry s x) back) in
      let j = ap length here in
      let p = plans_known laws plans before done belong in
      let q = plans_known laws plans (before ++ x ∷ back) done all in
      let c = laws.count plans before in
      let d = laws.count plans (before ++ x ∷ back) in
      omega (arith, a, n, k, j, p, q, c, d)
  not_before done before after m x last what (NextRefused y r fault h refused is) e back taken belong all =
      let same : y ≡ x = (let f = sym h ∙ e in cc) in
      let s = state_after (plans_of done) before in
      not_refused s x fault (taken_at (plans_of done) before back x taken) (subst (λ z. change_stop s z ≡ Some fault) same refused)
  not_before done before after m x last what (NextBad bad h refused is) e back taken belong all = let f = sym h ∙ e in cc
  not_before done before after m x last what (NoNext h none is) e back taken belong all = let f = sym h ∙ e in cc

  -- the rest behind the shorter front
  rest_is : {X : Type 0} (xs ys m a b : List X) → xs ++ a ≡ ys ++ b → xs ≡ ys ++ m → b ≡ m ++ a
  rest_is xs ys m a b e f = sym (append_cancel_left ys (m ++ a) b (sym (append_assoc ys m a) ∙ ap (λ z. z ++ a) (sym f) ∙ e))

  pub one_next : (text : List ℕ) (done : List Dossier) (a b : Coming) → Comes text done a → Comes text done b → a ≡ b
  one_next text done a b p q = elim (front_of p.before q.before p.after q.after read.0) [
    | inl m ↦ behind m.0 m.1
    | inr m ↦ before m.0 m.1
  ]
    where
      read : (p.before ++ p.after ≡ q.before ++ q.after) × (p.last ≡ q.last)
      read = one_reading text (p.before ++ p.after) (q.before ++ q.after) p.last q.last p.day q.day

      same : p.before ≡ q.before → p.after ≡ q.after → a ≡ b
      same e f = same_next done q.before q.after q.last a b
          (subst (λ l. IsNext done q.before q.after l a) read.1 (subst (λ z. IsNext done q.before z p.last a) f (subst (λ z. IsNext done z p.after p.last a) e p.next))) q.next

      behind : (m : List Entry) → p.before ≡ q.before ++ m → a ≡ b
      behind [] e =
          let f : p.before ≡ q.before = e ∙ append-nil q.before in
          same f (append_cancel_left q.before p.after q.after (ap (λ z. z ++ p.after) (sym f) ∙ read.0))
      behind (x ∷ m) e =
          absurd (not_before done q.before q.after (m ++ p.after) x q.last b q.next (rest_is p.before q.before (x ∷ m) p.after q.after read.0 e) m
          (subst (AreTaken (start_with (plans_of done))) e p.taken) q.belong (subst (λ es. BelongToRounds [] (rounds_of (plans_of done) es) done) e p.belong))

      before : (m : List Entry) → q.before ≡ p.before ++ m → a ≡ b
      before [] e =
          let f : p.before ≡ q.before = sym (append-nil p.before) ∙ sym e in
          same f (append_cancel_left q.before p.after q.after (ap (λ z. z ++ p.after) (sym f) ∙ read.0))
      before (x ∷ m) e =
          absurd (not_before done p.before p.after (m ++ q.after) x p.last a p.next (rest_is q.before p.before (x ∷ m) q.after p.after (sym read.0) e) m
          (subst (AreTaken (start_with (plans_of done))) e q.taken) p.belong (subst (λ es. BelongToRounds [] (rounds_of (plans_of done) es) done) e q.belong))

  -- where more dossiers belong to the day's rounds, the next of them belongs to the round that comes next
  pub next_belongs : (text : List ℕ) (done tail : List Dossier) (d : Dossier) (a b : Coming) → Comes text done a → Comes text (done ++ d ∷ tail) b → NextBelongs done d a
  next_belongs text done tail d a b p q = elim (front_of p.before q.before p.after q.after read.0) [
    | inl m ↦ absurd (fewer m.0 m.1)
    | inr m ↦ more m.0 m.1
  ]
    where
      all : List Dossier
      all = done ++ d ∷ tail

      read : (p.before ++ p.after ≡ q.before ++ q.after) × (p.last ≡ q.last)
      read = one_reading text (p.before ++ p.after) (q.before ++ q.after) p.last q.last p.day q.day

      fewer : (m : List Entry) → p.before ≡ q.before ++ m → ⊥
      fewer m e =
          let x = plans_known laws (plans_of done) p.before done p.belong in
          let y = plans_known laws (plans_of all) q.before all q.belong in
          let l = count_le laws q.before m in
          let f = ap (count_by is_plan) e in
          let n = length-append done (d ∷ tail) in
          omega (arith, x, y, l, f, n)

      known : length (plans_of done) ≡ count_by is_plan p.before
      known = length-map done (λ (x : Dossier). x.plan) ∙ sym (plans_known laws (plans_of done) p.before done p.belong)

      later : List Plan
      later = plans_of (d ∷ tail)

      plans : plans_of all ≡ plans_of done ++ later
      plans = plans_more done (d ∷ tail)

      s : DayState
      s = state_after (plans_of done) p.before

      state : state_after (plans_of all) p.before ≡ record s { plans = later }
      state = ap (λ ps. state_after ps p.before) plans ∙ laws.state (plans_of done) later p.before known

      by : (x : Entry) (m : List Entry) → q.before ≡ p.before ++ x ∷ m → p.after ≡ x ∷ (m ++ q.after) → IsNext done p.before p.after p.last a → NextBelongs done d a
      by x m e f (NextRound y r round h acc begins is) =
          let same : y ≡ x = (let g = sym h ∙ f in cc) in
          let last = state_after (plans_of all) p.before in
          let here : round_at last x ≡ round ∷ [] =
          ap (λ z. round_at z x) state ∙ laws.round s later x ∙ subst (λ z. round_at s z ≡ round ∷ []) same begins in
          let back = rounds_from (after_entry last x) m in
          let rounds : rounds_of (plans_of all) q.before ≡ rounds_of (plans_of done) p.before ++ round ∷ back =
          ap (rounds_of (plans_of all)) e ∙ laws.appended (plans_of all) p.before (x ∷ m)
          ∙ ap (λ rs. rs ++ (round_at last x ++ back)) (ap (λ ps. rounds_of ps p.before) plans ∙ laws.rounds (plans_of done) later p.before known)
          ∙ ap (λ rs. rounds_of (plans_of done) p.before ++ (rs ++ back)) here in
          record {
            round = round;
            is = is;
            belongs = belong_at [] (rounds_of (plans_of done) p.before) back round done tail d p.belong (subst (λ rs. BelongToRounds [] rs all) rounds q.belong);
          }
      by x m e f (NextRefused y r fault h refused is) =
          let same : y ≡ x = (let g = sym h ∙ f in cc) in
          let none = taken_at (plans_of all) p.before m x (subst (AreTaken (start_with (plans_of all))) e q.taken) in
          absurd (not_refused s x fault (sym (laws.refusal s later x) ∙ ap (λ z. refusal_of z x) (sym state) ∙ none) (subst (λ z. change_stop s z ≡ Some fault) same refused))
      by x m e f (NextBad bad h refused is) = absurd (let g = sym h ∙ f in cc)
      by x m e f (NoNext h none is) = absurd (let g = sym h ∙ f in cc)

      more : (m : List Entry) → q.before ≡ p.before ++ m → NextBelongs done d a
      more [] e = absurd (
          let x = plans_known laws (plans_of done) p.before done p.belong in
          let y = plans_known laws (plans_of all) q.before all q.belong in
          let f = ap (count_by is_plan) (e ∙ append-nil p.before) in
          let n = length-append done (d ∷ tail) in
          omega (arith, x, y, f, n)
          )
      more (x ∷ m) e = by x m e (rest_is q.before p.before (x ∷ m) q.after p.after (sym read.0) e) p.next
