-- a day's entries, one after another
use Rattle.std.proofs.Common.{◌≡◌, ◌↔◌, ◌+◌, ◌++◌, ◌∷◌, [], ℕ, zero, suc, List, Option, None, Some, length, slice_get, take, ap, subst, sym, refl, ◌∙◌, append_assoc, append-nil}
use Rattle.std.specs.List.{fold}
use Rattle.std.proofs.lemmas.List.Sums.{fold-append}
use Rattle.std.proofs.lemmas.List.Concat.{flat_map-append}
use Rattle.crew_terms.specs.Plan.{Plan}
use Rattle.dossier_terms.specs.Lines.{instance_text}
use Rattle.day_terms.specs.declared.Entry.{Entry}
use Rattle.day_terms.specs.declared.Refused.{Refused}
use Rattle.day_terms.specs.Days.{IsDayOf}
use Rattle.day_terms.specs.State.{DayState, start_with}
use Rattle.day_terms.specs.Entries.{after_entry, state_after}
use Rattle.day_terms.specs.Refusal.{AreTaken, Refusal, refusal_of}
use Rattle.day_terms.specs.Rounds.{Round, round_at, rounds_from, rounds_of}
use Rattle.day_commands.specs.declared.refused.DayFault.{DayFault}
use Rattle.day_commands.specs.declared.refused.DayFault.TheVariants.{InItself, Change}
use Rattle.flight_changes.specs.Faults.{fault_of}
use Rattle.std.specs.Prelude.{option_map}
use Rattle.day_commands.specs.Instances.{rounds_text}
use Rattle.day_commands.specs.Rounds.{Stops, AreTakenBy, DayStop, ComesTo, AllTaken, BadRecord, BadEntry, change_stop}

-- the text of a round's instance
abbrev pub round_text : Round → List ℕ
round_text r = instance_text r.instance r.nodes

-- the state after entries, from a state on
abbrev pub after_all : DayState → List Entry → DayState
after_all s entries = fold after_entry s entries

pub state_more : (plans : List Plan) (entries : List Entry) (entry : Entry) → state_after plans (entries ++ entry ∷ []) ≡ after_entry (state_after plans entries) entry
state_more plans entries entry = fold-append after_entry (start_with plans) entries (entry ∷ [])

rounds_more_from : (s : DayState) (entries : List Entry) (entry : Entry) → rounds_from s (entries ++ entry ∷ []) ≡ rounds_from s entries ++ round_at (after_all s entries) entry
rounds_more_from s [] entry = append-nil (round_at s entry)
rounds_more_from s (x ∷ xs) entry =
    ap (λ r. round_at s x ++ r) (rounds_more_from (after_entry s x) xs entry)
    ∙ sym (append_assoc (round_at s x) (rounds_from (after_entry s x) xs) (round_at (after_all (after_entry s x) xs) entry))

pub rounds_more : (plans : List Plan) (entries : List Entry) (entry : Entry) → rounds_of plans (entries ++ entry ∷ []) ≡ rounds_of plans entries ++ round_at (state_after plans entries) entry
rounds_more plans entries entry = rounds_more_from (start_with plans) entries entry

pub instances_more : (rounds more : List Round) → rounds_text (rounds ++ more) ≡ rounds_text rounds ++ rounds_text more
instances_more rounds more = flat_map-append round_text rounds more

-- ---- what the day's state takes

none_told : (told : Option Refusal) → option_map (λ refusal. Change (fault_of refusal)) told ≡ None → told ≡ None
none_told None e = refl
none_told (Some t) e = absurd (cc)

state_takes : (s : DayState) (entries : List Entry) → AreTaken s entries → AreTakenBy change_stop s entries
state_takes s [] taken = tt
state_takes s (x ∷ xs) taken = (ap (λ told. option_map (λ refusal. Change (fault_of refusal)) told) taken.0, state_takes (after_entry s x) xs taken.1)

taken_by_state : (s : DayState) (entries : List Entry) → AreTakenBy change_stop s entries → AreTaken s entries
taken_by_state s [] taken = tt
taken_by_state s (x ∷ xs) taken = (none_told (refusal_of s x) taken.0, taken_by_state (after_entry s x) xs taken.1)

pub state_takes_entries : (plans : List Plan) (entries : List Entry) → AreTakenBy change_stop (start_with plans) entries ↔ AreTaken (start_with plans) entries
state_takes_entries plans entries = (taken_by_state (start_with plans) entries, state_takes (start_with plans) entries)

-- a day's text has one list of entries and one stop
abbrev IsOneReading : Type 0
IsOneReading = (text : List ℕ) (entries others : List Entry) (stop other : Option Refused) → IsDayOf text entries stop → IsDayOf text others other → (entries ≡ others) × (stop ≡ other)

-- what a day comes to, whose first rounds are these
pub record GoesOn (stops : Stops) (plans : List Plan) (text : List ℕ) (first : List Round) : Type 0 where
  pub rest : List Round
  pub stop : Option DayStop
  pub comes_to : ComesTo stops plans text (first ++ rest) stop

-- ---- where entries are taken

module _ (stops : Stops) where
  taken_from : (s : DayState) (entries : List Entry) (entry : Entry) → AreTakenBy stops s entries → stops (after_all s entries) entry ≡ None → AreTakenBy stops s (entries ++ entry ∷ [])
  taken_from s [] entry taken e = (e, tt)
  taken_from s (x ∷ xs) entry taken e = (taken.0, taken_from (after_entry s x) xs entry taken.1 e)

  pub taken_more : (plans : List Plan) (entries : List Entry) (entry : Entry) → AreTakenBy stops (start_with plans) entries → stops (state_after plans entries) entry ≡ None
      → AreTakenBy stops (start_with plans) (entries ++ entry ∷ [])
  taken_more plans entries entry taken e = taken_from (start_with plans) entries entry taken e

  taken_within : (s : DayState) (front back : List Entry) (entry : Entry) → AreTakenBy stops s (front ++ entry ∷ back) → stops (after_all s front) entry ≡ None
  taken_within s [] back entry taken = taken.0
  taken_within s (x ∷ xs) back entry taken = taken_within (after_entry s x) xs back entry taken.1

  -- each of the entries is taken in the state that those before it come to, from a state on
  abbrev IsEachTaken : DayState → List Entry → Type 0
  IsEachTaken s entries = (n : ℕ) (entry : Entry) → slice_get entries n ≡ Some entry → stops (after_all s (take n entries)) entry ≡ None

  each_taken : (s : DayState) (entries : List Entry) → AreTakenBy stops s entries → IsEachTaken s entries
  each_taken s [] taken n entry e = absurd (cc)
  each_taken s (x ∷ xs) taken zero entry e = let same : x ≡ entry = cc in subst (λ y. stops s y ≡ None) same taken.0
  each_taken s (x ∷ xs) taken (suc n) entry e = each_taken (after_entry s x) xs taken.1 n entry e

  all_taken : (s : DayState) (entries : List Entry) → IsEachTaken s entries → AreTakenBy stops s entries
  all_taken s [] each = tt
  all_taken s (x ∷ xs) each = (each 0 x refl, all_taken (after_entry s x) xs (λ n entry e. each (suc n) entry e))

  pub taken_in_turn : (plans : List Plan) (entries : List Entry) → AreTakenBy stops (start_with plans) entries ↔ IsEachTaken (start_with plans) entries
  taken_in_turn plans entries = (each_taken (start_with plans) entries, all_taken (start_with plans) entries)

  -- behind entries that are taken, a day comes to something
  pub goes_on : (plans : List Plan) (text : List ℕ) (front back : List Entry) (last : Option Refused) → IsDayOf text (front ++ back) last → AreTakenBy stops (start_with plans) front → GoesOn stops plans text (rounds_of plans front)
  goes_on plans text front [] None day taken = record {
    rest = [];
    stop = None;
    comes_to = AllTaken front (subst (λ es. IsDayOf text es None) (append-nil front) day) taken (append-nil (rounds_of plans front)) refl;
  }
  goes_on plans text front [] (Some refused) day taken = record {
    rest = [];
    stop = Some (record { number = refused.number; cause = InItself refused.cause });
    comes_to = BadRecord front refused (subst (λ es. IsDayOf text es (Some refused)) (append-nil front) day) taken (append-nil (rounds_of plans front)) refl;
  }
  goes_on plans text front (entry ∷ back) last day taken =
      by (stops (state_after plans front) entry) refl
      (λ e. goes_on plans text (front ++ entry ∷ []) back last (subst (λ es. IsDayOf text es last) (sym (append_assoc front (entry ∷ []) back)) day) (taken_more plans front entry taken e))
    where
      by : (told : Option DayFault) → stops (state_after plans front) entry ≡ told → (stops (state_after plans front) entry ≡ None → GoesOn stops plans text (rounds_of plans (front ++ entry ∷ []))) → GoesOn stops plans text (rounds_of plans front)
      by (Some fault) e more = record {
        rest = [];
        stop = Some (record { number = length front + 1; cause = fault });
        comes_to = BadEntry front back entry last day taken fault e (append-nil (rounds_of plans front)) refl;
      }
      by None e more =
          let g = more e in
          record {
            rest = round_at (state_after plans front) entry ++ g.rest;
            stop = g.stop;
            comes_to = subst (λ rs. ComesTo stops plans text rs g.stop) (ap (λ rs. rs ++ g.rest) (rounds_more plans front entry) ∙ append_assoc (rounds_of plans front) (round_at (state_after plans front) entry) g.rest) g.comes_to;
          }

  -- the entries before the first that is stopped, and why, are the same
  same_stop : (s : DayState) (xs ys back behind : List Entry) (x y : Entry) (r q : DayFault) → xs ++ x ∷ back ≡ ys ++ y ∷ behind → AreTakenBy stops s xs → AreTakenBy stops s ys
      → stops (after_all s xs) x ≡ Some r → stops (after_all s ys) y ≡ Some q → (xs ≡ ys) × (r ≡ q)
  same_stop s [] [] back behind x y r q e t u f g =
      let same : x ≡ y = cc in
      let h : stops s y ≡ Some r = subst (λ z. stops s z ≡ Some r) same f in
      (refl, (let k = sym h ∙ g in cc))
  same_stop s [] (b ∷ ys) back behind x y r q e t u f g =
      let same : x ≡ b = cc in
      let h : stops s b ≡ Some r = subst (λ z. stops s z ≡ Some r) same f in
      absurd (let k = sym h ∙ u.0 in cc)
  same_stop s (a ∷ xs) [] back behind x y r q e t u f g =
      let same : y ≡ a = cc in
      let h : stops s a ≡ Some q = subst (λ z. stops s z ≡ Some q) same g in
      absurd (let k = sym h ∙ t.0 in cc)
  same_stop s (a ∷ xs) (b ∷ ys) back behind x y r q e t u f g =
      let same : b ≡ a = cc in
      let tails : xs ++ x ∷ back ≡ ys ++ y ∷ behind = cc in
      let p = same_stop (after_entry s a) xs ys back behind x y r q tails t.1 (subst (λ z. AreTakenBy stops (after_entry s z) ys) same u.1) f (subst (λ z. stops (after_all (after_entry s z) ys) y ≡ Some q) same g) in
      (ap (λ l. a ∷ l) p.0 ∙ ap (λ z. z ∷ ys) (sym same), p.1)

  -- an entry that is stopped is not among those that are taken
  not_taken : (plans : List Plan) (entries front back : List Entry) (entry : Entry) (fault : DayFault) → entries ≡ front ++ entry ∷ back → AreTakenBy stops (start_with plans) entries → stops (state_after plans front) entry ≡ Some fault → ⊥
  not_taken plans entries front back entry fault e taken refused =
      let t = taken_within (start_with plans) front back entry (subst (AreTakenBy stops (start_with plans)) e taken) in
      let k = sym refused ∙ t in cc

  pub one_coming : IsOneReading → (plans : List Plan) (text : List ℕ) (rounds others : List Round) (stop other : Option DayStop) → ComesTo stops plans text rounds stop → ComesTo stops plans text others other → (rounds ≡ others) × (stop ≡ other)
  one_coming law plans text rounds others stop other (AllTaken entries day taken are is) (AllTaken entries2 day2 taken2 are2 is2) =
      let l = law text entries entries2 None None day day2 in
      (are ∙ ap (rounds_of plans) l.0 ∙ sym are2, is ∙ sym is2)
  one_coming law plans text rounds others stop other (AllTaken entries day taken are is) (BadRecord entries2 refused2 day2 taken2 are2 is2) =
      let l = law text entries entries2 None (Some refused2) day day2 in absurd (let e = l.1 in cc)
  one_coming law plans text rounds others stop other (AllTaken entries day taken are is) (BadEntry front2 back2 entry2 later2 day2 taken2 fault2 refused2 are2 is2) =
      let l = law text entries (front2 ++ entry2 ∷ back2) None later2 day day2 in absurd (not_taken plans entries front2 back2 entry2 fault2 l.0 taken refused2)
  one_coming law plans text rounds others stop other (BadRecord entries refused day taken are is) (AllTaken entries2 day2 taken2 are2 is2) =
      let l = law text entries entries2 (Some refused) None day day2 in absurd (let e = l.1 in cc)
  one_coming law plans text rounds others stop other (BadRecord entries refused day taken are is) (BadRecord entries2 refused2 day2 taken2 are2 is2) =
      let l = law text entries entries2 (Some refused) (Some refused2) day day2 in
      let same : refused ≡ refused2 = (let e = l.1 in cc) in
      (are ∙ ap (rounds_of plans) l.0 ∙ sym are2, is ∙ ap (λ r. Some (record { number = r.number; cause = InItself r.cause })) same ∙ sym is2)
  one_coming law plans text rounds others stop other (BadRecord entries refused day taken are is) (BadEntry front2 back2 entry2 later2 day2 taken2 fault2 refused2 are2 is2) =
      let l = law text entries (front2 ++ entry2 ∷ back2) (Some refused) later2 day day2 in absurd (not_taken plans entries front2 back2 entry2 fault2 l.0 taken refused2)
  one_coming law plans text rounds others stop other (BadEntry front back entry later day taken fault refused are is) (AllTaken entries2 day2 taken2 are2 is2) =
      let l = law text entries2 (front ++ entry ∷ back) None later day2 day in absurd (not_taken plans entries2 front back entry fault l.0 taken2 refused)
  one_coming law plans text rounds others stop other (BadEntry front back entry later day taken fault refused are is) (BadRecord entries2 refused2 day2 taken2 are2 is2) =
      let l = law text entries2 (front ++ entry ∷ back) (Some refused2) later day2 day in absurd (not_taken plans entries2 front back entry fault l.0 taken2 refused)
  one_coming law plans text rounds others stop other (BadEntry front back entry later day taken fault refused are is) (BadEntry front2 back2 entry2 later2 day2 taken2 fault2 refused2 are2 is2) =
      let l = law text (front ++ entry ∷ back) (front2 ++ entry2 ∷ back2) later later2 day day2 in
      let p = same_stop (start_with plans) front front2 back back2 entry entry2 fault fault2 l.0 taken taken2 refused refused2 in (
        are ∙ ap (rounds_of plans) p.0 ∙ sym are2,
        is ∙ ap (λ (f : List Entry). Some (record { number = length f + 1; cause = fault })) p.0 ∙ ap (λ r. Some (record { number = length front2 + 1; cause = r })) p.1 ∙ sym is2,
      )

-- ---- plans of later rounds

-- what the day's state takes does not depend on them
pub stop_same : ((s : DayState) (plans : List Plan) (entry : Entry) → refusal_of (record s { plans = plans }) entry ≡ refusal_of s entry)
    → (s : DayState) (plans : List Plan) (entry : Entry) → change_stop (record s { plans = plans }) entry ≡ change_stop s entry
stop_same law s plans entry = ap (λ told. option_map (λ refusal. Change (fault_of refusal)) told) (law s plans entry)
