-- the records at which the commands over a day stop, and those that are told first
use Rattle.std.proofs.Common.{◌≡◌, ◌<◌, ◌+◌, ◌++◌, ◌∷◌, ◌↔◌, ◌⊎◌, [], ℕ, List, Option, None, Some, length, refl, ap, sym, ◌∙◌, subst, inl, inr, option_map, arith, append_assoc}
use Rattle.std.specs.Prelude.{fold}
use Rattle.crew_terms.specs.Plan.{Plan}
use Rattle.crew_terms.specs.Words.{Words}
use Rattle.flight_changes.specs.Faults.{fault_of}
use Rattle.day_terms.specs.declared.Entry.{Entry}
use Rattle.day_terms.specs.declared.Refused.{Refused}
use Rattle.day_terms.specs.Days.{IsDayOf, AllGood, StopsAt, SayEntries}
use Rattle.day_terms.specs.State.{DayState, start, start_with}
use Rattle.day_terms.specs.Entries.{after_entry, state_after}
use Rattle.day_terms.specs.Refusal.{AreTaken, Refusal, refusal_of}
use Rattle.day_terms.specs.Rounds.{Round, rounds_of}
use Rattle.day_commands.specs.Rounds.{AreTakenBy, ComesTo, DayStop, change_stop}
use Rattle.day_commands.specs.Rounds.ComesTo.{AllTaken as NoneStops, BadRecord as RecordStops, BadEntry as EntryStops}
use Rattle.day_commands.specs.declared.refused.DayFault.{DayFault}
use Rattle.day_commands.specs.declared.refused.DayFault.TheVariants.{Change}
use Rattle.day_faults.specs.Days.{StopsFirst, stop_in_itself}
use Rattle.day_faults.specs.Days.StopsFirst.{AllTaken, BadRecord, BadEntry}
use Rattle.day_faults.specs.Stops.{stop_by_state}
use Rattle.day_faults.specs.declared.stops.Stop.{Stop}
use Rattle.fault_laws.specs.Told.{StopsForWork, day_stop}
use Rattle.fault_laws.proofs.Free.{NoneForbidden, Refuses, ByLists, ForWork, free, all_free, all_taken_free, not_among, refuses}

-- only the day's state stops an entry
abbrev pub StateTakes : Type 0
StateTakes = (plans : List Plan) (entries : List Entry) → AreTakenBy change_stop (start_with plans) entries ↔ AreTaken (start_with plans) entries

abbrev pub OneComing : Type 0
OneComing = (plans : List Plan) (text : List ℕ) (rounds others : List Round) (stop other : Option DayStop) → ComesTo change_stop plans text rounds stop → ComesTo change_stop plans text others other
    → (rounds ≡ others) × (stop ≡ other)

abbrev pub OneReading : Type 0
OneReading = (text : List ℕ) (entries others : List Entry) (stop other : Option Refused) → IsDayOf text entries stop → IsDayOf text others other → (entries ≡ others) × (stop ≡ other)

-- records say as many entries as they are
abbrev pub SaysAsMany : Type 0
SaysAsMany = (records : List Words) (entries : List Entry) → SayEntries records entries → length records ≡ length entries

-- a refusal, as a command over days names it
abbrev named : Option Refusal → Option DayFault
named told = option_map (λ refusal. Change (fault_of refusal)) told

-- what a day comes to without plans
pub record Comes (text : List ℕ) (stop : Option DayStop) : Type 0 where
  pub rounds : List Round
  pub to : ComesTo change_stop [] text rounds stop

module _ (takes : StateTakes) where
  pub told_comes : (text : List ℕ) (told : Option Stop) → StopsFirst text told → Comes text (option_map day_stop told)
  told_comes text told (AllTaken entries day taken is) = record {
    rounds = rounds_of [] entries;
    to = NoneStops entries day ((takes [] entries).1 taken) refl (ap (option_map day_stop) is);
  }
  told_comes text told (BadRecord entries bad day taken is) = record {
    rounds = rounds_of [] entries;
    to = RecordStops entries bad day ((takes [] entries).1 taken) refl (ap (option_map day_stop) is);
  }
  told_comes text told (BadEntry front back entry later day taken refusal refused is) = record {
    rounds = rounds_of [] front;
    to = EntryStops front back entry later day ((takes [] front).1 taken) (Change (fault_of refusal)) (ap named refused) refl (ap (option_map day_stop) is);
  }

  pub same_stop : OneComing → (text : List ℕ) (told : Option Stop) (rounds : List Round) (stop : Option DayStop) → StopsFirst text told → ComesTo change_stop [] text rounds stop → stop ≡ option_map day_stop told
  same_stop one text told rounds stop first comes =
      let c = told_comes text told first in
      (one [] text rounds c.rounds stop (option_map day_stop told) comes c.to).1

-- the number of the first record that is refused in itself is that behind the entries
number_behind : SaysAsMany → (text : List ℕ) (entries : List Entry) (bad : Refused) → IsDayOf text entries (Some bad) → bad.number ≡ length entries + 1
number_behind many text entries bad (AllGood says is) = absurd (cc)
number_behind many text entries bad (StopsAt front last back parts says cause refused is) =
    let same : bad ≡ record { number = length front + 1; cause = cause } = cc in
    ap (λ (b : Refused). b.number) same ∙ ap (λ n. n + 1) (many front entries says)

length_more : (front : List Entry) (entry : Entry) → length (front ++ entry ∷ []) ≡ length front + 1
length_more [] entry = refl
length_more (x ∷ xs) entry = let n = length_more xs entry in omega arith

taken_one_more : (s : DayState) (front : List Entry) (entry : Entry) → AreTaken s front → refusal_of (fold after_entry s front) entry ≡ None → AreTaken s (front ++ entry ∷ [])
taken_one_more s [] entry taken e = (e, tt)
taken_one_more s (x ∷ xs) entry taken e = (taken.0, taken_one_more (after_entry s x) xs entry taken.1 e)

longer : (front back : List Entry) (entry : Entry) → length front < length (front ++ entry ∷ back)
longer [] back entry = omega arith
longer (x ∷ xs) back entry = let n = longer xs back entry in omega arith

module _ (many : SaysAsMany) (reads : OneReading) where
  -- a fault is told first of a record behind entries that are taken
  pub told_behind : (text : List ℕ) (told : Option Stop) (front back : List Entry) (entry : Entry) (later : Option Refused) → StopsFirst text told → IsDayOf text (front ++ entry ∷ back) later
      → AreTaken start (front ++ entry ∷ []) → (first : Stop) → told ≡ Some first → length front + 1 < first.number
  told_behind text told front back entry later (AllTaken entries day all is) here taken first e = absurd (cc)
  told_behind text told front back entry later (BadRecord entries bad day all is) here taken first e =
      let same : first ≡ stop_in_itself bad = cc in
      let number = number_behind many text entries bad day in
      let entries_are = (reads text entries (front ++ entry ∷ back) (Some bad) later day here).0 in
      let more = longer front back entry in
      let count : first.number ≡ length (front ++ entry ∷ back) + 1 = ap (λ (s : Stop). s.number) same ∙ number ∙ ap (λ (es : List Entry). length es + 1) entries_are in
      omega arith
  told_behind text told front back entry later (BadEntry before others last stop day all refusal refused is) here taken first e =
      let same : first ≡ stop_by_state (length before + 1) refusal = cc in
      let count : first.number ≡ length before + 1 = ap (λ (s : Stop). s.number) same in
      let entries_are = (reads text (front ++ entry ∷ back) (before ++ last ∷ others) later stop here day).0 in
      let within = not_among start (front ++ entry ∷ []) back before others last refusal taken refused (append_assoc front (entry ∷ []) back ∙ entries_are) in
      let n = length_more front entry in
      omega arith

named_so : (told : Option Refusal) (fault : DayFault) → named told ≡ Some fault → (refusal : Refusal) × (told ≡ Some refusal) × (fault ≡ Change (fault_of refusal))
named_so None fault e = absurd (cc)
named_so (Some refusal) fault e = (refusal, refl, cc)

module _ (takes : StateTakes) (many : SaysAsMany) (reads : OneReading) (none_forbidden : NoneForbidden)
    (same : (text : List ℕ) (told : Option Stop) (rounds : List Round) (stop : Option DayStop) → StopsFirst text told → ComesTo change_stop [] text rounds stop → stop ≡ option_map day_stop told) where
  free_taken : (plans : List Plan) (entries : List Entry) → AreTakenBy change_stop (start_with plans) entries → AreTaken start entries
  free_taken plans entries taken = all_taken_free none_forbidden (start_with plans) entries ((takes plans entries).0 taken)

  free_by : (plans : List Plan) (entries : List Entry) → AreTakenBy change_stop (start_with plans) entries → AreTakenBy change_stop (start_with []) entries
  free_by plans entries taken = (takes [] entries).1 (free_taken plans entries taken)

  -- the state behind the entries without plans
  free_after : (plans : List Plan) (front : List Entry) → free (state_after plans front) ≡ state_after [] front
  free_after plans front = sym (all_free (start_with plans) front)

  at_entry : (text : List ℕ) (told : Option Stop) (plans : List Plan) (stop : Option DayStop) (front back : List Entry) (entry : Entry) (later : Option Refused) → StopsFirst text told
      → IsDayOf text (front ++ entry ∷ back) later → AreTakenBy change_stop (start_with plans) front → (refusal : Refusal)
      → stop ≡ Some (record { number = length front + 1; cause = Change (fault_of refusal) }) → Refuses (state_after plans front) entry refusal
      → (stop ≡ option_map day_stop told) ⊎ StopsForWork told stop
  at_entry text told plans stop front back entry later first day taken refusal is (ByLists refused) =
      let here : refusal_of (state_after [] front) entry ≡ Some refusal = subst (λ s. refusal_of s entry ≡ Some refusal) (free_after plans front) refused in
      inl (same text told (rounds_of [] front) stop first
      (EntryStops front back entry later day (free_by plans front taken) (Change (fault_of refusal)) (ap named here) refl is))
  at_entry text told plans stop front back entry later first day taken refusal is (ForWork passes task work) =
      let here : refusal_of (state_after [] front) entry ≡ None = subst (λ s. refusal_of s entry ≡ None) (free_after plans front) passes in
      inr (record {
        number = length front + 1;
        task = task;
        is = is ∙ ap (λ r. Some (record { number = length front + 1; cause = Change (fault_of r) })) work;
        before = told_behind many reads text told front back entry later first day (taken_one_more start front entry (free_taken plans front taken) here);
      })

  pub first_or_work : (text : List ℕ) (told : Option Stop) (plans : List Plan) (rounds : List Round) (stop : Option DayStop) → StopsFirst text told → ComesTo change_stop plans text rounds stop
      → (stop ≡ option_map day_stop told) ⊎ StopsForWork told stop
  first_or_work text told plans rounds stop first (NoneStops entries day taken are is) = inl (same text told (rounds_of [] entries) stop first (NoneStops entries day (free_by plans entries taken) refl is))
  first_or_work text told plans rounds stop first (RecordStops entries bad day taken are is) =
      inl (same text told (rounds_of [] entries) stop first (RecordStops entries bad day (free_by plans entries taken) refl is))
  first_or_work text told plans rounds stop first (EntryStops front back entry later day taken fault refused are is) =
      let t = named_so (refusal_of (state_after plans front) entry) fault refused in
      at_entry text told plans stop front back entry later first day taken t.0
      (is ∙ ap (λ f. Some (record { number = length front + 1; cause = f })) t.2) (refuses none_forbidden (state_after plans front) entry t.0 t.1)

pub none_told : (told : Option Stop) → (None ≡ option_map day_stop told) ⊎ StopsForWork told None → told ≡ None
none_told None e = refl
none_told (Some first) (inl e) = absurd (cc)
none_told (Some first) (inr w) = absurd (let is = w.is in cc)
