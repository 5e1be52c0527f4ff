-- the first of the stops that are told
use Rattle.std.proofs.Common.{◌≡◌, ◌+◌, ◌++◌, ◌∷◌, [], ℕ, List, Option, None, Some, length, refl, ap, subst, ◌∙◌, arith}
use Rattle.std.specs.Prelude.{fold}
use Rattle.day_terms.specs.Days.{IsDayOf}
use Rattle.day_terms.specs.State.{DayState, start}
use Rattle.day_terms.specs.Entries.{after_entry}
use Rattle.day_terms.specs.Refusal.{AreTaken, Refusal, refusal_of}
use Rattle.day_terms.specs.declared.Entry.{Entry}
use Rattle.day_terms.specs.declared.Refused.{Refused}
use Rattle.day_faults.specs.Stops.{stop_by_state, stop_for, stops_among, unless_refused}
use Rattle.day_faults.specs.Days.{StopsFirst, TellsStops, TellsWith, first_stop, stop_in_itself}
use Rattle.day_faults.specs.Days.StopsFirst.{AllTaken, BadRecord, BadEntry}
use Rattle.day_faults.specs.declared.stops.Stop.{Stop}

-- all of the entries are taken, and so none is a stop; or one of them is refused first
data Among (s : DayState) (number : ℕ) (entries : List Entry) : Type 0 where
  AllOf : (taken : AreTaken s entries) (none : stops_among s number entries ≡ []) → Among s number entries
  Stops : (front back : List Entry) (entry : Entry) (parts : entries ≡ front ++ entry ∷ back) (taken : AreTaken s front)
      (refusal : Refusal) (refused : refusal_of (fold after_entry s front) entry ≡ Some refusal) (others : List Stop)
      (is : stops_among s number entries ≡ stop_by_state (length front + number) refusal ∷ others) → Among s number entries

-- the stops of an entry and those behind it, by the refusal of the entry
stops_at : (s : DayState) (number : ℕ) (entry : Entry) (entries : List Entry) (r : Option Refusal) → refusal_of s entry ≡ r
    → stops_among s number (entry ∷ entries) ≡ stop_for number r ++ stops_among (unless_refused r s (after_entry s entry)) (number + 1) entries
stops_at s number entry entries r e = ap (λ q. stop_for number q ++ stops_among (unless_refused q s (after_entry s entry)) (number + 1) entries) e

-- one entry more in front, which is taken
taken_more : (s : DayState) (number : ℕ) (entry : Entry) (entries : List Entry) → refusal_of s entry ≡ None → Among (after_entry s entry) (number + 1) entries → Among s number (entry ∷ entries)
taken_more s number entry entries e (AllOf taken none) = AllOf (e, taken) (stops_at s number entry entries None e ∙ none)
taken_more s number entry entries e (Stops front back last parts taken refusal refused others is) =
    let n : length front + (number + 1) ≡ length (entry ∷ front) + number = omega arith in
    Stops (entry ∷ front) back last (ap (λ es. entry ∷ es) parts) (e, taken) refusal refused others
    (stops_at s number entry entries None e ∙ is ∙ ap (λ k. stop_by_state k refusal ∷ others) n)

-- one entry more in front, which is taken or refused
more : (s : DayState) (number : ℕ) (entry : Entry) (entries : List Entry) → Among (after_entry s entry) (number + 1) entries → (r : Option Refusal) → refusal_of s entry ≡ r
    → Among s number (entry ∷ entries)
more s number entry entries behind None e = taken_more s number entry entries e behind
more s number entry entries behind (Some refusal) e =
    let n : number ≡ length {A = Entry} [] + number = omega arith in
    Stops [] entries entry refl tt refusal e (stops_among s (number + 1) entries)
    (stops_at s number entry entries (Some refusal) e ∙ ap (λ k. stop_by_state k refusal ∷ stops_among s (number + 1) entries) n)

among : (s : DayState) (number : ℕ) (entries : List Entry) → Among s number entries
among s number [] = AllOf tt refl
among s number (entry ∷ entries) = more s number entry entries (among (after_entry s entry) (number + 1) entries) (refusal_of s entry) refl

first_at : (text : List ℕ) (told : List Stop) (entries : List Entry) (stop : Option Refused) → IsDayOf text entries stop → Among start 1 entries
    → TellsWith stop (stops_among start 1 entries) told → StopsFirst text (first_stop told)
first_at text told entries None day (AllOf taken none) tells = AllTaken entries day taken (ap first_stop (tells ∙ none))
first_at text told entries (Some bad) day (AllOf taken none) tells =
    BadRecord entries bad day taken (ap first_stop (tells.1 ∙ ap (λ stops. stops ++ stop_in_itself bad ∷ tells.0) none))
first_at text told entries None day (Stops front back entry parts taken refusal refused others is) tells =
    BadEntry front back entry None (subst (λ es. IsDayOf text es None) parts day) taken refusal refused (ap first_stop (tells ∙ is))
first_at text told entries (Some bad) day (Stops front back entry parts taken refusal refused others is) tells =
    BadEntry front back entry (Some bad) (subst (λ es. IsDayOf text es (Some bad)) parts day) taken refusal refused
    (ap first_stop (tells.1 ∙ ap (λ stops. stops ++ stop_in_itself bad ∷ tells.0) is))

-- where the stops of a day are told, the first is that at which the commands over the day stop
pub stops_first : (text : List ℕ) (told : List Stop) → TellsStops text told → StopsFirst text (first_stop told)
stops_first text told t = first_at text told t.entries t.stop t.day (among start 1 t.entries) t.tells
