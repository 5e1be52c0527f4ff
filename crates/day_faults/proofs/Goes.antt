-- stops that are told, one record after another
use Rattle.std.proofs.Common.{◌≡◌, ◌<◌, ◌≤◌, ◌+◌, ◌++◌, ◌∷◌, [], ℕ, suc, List, Option, None, Some, length, get_or, drop, refl, sym, ap, ◌∙◌, arith, append_assoc, append-nil, add-one}
use Rattle.std.specs.Prelude.{option_map}
use Rattle.std.proofs.Math.Seq.{drop-cons}
use Rattle.std.proofs.Math.ListN.{drop_of_length-le}
use Rattle.std.proofs.lemmas.List.{map-append}
use Rattle.day_terms.specs.State.{DayState}
use Rattle.day_terms.specs.Entries.{after_entry}
use Rattle.day_terms.specs.Refusal.{Refusal, refusal_of}
use Rattle.day_terms.specs.declared.Entry.{Entry}
use Rattle.day_faults.specs.Stops.{passed, stop_for, stops_among, unless_refused}
use Rattle.day_terms.specs.declared.Refused.{Refused}
use Rattle.day_faults.specs.Days.{GoesOn, TellsWith, stop_in_itself, stops_of}
use Rattle.day_faults.specs.declared.faults.FaultyRecord.{FaultyRecord}
use Rattle.day_faults.specs.declared.stops.Stop.{Stop}
use Rattle.day_faults.specs.declared.stops.StopCause.TheVariants.{Change}
use Rattle.flight_changes.specs.Faults.{fault_of}
use Rattle.flight_changes.specs.declared.faults.ChangeFault.{ChangeFault}

-- with one record more, its stop is the last
pub stop_last : (records : List FaultyRecord) (record_more : FaultyRecord) → stops_of (records ++ record_more ∷ []) ≡ stops_of records ++ record_more.stop ∷ []
stop_last records record_more = map-append (λ (r : FaultyRecord). r.stop) records (record_more ∷ [])

-- the stop of a record with this number that the state refuses so
abbrev pub change_at : ℕ → ChangeFault → Stop
change_at number fault = record { number = number; cause = Change fault }

-- where no fault is told there is no stop
pub none_told : (number : ℕ) (r : Option Refusal) → None ≡ option_map fault_of r → stop_for number r ≡ []
none_told number None e = refl
none_told number (Some refusal) e = absurd (cc)

-- where one is told it is that of the stop
pub some_told : (number : ℕ) (r : Option Refusal) (fault : ChangeFault) → Some fault ≡ option_map fault_of r → stop_for number r ≡ change_at number fault ∷ []
some_told number None fault e = absurd (cc)
some_told number (Some refusal) fault e = let f : fault_of refusal ≡ fault = cc in ap (λ g. change_at number g ∷ []) f

-- an entry that is not refused is passed so
pub passed_taken : (s new : DayState) (entry : Entry) → refusal_of s entry ≡ None → new ≡ after_entry s entry → new ≡ passed s entry
passed_taken s new entry none is = is ∙ ap (λ r. unless_refused r s (after_entry s entry)) (sym none)

-- and one that is refused so
pub passed_refused : (s new : DayState) (entry : Entry) (fault : ChangeFault) → option_map fault_of (refusal_of s entry) ≡ Some fault → new ≡ s → new ≡ passed s entry
passed_refused s new entry fault told is = is ∙ left_out (refusal_of s entry) told where
  left_out : (r : Option Refusal) → option_map fault_of r ≡ Some fault → s ≡ unless_refused r s (after_entry s entry)
  left_out None e = absurd (cc)
  left_out (Some refusal) e = refl

-- one entry more is taken or left out
pub one_more : (old new : List Stop) (s later : DayState) (entries : List Entry) (n : ℕ) (entry : Entry) (all : List Stop) → n < length entries → entry ≡ get_or entries n entry
    → later ≡ passed s entry → new ≡ old ++ stop_for (n + 1) (refusal_of s entry) → old ++ stops_among s (n + 1) (drop n entries) ≡ all
    → new ++ stops_among later (n + 1 + 1) (drop (n + 1) entries) ≡ all
one_more old new s later entries n entry all below is passes tells so_far =
    let rest = drop (n + 1) entries in
    let next : drop n entries ≡ entry ∷ rest = rw add-one (drop-cons entries n entry below ∙ ap (λ e. e ∷ drop (suc n) entries) (sym is)) in
    ap (λ told. told ++ stops_among later (n + 1 + 1) rest) tells
    ∙ ap (λ t. (old ++ stop_for (n + 1) (refusal_of s entry)) ++ stops_among t (n + 1 + 1) rest) passes
    ∙ append_assoc old (stop_for (n + 1) (refusal_of s entry)) (stops_among (passed s entry) (n + 1 + 1) rest)
    ∙ ap (λ es. old ++ stops_among s (n + 1) es) (sym next)
    ∙ so_far

-- behind the last entry all are told
pub all_told : (told : List Stop) (s : DayState) (entries : List Entry) (n : ℕ) (all : List Stop) → length entries ≤ n → told ++ stops_among s (n + 1) (drop n entries) ≡ all → told ≡ all
all_told told s entries n all past so_far =
    sym (append-nil told) ∙ ap (λ es. told ++ stops_among s (n + 1) es) (sym (drop_of_length-le entries past)) ∙ so_far

-- nothing more is told
pub goes_on_none : (told : List Stop) → GoesOn told told
goes_on_none told = record { others = []; is = sym (append-nil told) }

-- these are told
pub goes_on_with : (old new more : List Stop) → new ≡ old ++ more → GoesOn old new
goes_on_with old new more is = record { others = more; is = is }

-- some are told, and then others
pub goes_on_then : (old mid new : List Stop) → GoesOn old mid → GoesOn mid new → GoesOn old new
goes_on_then old mid new a b = record {
  others = a.others ++ b.others;
  is = b.is ∙ ap (λ told. told ++ b.others) a.is ∙ append_assoc old a.others b.others;
}

-- the first stops were told, then that of a record which is refused in itself, and others
pub told_bad : (stops mid new : List Stop) (bad : Refused) → mid ≡ stops → GoesOn (mid ++ stop_in_itself bad ∷ []) new → TellsWith (Some bad) stops new
told_bad stops mid new bad e goes =
    (goes.others, goes.is ∙ ap (λ m. (m ++ stop_in_itself bad ∷ []) ++ goes.others) e ∙ append_assoc stops (stop_in_itself bad ∷ []) goes.others)
