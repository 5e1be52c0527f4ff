-- fields that are good, and the first that is not
use Rattle.std.proofs.Common.{◌≡◌, ◌<◌, ◌+◌, ◌↔◌, inl, inr, ℕ, zero, suc, List, [], ◌∷◌, refl, sym, subst, arith}
use Rattle.std.proofs.lemmas.Option.{same_Some}
use Rattle.crew_terms.specs.Words.{Words}
use Rattle.field_table.specs.declared.fields.FieldFault.{FieldFault}
use Rattle.day_terms.specs.Records.{field_of}
use Rattle.day_terms.specs.Forms.{Slot, Value, Maker}
use Rattle.day_terms.specs.Fields.{Gives, IsBad, AllGive, IsFirstBad}
use Rattle.day_terms.specs.Laws.{HasGood, IsBadAt}
use Rattle.day_terms.specs.declared.Entry.{Entry}

-- the slot's field at this place is good
abbrev Good : Words → Slot → ℕ → Type 0
Good fields s place = (v : Value s) × Gives s (field_of fields place) v

-- of the slots behind the first, whose fields begin a place later
good_later : (s : Slot) (ss : List Slot) (fields : Words) (place k : ℕ) → HasGood (s ∷ ss) fields place (suc k) → HasGood ss fields (place + 1) k
good_later s ss fields place k good t e = let a : place + suc k ≡ (place + 1) + k = omega arith in subst (Good fields t) a (good t e)

good_sooner : (s : Slot) (ss : List Slot) (fields : Words) (place k : ℕ) → HasGood ss fields (place + 1) k → HasGood (s ∷ ss) fields place (suc k)
good_sooner s ss fields place k good t e = let a : (place + 1) + k ≡ place + suc k = omega arith in subst (Good fields t) a (good t e)

good_here : (s : Slot) (ss : List Slot) (fields : Words) (place : ℕ) → Good fields s place → HasGood (s ∷ ss) fields place 0
good_here s ss fields place good t e = let a : place ≡ place + 0 = omega arith in subst (λ u. Good fields u (place + 0)) (same_Some s t e) (subst (Good fields s) a good)

here_good : (s : Slot) (ss : List Slot) (fields : Words) (place : ℕ) → HasGood (s ∷ ss) fields place 0 → Good fields s place
here_good s ss fields place good = let a : place + 0 ≡ place = omega arith in subst (Good fields s) a (good s refl)

each_good : (ss : List Slot) (maker : Maker ss) (fields : Words) (place : ℕ) (entry : Entry) → AllGive ss maker fields place entry → (k : ℕ) → HasGood ss fields place k
each_good [] maker fields place entry all k = λ t e. absurd (cc)
each_good (s ∷ ss) maker fields place entry all zero = good_here s ss fields place (all.0, all.1)
each_good (s ∷ ss) maker fields place entry all (suc k) = good_sooner s ss fields place k (each_good ss (maker all.0) fields (place + 1) entry all.2 k)

entry_of : (ss : List Slot) (maker : Maker ss) (fields : Words) (place : ℕ) → ((k : ℕ) → HasGood ss fields place k) → (entry : Entry) × AllGive ss maker fields place entry
entry_of [] maker fields place good = (maker, refl)
entry_of (s ∷ ss) maker fields place good =
    let here = here_good s ss fields place (good 0) in
    let rest = entry_of ss (maker here.0) fields (place + 1) (λ k. good_later s ss fields place k (good (suc k))) in
    (rest.0, (here.0, here.1, rest.1))

pub entry_where_good : (ss : List Slot) (maker : Maker ss) (fields : Words) (place : ℕ) → ((entry : Entry) × AllGive ss maker fields place entry) ↔ ((k : ℕ) → HasGood ss fields place k)
entry_where_good ss maker fields place = (λ made. each_good ss maker fields place made.0 made.1, entry_of ss maker fields place)

-- ---- the first bad one

good_before : (s : Slot) (ss : List Slot) (fields : Words) (place n : ℕ) → Good fields s place → ((k : ℕ) → k < n → HasGood ss fields (place + 1) k) → (k : ℕ) → k < suc n → HasGood (s ∷ ss) fields place k
good_before s ss fields place n here later zero below = good_here s ss fields place here
good_before s ss fields place n here later (suc k) below = good_sooner s ss fields place k (later k (omega arith))

bad_of : (ss : List Slot) (fields : Words) (place : ℕ) (fault : FieldFault) → IsFirstBad ss fields place fault → (n : ℕ) × IsBadAt ss fields place fault n
bad_of [] fields place fault h = absurd h
bad_of (s ∷ ss) fields place fault (inl h) =
    let a : place ≡ place + 0 = omega arith in (
      0,
      record {
        slot = s;
        slot_is = refl;
        place_is = (let e = h.0 in omega arith);
        bad = subst (λ m. IsBad s (field_of fields m) fault.cause) a h.1;
        good = λ k below. absurd (omega arith);
      },
    )
bad_of (s ∷ ss) fields place fault (inr h) =
    let r = bad_of ss fields (place + 1) fault h.2 in
    let n = r.0 in
    let a : (place + 1) + n ≡ place + suc n = omega arith in (
      suc n,
      record {
        slot = r.1.slot;
        slot_is = r.1.slot_is;
        place_is = (let e = r.1.place_is in omega arith);
        bad = subst (λ m. IsBad r.1.slot (field_of fields m) fault.cause) a r.1.bad;
        good = good_before s ss fields place n (h.0, h.1) r.1.good;
      },
    )

first_of_bad : (ss : List Slot) (fields : Words) (place : ℕ) (fault : FieldFault) (n : ℕ) → IsBadAt ss fields place fault n → IsFirstBad ss fields place fault
first_of_bad [] fields place fault n h = absurd (let e = h.slot_is in cc)
first_of_bad (s ∷ ss) fields place fault zero h =
    let a : place + 0 ≡ place = omega arith in
    inl ((let e = h.place_is in omega arith), subst (λ t. IsBad t (field_of fields place) fault.cause) (sym (same_Some s h.slot h.slot_is)) (subst (λ m. IsBad h.slot (field_of fields m) fault.cause) a h.bad))
first_of_bad (s ∷ ss) fields place fault (suc n) h =
    let here = here_good s ss fields place (h.good 0 (omega arith)) in
    let a : place + suc n ≡ (place + 1) + n = omega arith in
    inr (
      here.0,
      here.1,
      first_of_bad ss fields (place + 1) fault n (record {
        slot = h.slot;
        slot_is = h.slot_is;
        place_is = (let e = h.place_is in omega arith);
        bad = subst (λ m. IsBad h.slot (field_of fields m) fault.cause) a h.bad;
        good = λ k below. good_later s ss fields place k (h.good (suc k) (omega arith));
      }),
    )

pub first_bad : (ss : List Slot) (fields : Words) (place : ℕ) (fault : FieldFault) → IsFirstBad ss fields place fault ↔ ((n : ℕ) × IsBadAt ss fields place fault n)
first_bad ss fields place fault = (bad_of ss fields place fault, λ h. first_of_bad ss fields place fault h.0 h.1)
