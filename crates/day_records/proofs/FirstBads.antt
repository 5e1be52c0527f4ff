-- the first bad field of a record, from the fault of its row
use Rattle.std.proofs.Common.{◌≡◌, ◌≤◌, ◌<◌, ◌+◌, inl, inr, ℕ, zero, suc, ℤ, pos, negsuc, ◌≤ℤ◌, List, [], ◌∷◌, Some, length, take, drop, get_or, refl, sym, subst, ◌∙◌, arith}
use Rattle.std.proofs.lemmas.Int.{ints}
use Rattle.std.specs.Prelude.{slice_get}
use Rattle.std.proofs.Math.Seq.{drop-cons, take-length}
use Rattle.std.proofs.lemmas.Option.{slice_get_within}
use Rattle.crew_terms.specs.Words.{Words}
use Rattle.field_table.specs.Fields.{Accepts, Refuses, AllAccept, IsFirstFault}
use Rattle.field_table.specs.Fields.IsFirstFault.{TooFew, Refused}
use Rattle.field_table.specs.declared.fields.Field.{Field}
use Rattle.field_table.specs.declared.fields.FieldFault.{FieldFault}
use Rattle.day_terms.specs.Forms.{Slot}
use Rattle.day_terms.specs.Forms.Slot.{Named, Ranged, Skilled}
use Rattle.day_terms.specs.Fields.{name_field, IsBad, IsFirstBad}

-- the fields of the slots before a list of skills
abbrev pub fields_in : List Slot → List Field
fields_in [] = []
fields_in (Named ∷ ss) = name_field ∷ fields_in ss
fields_in (Ranged kind low high ∷ ss) = record { low = pos low; high = pos high; kind = kind } ∷ fields_in ss
fields_in (Skilled ∷ ss) = []

few_fields : (ss : List Slot) → length (fields_in ss) ≤ length ss
few_fields [] = omega arith
few_fields (Named ∷ ss) = let h = few_fields ss in omega arith
few_fields (Ranged kind low high ∷ ss) = let h = few_fields ss in omega arith
few_fields (Skilled ∷ ss) = omega arith

natural : (low : ℕ) (z : ℤ) → pos low ≤ℤ z → (n : ℕ) × (z ≡ pos n)
natural low (pos n) h = (n, refl)
natural low (negsuc n) h = absurd (omega (arith, ints))

-- the word at a place is accepted, and those behind it
accept_here : (f : Field) (fs : List Field) (words : Words) (place before : ℕ) (values : List ℤ) → place < length words
    → AllAccept (f ∷ take before fs) (take (suc before) (drop place words)) values
    → (z : ℤ) × (zs : List ℤ) × Accepts f (get_or words place []) z × AllAccept (take before fs) (take before (drop (place + 1) words)) zs
accept_here f fs words place before values within all = go values (subst (λ ws. AllAccept (f ∷ take before fs) (take (suc before) ws) values) (drop-cons words place [] within) all)
  where
    go : (values : List ℤ) → AllAccept (f ∷ take before fs) (get_or words place [] ∷ take before (drop (suc place) words)) values
        → (z : ℤ) × (zs : List ℤ) × Accepts f (get_or words place []) z × AllAccept (take before fs) (take before (drop (place + 1) words)) zs
    go [] h = absurd h
    go (z ∷ zs) h = (z, zs, h.0, subst (λ n. AllAccept (take before fs) (take before (drop n words)) zs) (let e : suc place ≡ place + 1 = omega arith in e) h.1)

own_length : (f : Field) (fs : List Field) (words : Words) (place : ℕ) (values : List ℤ)
    → AllAccept (f ∷ fs) (take (length (f ∷ fs)) (drop place words)) values → AllAccept (f ∷ take (length fs) fs) (take (suc (length fs)) (drop place words)) values
own_length f fs words place values all = subst (λ gs. AllAccept (f ∷ gs) (take (suc (length fs)) (drop place words)) values) (sym (take-length fs)) all

whole : (fs : List Field) (words : Words) (place : ℕ) (values : List ℤ)
    → AllAccept (take (length fs) fs) (take (length fs) (drop place words)) values → AllAccept fs (take (length fs) (drop place words)) values
whole fs words place values all = subst (λ gs. AllAccept gs (take (length fs) (drop place words)) values) (take-length fs) all

bad_at : (ss : List Slot) (words : Words) (place before : ℕ) (fault : FieldFault) (field : Field) (values : List ℤ)
    → fault.place ≡ place + before → place + before < length words → slice_get (fields_in ss) before ≡ Some field
    → Refuses field (get_or words (place + before) []) fault.cause
    → AllAccept (take before (fields_in ss)) (take before (drop place words)) values
    → IsFirstBad ss words place fault
bad_at [] words place before fault field values is within at refused all = cc
bad_at (Skilled ∷ ss) words place before fault field values is within at refused all = cc
bad_at (Named ∷ ss) words place zero fault field values is within at refused all =
    let same : name_field ≡ field = cc in
    let here : place + 0 ≡ place = omega arith in
    inl (is ∙ here, subst (λ f. Refuses f (get_or words place []) fault.cause) (sym same) (subst (λ n. Refuses field (get_or words n []) fault.cause) here refused))
bad_at (Named ∷ ss) words place (suc before) fault field values is within at refused all =
    let (z, zs, here, rest) = accept_here name_field (fields_in ss) words place before values (omega arith) all in
    let next : place + suc before ≡ place + 1 + before = omega arith in
    inr (get_or words place [], (here.spelled.0, refl), bad_at ss words (place + 1) before fault field zs (is ∙ next) (omega arith) at (subst (λ n. Refuses field (get_or words n []) fault.cause) next refused) rest)
bad_at (Ranged kind low high ∷ ss) words place zero fault field values is within at refused all =
    let own : Field = record { low = pos low; high = pos high; kind = kind } in
    let same : own ≡ field = cc in
    let here : place + 0 ≡ place = omega arith in
    inl (is ∙ here, subst (λ f. Refuses f (get_or words place []) fault.cause) (sym same) (subst (λ n. Refuses field (get_or words n []) fault.cause) here refused))
bad_at (Ranged kind low high ∷ ss) words place (suc before) fault field values is within at refused all =
    let own : Field = record { low = pos low; high = pos high; kind = kind } in
    let (z, zs, here, rest) = accept_here own (fields_in ss) words place before values (omega arith) all in
    let (n, e) = natural low z here.low in
    let next : place + suc before ≡ place + 1 + before = omega arith in
    inr (n, subst (Accepts own (get_or words place [])) e here, bad_at ss words (place + 1) before fault field zs (is ∙ next) (omega arith) at (subst (λ n. Refuses field (get_or words n []) fault.cause) next refused) rest)

-- the fault of a record's row is that of its first bad field
pub first_bad : (ss : List Slot) (words : Words) (fault : FieldFault) → length words ≡ length ss + 1 → IsFirstFault (fields_in ss) words fault → IsFirstBad ss words 1 fault
first_bad ss words fault counted (TooFew few is) = let h = few_fields ss in absurd (omega arith)
first_bad ss words fault counted (Refused enough before place field at refused values accepted) =
    let next : before + 1 ≡ 1 + before = omega arith in
    bad_at ss words 1 before fault field values (place ∙ next) (let h = few_fields ss in let w = slice_get_within (fields_in ss) before field at in omega arith) at (subst (λ n. Refuses field (get_or words n []) fault.cause) next refused) accepted

-- the slots end with a list of skills
abbrev pub EndsSkilled : List Slot → Type 0
EndsSkilled [] = ⊥
EndsSkilled (Named ∷ ss) = EndsSkilled ss
EndsSkilled (Ranged kind low high ∷ ss) = EndsSkilled ss
EndsSkilled (Skilled ∷ []) = Unit {0}
EndsSkilled (Skilled ∷ s ∷ ss) = ⊥

-- the fields before a list of skills are good, and the list is bad
pub skills_bad : (ss : List Slot) (words : Words) (place : ℕ) (values : List ℤ) (fault : FieldFault) → EndsSkilled ss → place + length ss ≤ length words
    → AllAccept (fields_in ss) (take (length (fields_in ss)) (drop place words)) values
    → fault.place + 1 ≡ place + length ss → IsBad Skilled (get_or words fault.place []) fault.cause → IsFirstBad ss words place fault
skills_bad [] words place values fault ends within all is bad = absurd ends
skills_bad (Skilled ∷ s ∷ ss) words place values fault ends within all is bad = absurd ends
skills_bad (Skilled ∷ []) words place values fault ends within all is bad =
    let here : fault.place ≡ place = omega arith in
    inl (here, subst (λ n. IsBad Skilled (get_or words n []) fault.cause) here bad)
skills_bad (Named ∷ ss) words place values fault ends within all is bad =
    let (z, zs, here, rest) = accept_here name_field (fields_in ss) words place (length (fields_in ss)) values (omega arith) (own_length name_field (fields_in ss) words place values all) in
    inr (get_or words place [], (here.spelled.0, refl), skills_bad ss words (place + 1) zs fault ends (omega arith) (whole (fields_in ss) words (place + 1) zs rest) (omega arith) bad)
skills_bad (Ranged kind low high ∷ ss) words place values fault ends within all is bad =
    let own : Field = record { low = pos low; high = pos high; kind = kind } in
    let (z, zs, here, rest) = accept_here own (fields_in ss) words place (length (fields_in ss)) values (omega arith) (own_length own (fields_in ss) words place values all) in
    let (n, e) = natural low z here.low in
    inr (n, subst (Accepts own (get_or words place [])) e here, skills_bad ss words (place + 1) zs fault ends (omega arith) (whole (fields_in ss) words (place + 1) zs rest) (omega arith) bad)
