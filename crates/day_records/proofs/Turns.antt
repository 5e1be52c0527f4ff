-- the records of a text, in turn
use Rattle.std.proofs.Common.{◌≡◌, ◌≤◌, ◌<◌, ◌+◌, ◌-◌, ◌++◌, inl, inr, ℕ, zero, suc, Bool, true, false, List, [], ◌∷◌, None, Some, length, refl, sym, subst, ap, ◌∙◌, arith, append_assoc, append-nil, length-append}
use Rattle.std.specs.Prelude.{if◌then◌else◌, ◌==◌}
use Rattle.std.proofs.lemmas.Bool.{cases_Bool}
use Rattle.csv.specs.Machine.{Read, next_record, step, is_end, ends_at_end, ends_with, after_end, fields_after, field_after, in_field, start_field, start_record}
use Rattle.csv.specs.Reading.{Reached, default_config, records, records_from, records_next}
use Rattle.csv.specs.declared.parser.Config.{Config}
use Rattle.csv.specs.declared.parser.State.{State}
use Rattle.csv.specs.declared.parser.Action.{Action}
use Rattle.csv.specs.declared.parser.State.TheVariants as st
use Rattle.csv.specs.declared.parser.Action.TheVariants as act
use Rattle.csv.specs.declared.parser.Terminator.TheVariants as term

-- a step that ends a record leads to a state in which the text may end
abbrev IsFine : State × Action → Type 0
IsFine q = is_end q.1 ≡ true → ends_at_end q.0 ≡ false

fine_if : (t : Bool) (x y : State × Action) → IsFine x → IsFine y → IsFine (if t then x else y)
fine_if true x y f g = f
fine_if false x y f g = g

after_fine : (t : Bool) → ends_at_end (if t then st.AfterCr else st.StartRecord) ≡ false
after_fine true = refl
after_fine false = refl

in_field_fine : (c : ℕ) → IsFine (in_field default_config c)
in_field_fine c = fine_if (c == 44) (st.StartField, act.EndField) (if ends_with term.CRLF c then (after_end term.CRLF c, act.EndRecord) else (st.InField, act.Copy)) (λ e. cc)
    (fine_if (ends_with term.CRLF c) (after_end term.CRLF c, act.EndRecord) (st.InField, act.Copy) (λ e. after_fine (c == 13)) (λ e. cc))

start_field_fine : (c : ℕ) → IsFine (start_field default_config c)
start_field_fine c = fine_if (c == 34) (st.InQuoted, act.Skip) (in_field default_config c) (λ e. cc) (in_field_fine c)

start_record_fine : (c : ℕ) → IsFine (start_record default_config c)
start_record_fine c = fine_if (ends_with term.CRLF c) (st.StartRecord, act.Skip) (start_field default_config c) (λ e. cc) (start_field_fine c)

step_fine : (s : State) (c : ℕ) → IsFine (step default_config s c)
step_fine st.StartRecord c = start_record_fine c
step_fine st.StartField c = start_field_fine c
step_fine st.InField c = in_field_fine c
step_fine st.InQuoted c = fine_if (c == 34) (st.AfterQuote, act.Skip) (st.InQuoted, act.Copy) (λ e. cc) (λ e. cc)
step_fine st.AfterQuote c = fine_if (c == 34) (st.InQuoted, act.Copy) (in_field default_config c) (λ e. cc) (in_field_fine c)
step_fine st.InEscape c = λ e. cc
step_fine st.InComment c = fine_if (c == 10) (st.StartRecord, act.Skip) (st.InComment, act.Skip) (λ e. cc) (λ e. cc)
step_fine st.AfterCr c = fine_if (c == 10) (st.StartRecord, act.Skip) (start_record default_config c) (λ e. cc) (start_record_fine c)

-- a record leaves no more bytes than there were, and a state in which the text may end
record IsShorter (xs : List ℕ) (p : Read) : Type 0 where
  bytes : length p.2 ≤ length xs
  state : ends_at_end p.1 ≡ false

shorter_some : (xs : List ℕ) (q p : Read) → Some q ≡ Some p → IsShorter xs q → IsShorter xs p
shorter_some xs q p e h = subst (IsShorter xs) (let f : q ≡ p = cc in f) h

shorter : (s : State) (fields : List (List ℕ)) (field xs : List ℕ) (p : Read) → next_record default_config s fields field xs ≡ Some p → IsShorter xs p
unfolding next_record
shorter s fields field [] p e = elim (cases_Bool (ends_at_end s)) [
  | inl t ↦ shorter_some [] (fields ++ (field ∷ []), st.StartRecord, []) p (rw t at e) (record { bytes = omega arith; state = refl })
  | inr f ↦ absurd (let h = rw f at e in cc)
]
shorter s fields field (c ∷ rest) p e = elim (cases_Bool (is_end (step default_config s c).1)) [
  | inl t ↦ shorter_some (c ∷ rest) (fields_after (step default_config s c).1 fields field, (step default_config s c).0, rest) p (rw t at e) (record { bytes = omega arith; state = step_fine s c t })
  | inr f ↦
      let h = shorter (step default_config s c).0 (fields_after (step default_config s c).1 fields field) (field_after (step default_config s c).1 c field) rest p (rw f at e) in
      record { bytes = let b = h.bytes in omega arith; state = h.state }
]

-- the first byte of a record is taken
shorter_step : (s : State) (fields : List (List ℕ)) (field : List ℕ) (c : ℕ) (rest : List ℕ) (p : Read) → next_record default_config s fields field (c ∷ rest) ≡ Some p → IsShorter rest p
unfolding next_record
shorter_step s fields field c rest p e = elim (cases_Bool (is_end (step default_config s c).1)) [
  | inl t ↦ shorter_some rest (fields_after (step default_config s c).1 fields field, (step default_config s c).0, rest) p (rw t at e) (record { bytes = omega arith; state = step_fine s c t })
  | inr f ↦ shorter (step default_config s c).0 (fields_after (step default_config s c).1 fields field) (field_after (step default_config s c).1 c field) rest p (rw f at e)
]

none_at_end : (s : State) (p : Read) → ends_at_end s ≡ false → next_record default_config s [] [] [] ≡ Some p → ⊥
unfolding next_record
none_at_end s p f e = let h = rw f at e in cc

-- as many records as bytes at most
few : (s s2 : State) (xs ys : List ℕ) (rows : List (List (List ℕ))) → ends_at_end s ≡ false → Reached default_config s xs rows s2 ys → length rows ≤ length xs
unfolding Reached
few s s2 xs ys [] f r = omega arith
few s s2 [] ys (row ∷ rows) f (p, e, is, rest) = absurd (none_at_end s p f e)
few s s2 (c ∷ xs) ys (row ∷ rows) f (p, e, is, rest) =
    let h = shorter_step s [] [] c xs p e in
    let n = few p.1 s2 p.2 ys rows h.state rest in
    let b = h.bytes in
    omega arith

-- the records that were reached are the first ones
front : (cfg : Config) (n : ℕ) (s s2 : State) (xs ys : List ℕ) (rows : List (List (List ℕ))) → length rows ≤ n → Reached cfg s xs rows s2 ys
    → records_from cfg n s xs ≡ rows ++ records_from cfg (n - length rows) s2 ys
unfolding Reached records_from
front cfg n s s2 xs ys [] h r =
    let e : n - 0 ≡ n = omega arith in
    ap (λ t. records_from cfg n t xs) r.0 ∙ ap (records_from cfg n s2) r.1 ∙ ap (λ k. records_from cfg k s2 ys) (sym e)
front cfg zero s s2 xs ys (row ∷ rows) h r = absurd (omega arith)
front cfg (suc n) s s2 xs ys (row ∷ rows) h (p, e, is, rest) =
    let k : n - length rows ≡ suc n - length (row ∷ rows) = omega arith in
    ap (records_next (records_from cfg n)) e
    ∙ ap (λ zs. p.0 ∷ zs) (front cfg n p.1 s2 p.2 ys rows (omega arith) rest)
    ∙ ap (λ r. r ∷ (rows ++ records_from cfg (n - length rows) s2 ys)) (sym is)
    ∙ ap (λ k. row ∷ (rows ++ records_from cfg k s2 ys)) k

none_from : (cfg : Config) (n : ℕ) (s : State) (xs : List ℕ) → next_record cfg s [] [] xs ≡ None → records_from cfg n s xs ≡ []
unfolding records_from
none_from cfg zero s xs e = refl
none_from cfg (suc n) s xs e = ap (records_next (records_from cfg n)) e

-- all the records of a text
pub all_records : (xs ys : List ℕ) (s : State) (rows : List (List (List ℕ))) → Reached default_config st.StartRecord xs rows s ys → next_record default_config s [] [] ys ≡ None
    → records default_config xs ≡ rows
all_records xs ys s rows r none =
    let h = few st.StartRecord s xs ys rows refl r in
    front default_config (length xs + 1) st.StartRecord s xs ys rows (omega arith) r
    ∙ ap (λ zs. rows ++ zs) (none_from default_config (length xs + 1 - length rows) s ys none) ∙ append-nil rows

-- the records of a text up to one of them, and the others
pub first_records : (xs ys : List ℕ) (s : State) (rows : List (List (List ℕ))) (last : List (List ℕ)) → Reached default_config st.StartRecord xs (rows ++ last ∷ []) s ys
    → (back : List (List (List ℕ))) × (records default_config xs ≡ rows ++ last ∷ back)
first_records xs ys s rows last r =
    let h = few st.StartRecord s xs ys (rows ++ last ∷ []) refl r in
    let back = records_from default_config (length xs + 1 - length (rows ++ last ∷ [])) s ys in
    (back, front default_config (length xs + 1) st.StartRecord s xs ys (rows ++ last ∷ []) (omega arith) r ∙ append_assoc rows (last ∷ []) back)

-- a record has a field
fields_some : (a : Action) (fields : List (List ℕ)) (field : List ℕ) → is_end a ≡ true → 0 < length (fields_after a fields field)
fields_some act.EndRecord fields field e = omega (arith, length-append fields (field ∷ []))
fields_some act.Skip fields field e = cc
fields_some act.Copy fields field e = cc
fields_some act.EndField fields field e = cc

next_some : (s : State) (fields : List (List ℕ)) (field xs : List ℕ) (p : Read) → next_record default_config s fields field xs ≡ Some p → 0 < length p.0
unfolding next_record
next_some s fields field [] p e = elim (cases_Bool (ends_at_end s)) [
  | inl t ↦ subst (λ (q : Read). 0 < length q.0) (let h = rw t at e in let f : (fields ++ (field ∷ []), st.StartRecord, []) ≡ p = cc in f) (omega (arith, length-append fields (field ∷ [])))
  | inr f ↦ absurd (let h = rw f at e in cc)
]
next_some s fields field (c ∷ rest) p e = elim (cases_Bool (is_end (step default_config s c).1)) [
  | inl t ↦ subst (λ (q : Read). 0 < length q.0) (let h = rw t at e in let f : (fields_after (step default_config s c).1 fields field, (step default_config s c).0, rest) ≡ p = cc in f) (fields_some (step default_config s c).1 fields field t)
  | inr f ↦ next_some (step default_config s c).0 (fields_after (step default_config s c).1 fields field) (field_after (step default_config s c).1 c field) rest p (rw f at e)
]

-- so has the last one that was reached
pub last_some : (s s2 : State) (xs ys : List ℕ) (rows : List (List (List ℕ))) (last : List (List ℕ)) → Reached default_config s xs (rows ++ last ∷ []) s2 ys → 0 < length last
unfolding Reached
last_some s s2 xs ys [] last (p, e, is, rest) = subst (λ r. 0 < length r) (sym is) (next_some s [] [] xs p e)
last_some s s2 xs ys (row ∷ rows) last (p, e, is, rest) = last_some p.1 s2 p.2 ys rows last rest
