-- words are read in one way
use Rattle.std.proofs.Common.{◌≡◌, ◌≤◌, ◌<◌, ◌+◌, [], ◌∷◌, ℕ, zero, suc, ℤ, pos, List, Result, Ok, Err, Some, length, take, drop, get_or, ap, sym, refl, ◌∙◌, subst, arith, ◌⊎◌, inl, inr}
use Rattle.std.specs.Prelude.{slice_get}
use Rattle.std.proofs.lemmas.List.{take_all, get_or-drop}
use Rattle.std.proofs.lemmas.Bool.{cases_lt}
use Rattle.std.proofs.lemmas.Fmt.{signed_decimal_injective}
use Rattle.crew_terms.specs.Words.{Words}
use Rattle.field_table.specs.Clocks.{clock_text}
use Rattle.field_table.specs.Fields.{Spells, Accepts, Refuses, ReadsWord, AllAccept, AreValues, IsFirstFault, ReadsRow}
use Rattle.field_table.specs.Fields.IsFirstFault.{TooFew, Refused}
use Rattle.field_table.specs.declared.fields.Kind.{Kind}
use Rattle.field_table.specs.declared.fields.Kind.TheVariants.{Number, Clock, Name}
use Rattle.field_table.specs.declared.fields.Cause.{Cause}
use Rattle.field_table.specs.declared.fields.Cause.TheVariants.{Count, Spelling, Range}
use Rattle.field_table.specs.declared.fields.Field.{Field}
use Rattle.field_table.specs.declared.fields.FieldFault.{FieldFault}
use Rattle.field_table.specs.OneFault.{one_cause, one_fault}

-- a clock text has one number
one_clock : (m n : ℕ) → m < 6000 → n < 6000 → clock_text m ≡ clock_text n → m ≡ n
one_clock m n a b h =
    let p = ap (λ bs. get_or bs 0 0) h in
    let q = ap (λ bs. get_or bs 1 0) h in
    let r = ap (λ bs. get_or bs 3 0) h in
    let s = ap (λ bs. get_or bs 4 0) h in
    omega arith

pub one_spelling : (kind : Kind) (word : List ℕ) (y z : ℤ) → Spells kind word y → Spells kind word z → y ≡ z
one_spelling Number word y z a b = signed_decimal_injective y z a.0.sfits b.0.sfits (sym a.1 ∙ b.1)
one_spelling Clock word y z (m, c, e, f) (n, d, g, h) = e ∙ ap pos (one_clock m n c d (sym f ∙ h)) ∙ sym g
one_spelling Name word y z a b = a.1 ∙ sym b.1

-- a word is not accepted and refused
not_both : (field : Field) (word : List ℕ) (z : ℤ) (cause : Cause) → Accepts field word z → Refuses field word cause → ⊥
not_both field word z Count a r = r
not_both field word z Spelling a r = r z a.spelled
not_both field word z Range a (y, s, out) = out (subst (Accepts field word) (one_spelling field.kind word z y a.spelled s) a)

pub one_word : (field : Field) (word : List ℕ) (place : ℕ) (r s : Result ℤ FieldFault) → ReadsWord field word place r → ReadsWord field word place s → r ≡ s
one_word field word place (Ok y) (Ok z) a b = ap Ok (one_spelling field.kind word y z a.spelled b.spelled)
one_word field word place (Ok y) (Err g) a b = absurd (not_both field word y g.cause a b.1)
one_word field word place (Err f) (Ok z) a b = absurd (not_both field word z f.cause b a.1)
one_word field word place (Err f) (Err g) a b = ap Err (one_fault f g (a.0 ∙ sym b.0) (one_cause field word f.cause g.cause a.1 b.1))

one_row : (fields : List Field) (words : Words) (ys zs : List ℤ) → AllAccept fields words ys → AllAccept fields words zs → ys ≡ zs
one_row [] [] [] [] a b = refl
one_row (f ∷ fs) (w ∷ ws) (y ∷ ys) (z ∷ zs) a b =
    ap (λ (x : ℤ). x ∷ ys) (one_spelling f.kind w y z a.0.spelled b.0.spelled) ∙ ap (λ (xs : List ℤ). z ∷ xs) (one_row fs ws ys zs a.1 b.1)
one_row [] [] [] (z ∷ zs) a b = absurd b
one_row [] [] (y ∷ ys) zs a b = absurd a
one_row [] (w ∷ ws) ys zs a b = absurd a
one_row (f ∷ fs) [] ys zs a b = absurd a
one_row (f ∷ fs) (w ∷ ws) [] zs a b = absurd a
one_row (f ∷ fs) (w ∷ ws) (y ∷ ys) [] a b = absurd b

-- where a front is accepted, so is each word in it
accepted_at : (fields : List Field) (words : Words) (zs : List ℤ) (n k : ℕ) (field : Field) → AllAccept (take n fields) (take n words) zs → k < n
    → slice_get fields k ≡ Some field → (z : ℤ) × Accepts field (get_or words k []) z
accepted_at fields words zs zero k field all l e = absurd (omega arith)
accepted_at [] words zs (suc n) k field all l e = absurd (cc)
accepted_at (f ∷ fs) [] zs (suc n) k field all l e = absurd all
accepted_at (f ∷ fs) (w ∷ ws) [] (suc n) k field all l e = absurd all
accepted_at (f ∷ fs) (w ∷ ws) (z ∷ zs) (suc n) zero field all l e = (z, subst (λ (g : Field). Accepts g w z) (let same : f ≡ field = cc in same) all.0)
accepted_at (f ∷ fs) (w ∷ ws) (z ∷ zs) (suc n) (suc k) field all l e = accepted_at fs ws zs n k field all.1 (omega arith) e

-- the word of a field that refuses it stands in no front that is accepted
past_front : (fields : List Field) (words : Words) (zs : List ℤ) (n k : ℕ) (field : Field) (cause : Cause) → AllAccept (take n fields) (take n (drop 1 words)) zs
    → slice_get fields k ≡ Some field → Refuses field (get_or words (k + 1) []) cause → k < n → ⊥
past_front fields words zs n k field cause all at out l =
    let p = accepted_at fields (drop 1 words) zs n k field all l at in
    let e : get_or (drop 1 words) k [] ≡ get_or words (k + 1) [] = get_or-drop 1 words k [] ∙ ap (λ i. get_or words i []) (let f : 1 + k ≡ k + 1 = omega arith in f) in
    not_both field (get_or words (k + 1) []) p.0 cause (subst (λ (w : List ℕ). Accepts field w p.0) e p.1) out

there : (fields : List Field) (k : ℕ) (field : Field) → slice_get fields k ≡ Some field → k < length fields
there [] k field e = absurd (cc)
there (f ∷ fs) zero field e = omega arith
there (f ∷ fs) (suc k) field e = let l = there fs k field e in omega arith

-- a row has no fault where it is read
no_fault : (fields : List Field) (words : Words) (zs : List ℤ) (fault : FieldFault) → length fields < length words
    → AllAccept fields (take (length fields) (drop 1 words)) zs → IsFirstFault fields words fault → ⊥
no_fault fields words zs fault long all (TooFew few is) = absurd (omega arith)
no_fault fields words zs fault long all (Refused enough before place field at refused values accepted) =
    let own : take (length fields) fields ≡ fields = take_all (length fields) fields (omega arith) in
    past_front fields words zs (length fields) before field fault.cause (subst (λ (fs : List Field). AllAccept fs (take (length fields) (drop 1 words)) zs) (sym own) all)
    at refused (there fields before field at)

-- and one where it is not
one_first_fault : (fields : List Field) (words : Words) (f g : FieldFault) → IsFirstFault fields words f → IsFirstFault fields words g → f ≡ g
one_first_fault fields words f g (TooFew few is) (TooFew less same) = is ∙ sym same
one_first_fault fields words f g (TooFew few is) (Refused enough before place field at refused values accepted) = absurd (omega arith)
one_first_fault fields words f g (Refused enough before place field at refused values accepted) (TooFew few is) = absurd (omega arith)
one_first_fault fields words f g (Refused enough k place field at refused values accepted) (Refused more j spot other here out others taken) =
    order (cases_lt k j) (cases_lt j k)
  where
    same : k ≡ j → f ≡ g
    same e =
        let one : field ≡ other = let q : slice_get fields j ≡ Some field = subst (λ n. slice_get fields n ≡ Some field) e at in cc in
        let told : Refuses other (get_or words (j + 1) []) f.cause =
        subst (λ (h : Field). Refuses h (get_or words (j + 1) []) f.cause) one (subst (λ n. Refuses field (get_or words (n + 1) []) f.cause) e refused) in
        one_fault f g (place ∙ ap (λ n. n + 1) e ∙ sym spot) (one_cause other (get_or words (j + 1) []) f.cause g.cause told out)

    order : (k < j) ⊎ (j ≤ k) → (j < k) ⊎ (k ≤ j) → f ≡ g
    order (inl l) h = absurd (past_front fields words others j k field f.cause taken at refused l)
    order (inr l) (inl h) = absurd (past_front fields words values k j other g.cause accepted here out h)
    order (inr l) (inr h) = same (omega arith)

pub one_reading : (fields : List Field) (words : Words) (r s : Result (List ℤ) FieldFault) → ReadsRow fields words r → ReadsRow fields words s → r ≡ s
one_reading fields words (Ok ys) (Ok zs) a b = ap Ok (one_row fields (take (length fields) (drop 1 words)) ys zs a.accepted b.accepted)
one_reading fields words (Ok ys) (Err g) a b = absurd (no_fault fields words ys g a.enough a.accepted b)
one_reading fields words (Err f) (Ok zs) a b = absurd (no_fault fields words zs f b.enough b.accepted a)
one_reading fields words (Err f) (Err g) a b = ap Err (one_first_fault fields words f g a b)

pub word_back : (field : Field) (word : List ℕ) (place : ℕ) (r : Result ℤ FieldFault) → ReadsWord field word place r → (z : ℤ) → Accepts field word z → r ≡ Ok z
word_back field word place r h z a = one_word field word place r (Ok z) h a

pub row_back : (fields : List Field) (words : Words) (r : Result (List ℤ) FieldFault) → ReadsRow fields words r → (values : List ℤ) → AreValues fields words values → r ≡ Ok values
row_back fields words r h values a = one_reading fields words r (Ok values) h a
