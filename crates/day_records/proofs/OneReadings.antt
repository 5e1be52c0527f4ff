-- a record says one thing, and a text has one reading
use Rattle.std.proofs.Common.{◌≡◌, ◌<◌, ◌+◌, ◌*◌, ◌/◌, ◌%◌, ◌^◌, ◌++◌, inl, inr, ℕ, zero, suc, ℤ, pos, List, [], ◌∷◌, Result, Ok, Err, Option, Some, length, refl, sym, subst, ap, ◌∙◌, arith, pow-suc}
use Rattle.std.specs.Prelude.{bytes_eq, codes, if◌then◌else◌}
use Rattle.std.specs.List.{AllByRecursion, AllZip}
use Rattle.std.specs.Int.{bit_at}
use Rattle.std.proofs.lemmas.Bool.{cases_eq}
use Rattle.std.proofs.lemmas.Int.{ints}
use Rattle.std.proofs.lemmas.Nat.Bits.{bit_at-lt, bit_at-suc, bit_at_lowest}
use Rattle.crew_terms.specs.Words.{Words}
use Rattle.crew_terms.specs.Name.{IsName}
use Rattle.field_table.specs.Fields.{Spells, Accepts, Refuses}
use Rattle.field_table.specs.declared.fields.Kind.{Kind}
use Rattle.field_table.specs.declared.fields.Kind.TheVariants.{Number}
use Rattle.field_table.specs.declared.fields.Cause.{Cause}
use Rattle.field_table.specs.declared.fields.Cause.TheVariants.{Count, Spelling, Range}
use Rattle.field_table.specs.declared.fields.Field.{Field}
use Rattle.field_table.specs.declared.fields.FieldFault.{FieldFault}
use Rattle.field_table.specs.OneFault.{one_cause, one_fault}
use Rattle.day_terms.specs.Records.{field_of}
use Rattle.day_terms.specs.Forms.{form_of, Slot, Value, Maker}
use Rattle.day_terms.specs.Forms.Slot.{Named, Ranged, Skilled}
use Rattle.day_terms.specs.Fields.{SpellAll, IsSkill, IsSetOf, skill_words, name_field, field_in, Gives, IsBad, AllGive, IsFirstBad}
use Rattle.day_terms.specs.Days.{IsCounted, IsOfKind, ReadsRecord, SayEntries, ReadsRecords}
use Rattle.day_terms.specs.Days.ReadsRecord.{OfNoKind, Miscounted, BadField, Good}
use Rattle.day_terms.specs.Days.ReadsRecords.{AllGood, StopsAt}
use Rattle.day_terms.specs.declared.RecordKind.{RecordKind}
use Rattle.day_terms.specs.declared.RecordKind.TheVariants as kinds
use Rattle.day_terms.specs.declared.Entry.{Entry}
use Rattle.day_terms.specs.declared.Refused.{Refused}
use Rattle.day_terms.specs.declared.DayCause.{DayCause}
use Rattle.day_terms.specs.declared.DayCause.TheVariants as cause

-- a word spells at most one number of a kind
abbrev pub SpellsOne : Type 0
SpellsOne = (kind : Kind) (word : List ℕ) (y z : ℤ) → Spells kind word y → Spells kind word z → y ≡ z

-- where each element of a list goes with one other at most, at most one list goes with it, place by place
one_by_place : {A B : Type 0} (R : A → B → Type 0) (xs : List A) (ys zs : List B) → ((x : A) (y z : B) → R x y → R x z → y ≡ z) → AllZip R xs ys → AllZip R xs zs → ys ≡ zs
one_by_place R [] [] [] one a b = refl
one_by_place R [] [] (z ∷ zs) one a b = absurd b
one_by_place R [] (y ∷ ys) zs one a b = absurd a
one_by_place R (x ∷ xs) [] zs one a b = absurd a
one_by_place R (x ∷ xs) (y ∷ ys) [] one a b = absurd b
one_by_place R (x ∷ xs) (y ∷ ys) (z ∷ zs) one a b =
    let e = one x y z a.0 b.0 in
    let f = one_by_place R xs ys zs one a.1 b.1 in
    cc

-- ---- sets

same_bits : (k m n : ℕ) → m < 2 ^ k → n < 2 ^ k → ((i : ℕ) → bit_at m i ≡ bit_at n i) → m ≡ n
same_bits zero m n a b h = omega arith
same_bits (suc k) m n a b h =
    let double : 2 ^ suc k ≡ 2 * 2 ^ k = rw pow-suc (omega arith) in
    let low : m % 2 ≡ n % 2 = sym (bit_at_lowest m) ∙ h 0 ∙ bit_at_lowest n in
    let p : m / 2 < 2 ^ k = omega arith in
    let q : n / 2 < 2 ^ k = omega arith in
    let high = same_bits k (m / 2) (n / 2) p q (λ i. sym (bit_at-suc m i) ∙ h (suc i) ∙ bit_at-suc n i) in
    omega arith

set_one : (numbers : List ℤ) (a b : ℕ) → IsSetOf numbers a → IsSetOf numbers b → a ≡ b
set_one numbers a b s t = same_bits 64 a b s.small t.small (λ i. same i)
  where
    same : (i : ℕ) → bit_at a i ≡ bit_at b i
    same i = elim (cases_eq (bit_at a i) 1) [
      | inl e ↦ e ∙ sym ((t.members i).1 ((s.members i).0 e))
      | inr ne ↦ elim (cases_eq (bit_at b i) 1) [
        | inl f ↦ absurd (ne ((s.members i).1 ((t.members i).0 f)))
        | inr nf ↦ let u = bit_at-lt a i in let v = bit_at-lt b i in omega arith
      ]
    ]

spell_all_one : SpellsOne → (words : Words) (ys zs : List ℤ) → SpellAll words ys → SpellAll words zs → ys ≡ zs
spell_all_one u words ys zs a b = one_by_place (Spells Number) words ys zs (u Number) a b

-- ---- one field

gives_one : SpellsOne → (s : Slot) (field : List ℕ) (v w : Value s) → Gives s field v → Gives s field w → v ≡ w
gives_one u Named field v w g h = g.1 ∙ sym h.1
gives_one u (Ranged kind low high) field v w g h = let e = u kind field (pos v) (pos w) g.spelled h.spelled in cc
gives_one u Skilled field v w g h =
    set_one h.numbers v w (subst (λ ns. IsSetOf ns v) (spell_all_one u (skill_words field) g.numbers h.numbers g.spelled h.spelled) g.is) h.is

name_accepted : (word : List ℕ) → IsName word → Accepts name_field word (pos (length word))
name_accepted word n = record {
  spelled = (n, refl);
  low = let a = n.some in omega (arith, ints);
  high = let a = n.short in omega (arith, ints);
}

not_refused : SpellsOne → (field : Field) (word : List ℕ) (z : ℤ) (cause : Cause) → Accepts field word z → Refuses field word cause → ⊥
not_refused u field word z Count a r = r
not_refused u field word z Spelling a r = r z a.spelled
not_refused u field word z Range a r = r.2 (subst (Accepts field word) (u field.kind word z r.0 a.spelled r.1) a)

good_not_bad : SpellsOne → (s : Slot) (field : List ℕ) (v : Value s) (cause : Cause) → Gives s field v → IsBad s field cause → ⊥
good_not_bad u Named field v cause g b = not_refused u name_field field (pos (length field)) cause (name_accepted field g.0) b
good_not_bad u (Ranged kind low high) field v cause g b = not_refused u (field_in (Ranged kind low high)) field (pos v) cause g b
good_not_bad u Skilled field v Count g b = b
good_not_bad u Skilled field v Spelling g b = b g.numbers g.spelled
good_not_bad u Skilled field v Range g b = b.2 (subst (AllByRecursion IsSkill) (spell_all_one u (skill_words field) g.numbers b.0 g.spelled b.1) g.known)

bad_one : (s : Slot) (field : List ℕ) (c d : Cause) → IsBad s field c → IsBad s field d → c ≡ d
bad_one Named field c d a b = one_cause name_field field c d a b
bad_one (Ranged kind low high) field c d a b = one_cause (field_in (Ranged kind low high)) field c d a b
bad_one Skilled field Count d a b = absurd a
bad_one Skilled field c Count a b = absurd b
bad_one Skilled field Spelling Spelling a b = refl
bad_one Skilled field Spelling Range a b = absurd (a b.0 b.1)
bad_one Skilled field Range Spelling a b = absurd (b a.0 a.1)
bad_one Skilled field Range Range a b = refl

-- ---- the fields of a record

all_one : SpellsOne → (ss : List Slot) (maker : Maker ss) (fields : Words) (place : ℕ) (e f : Entry) → AllGive ss maker fields place e → AllGive ss maker fields place f → e ≡ f
all_one u [] maker fields place e f a b = a ∙ sym b
all_one u (s ∷ ss) maker fields place e f (v, g, a) (w, h, b) =
    all_one u ss (maker w) fields (place + 1) e f (subst (λ x. AllGive ss (maker x) fields (place + 1) e) (gives_one u s (field_of fields place) v w g h) a) b

good_no_fault : SpellsOne → (ss : List Slot) (maker : Maker ss) (fields : Words) (place : ℕ) (e : Entry) (fault : FieldFault)
    → AllGive ss maker fields place e → IsFirstBad ss fields place fault → ⊥
good_no_fault u [] maker fields place e fault a b = b
good_no_fault u (s ∷ ss) maker fields place e fault (v, g, a) (inl b) = good_not_bad u s (field_of fields place) v fault.cause g b.1
good_no_fault u (s ∷ ss) maker fields place e fault (v, g, a) (inr (w, h, b)) = good_no_fault u ss (maker v) fields (place + 1) e fault a b

first_one : SpellsOne → (ss : List Slot) (fields : Words) (place : ℕ) (a b : FieldFault) → IsFirstBad ss fields place a → IsFirstBad ss fields place b → a ≡ b
first_one u [] fields place a b x y = absurd x
first_one u (s ∷ ss) fields place a b (inl x) (inl y) = one_fault a b (x.0 ∙ sym y.0) (bad_one s (field_of fields place) a.cause b.cause x.1 y.1)
first_one u (s ∷ ss) fields place a b (inl x) (inr (w, h, y)) = absurd (good_not_bad u s (field_of fields place) w a.cause h x.1)
first_one u (s ∷ ss) fields place a b (inr (v, g, x)) (inl y) = absurd (good_not_bad u s (field_of fields place) v b.cause g y.1)
first_one u (s ∷ ss) fields place a b (inr (v, g, x)) (inr (w, h, y)) = first_one u ss fields (place + 1) a b x y

-- ---- the kind of a record

-- each kind by its key
kind_by : List ℕ → RecordKind
kind_by key =
    if bytes_eq (codes "place") key then kinds.Place else
    if bytes_eq (codes "travel") key then kinds.Travel else
    if bytes_eq (codes "route_time") key then kinds.RouteTime else
    if bytes_eq (codes "default_travel") key then kinds.DefaultTravel else
    if bytes_eq (codes "team") key then kinds.Team else
    if bytes_eq (codes "task") key then kinds.Task else
    if bytes_eq (codes "cancel") key then kinds.Cancel else
    if bytes_eq (codes "move") key then kinds.Move else
    if bytes_eq (codes "longer") key then kinds.Longer else
    if bytes_eq (codes "needs") key then kinds.Needs else
    if bytes_eq (codes "sick") key then kinds.Sick else
    if bytes_eq (codes "shift") key then kinds.Shift else
    if bytes_eq (codes "skill") key then kinds.Skill else
    if bytes_eq (codes "unskill") key then kinds.Unskill else
    if bytes_eq (codes "plan") key then kinds.Plan else
    if bytes_eq (codes "now") key then kinds.Now else
    kinds.Thaw

kind_back : (kind : RecordKind) → kind_by (form_of kind).key ≡ kind
unfolding kind_by
kind_back kinds.Place = refl
kind_back kinds.Travel = refl
kind_back kinds.RouteTime = refl
kind_back kinds.DefaultTravel = refl
kind_back kinds.Team = refl
kind_back kinds.Task = refl
kind_back kinds.Cancel = refl
kind_back kinds.Move = refl
kind_back kinds.Longer = refl
kind_back kinds.Needs = refl
kind_back kinds.Sick = refl
kind_back kinds.Shift = refl
kind_back kinds.Skill = refl
kind_back kinds.Unskill = refl
kind_back kinds.Plan = refl
kind_back kinds.Now = refl
kind_back kinds.Thaw = refl

-- so a record is of one kind
kind_one : (fields : Words) (f g : RecordKind) → IsOfKind fields f → IsOfKind fields g → f ≡ g
kind_one fields f g a b = sym (kind_back f) ∙ ap kind_by (sym a ∙ b) ∙ kind_back g

-- what a record of this kind says
data ReadsAs (kind : RecordKind) (fields : Words) (told : Result Entry DayCause) : Type 0 where
  Few : (miscounted : IsCounted fields kind → ⊥) (is : told ≡ Err (cause.Field (record { place = length fields; cause = Count }))) → ReadsAs kind fields told
  Bad : (counted : IsCounted fields kind) (fault : FieldFault) (first : IsFirstBad (form_of kind).slots fields 1 fault) (is : told ≡ Err (cause.Field fault)) → ReadsAs kind fields told
  Whole : (counted : IsCounted fields kind) (entry : Entry) (gives : AllGive (form_of kind).slots (form_of kind).entry fields 1 entry) (is : told ≡ Ok entry) → ReadsAs kind fields told

as_kind : (kind : RecordKind) (fields : Words) (told : Result Entry DayCause) → IsOfKind fields kind → ReadsRecord fields told → ReadsAs kind fields told
as_kind kind fields told of (OfNoKind unknown is) = absurd (unknown kind of)
as_kind kind fields told of (Miscounted own o miscounted is) = subst (λ k. ReadsAs k fields told) (kind_one fields own kind o of) (Few miscounted is)
as_kind kind fields told of (BadField own o counted fault first is) = subst (λ k. ReadsAs k fields told) (kind_one fields own kind o of) (Bad counted fault first is)
as_kind kind fields told of (Good own o counted entry gives is) = subst (λ k. ReadsAs k fields told) (kind_one fields own kind o of) (Whole counted entry gives is)

as_one : SpellsOne → (kind : RecordKind) (fields : Words) (r s : Result Entry DayCause) → ReadsAs kind fields r → ReadsAs kind fields s → r ≡ s
as_one u kind fields r s (Few m e) (Few n f) = e ∙ sym f
as_one u kind fields r s (Few m e) (Bad n b y f) = absurd (m n)
as_one u kind fields r s (Few m e) (Whole n b y f) = absurd (m n)
as_one u kind fields r s (Bad m a x e) (Few n f) = absurd (n m)
as_one u kind fields r s (Bad m a x e) (Bad n b y f) = e ∙ ap (λ t. Err (cause.Field t)) (first_one u (form_of kind).slots fields 1 a b x y) ∙ sym f
as_one u kind fields r s (Bad m a x e) (Whole n b y f) = absurd (good_no_fault u (form_of kind).slots (form_of kind).entry fields 1 b a y x)
as_one u kind fields r s (Whole m a x e) (Few n f) = absurd (n m)
as_one u kind fields r s (Whole m a x e) (Bad n b y f) = absurd (good_no_fault u (form_of kind).slots (form_of kind).entry fields 1 a b x y)
as_one u kind fields r s (Whole m a x e) (Whole n b y f) = e ∙ ap (λ t. Ok t) (all_one u (form_of kind).slots (form_of kind).entry fields 1 a b x y) ∙ sym f

pub record_one : SpellsOne → (fields : Words) (r s : Result Entry DayCause) → ReadsRecord fields r → ReadsRecord fields s → r ≡ s
record_one u fields r s (OfNoKind unknown e) (OfNoKind other f) = e ∙ sym f
record_one u fields r s (OfNoKind unknown e) (Miscounted kind of m f) = absurd (unknown kind of)
record_one u fields r s (OfNoKind unknown e) (BadField kind of m a x f) = absurd (unknown kind of)
record_one u fields r s (OfNoKind unknown e) (Good kind of m a x f) = absurd (unknown kind of)
record_one u fields r s (Miscounted kind of m e) y = as_one u kind fields r s (Few m e) (as_kind kind fields s of y)
record_one u fields r s (BadField kind of m a x e) y = as_one u kind fields r s (Bad m a x e) (as_kind kind fields s of y)
record_one u fields r s (Good kind of m a x e) y = as_one u kind fields r s (Whole m a x e) (as_kind kind fields s of y)

-- ---- the records of a day

say_one : SpellsOne → (rows : List Words) (es fs : List Entry) → SayEntries rows es → SayEntries rows fs → es ≡ fs
say_one u rows es fs a b =
    one_by_place (λ fields entry. ReadsRecord fields (Ok entry)) rows es fs (λ fields e f g h. let same = record_one u fields (Ok e) (Ok f) g h in cc) a b

-- a record that says an entry is not bad
said_not_bad : SpellsOne → (fields : Words) (e : Entry) (c : DayCause) → ReadsRecord fields (Ok e) → ReadsRecord fields (Err c) → ⊥
said_not_bad u fields e c a b = let h = record_one u fields (Ok e) (Err c) a b in cc

all_said : SpellsOne → (front : List Words) (bad : Words) (back : List Words) (es : List Entry) (c : DayCause) → SayEntries (front ++ bad ∷ back) es → ReadsRecord bad (Err c) → ⊥
all_said u [] bad back [] c a b = a
all_said u [] bad back (e ∷ es) c a b = said_not_bad u bad e c a.0 b
all_said u (r ∷ rs) bad back [] c a b = a
all_said u (r ∷ rs) bad back (e ∷ es) c a b = all_said u rs bad back es c a.1 b

-- two bad records that each are the first one are the same
record IsSameStop (front other : List Words) (bad worse : Words) : Type 0 where
  fronts : front ≡ other
  bads : bad ≡ worse

stop_one : SpellsOne → (front other : List Words) (bad worse : Words) (back rest : List Words) (es fs : List Entry) (c d : DayCause)
    → front ++ bad ∷ back ≡ other ++ worse ∷ rest → SayEntries front es → SayEntries other fs → ReadsRecord bad (Err c) → ReadsRecord worse (Err d)
    → IsSameStop front other bad worse
stop_one u [] [] bad worse back rest es fs c d e a b x y = record { fronts = refl; bads = let h : bad ≡ worse = cc in h }
stop_one u [] (r ∷ rs) bad worse back rest es [] c d e a b x y = absurd b
stop_one u [] (r ∷ rs) bad worse back rest es (f ∷ fs) c d e a b x y =
    let h : bad ≡ r = cc in
    absurd (said_not_bad u r f c b.0 (subst (λ v. ReadsRecord v (Err c)) h x))
stop_one u (r ∷ rs) [] bad worse back rest [] fs c d e a b x y = absurd a
stop_one u (r ∷ rs) [] bad worse back rest (f ∷ es) fs c d e a b x y =
    let h : worse ≡ r = cc in
    absurd (said_not_bad u r f d a.0 (subst (λ v. ReadsRecord v (Err d)) h y))
stop_one u (r ∷ rs) (t ∷ ts) bad worse back rest [] fs c d e a b x y = absurd a
stop_one u (r ∷ rs) (t ∷ ts) bad worse back rest (f ∷ es) [] c d e a b x y = absurd b
stop_one u (r ∷ rs) (t ∷ ts) bad worse back rest (f ∷ es) (g ∷ fs) c d e a b x y =
    let h : rs ++ bad ∷ back ≡ ts ++ worse ∷ rest = cc in
    let i : r ≡ t = cc in
    let s = stop_one u rs ts bad worse back rest es fs c d h a.1 b.1 x y in
    record { fronts = ap (λ v. v ∷ rs) i ∙ ap (λ vs. t ∷ vs) s.fronts; bads = s.bads }

pub records_one : SpellsOne → (records : List Words) (es fs : List Entry) (stop other : Option Refused)
    → ReadsRecords records es stop → ReadsRecords records fs other → (es ≡ fs) × (stop ≡ other)
records_one u records es fs stop other (AllGood a e) (AllGood b f) = (say_one u records es fs a b, e ∙ sym f)
records_one u records es fs stop other (AllGood a e) (StopsAt front bad back parts b c x f) =
    absurd (all_said u front bad back es c (subst (λ rows. SayEntries rows es) parts a) x)
records_one u records es fs stop other (StopsAt front bad back parts a c x e) (AllGood b f) =
    absurd (all_said u front bad back fs c (subst (λ rows. SayEntries rows fs) parts b) x)
records_one u records es fs stop other (StopsAt front bad back parts a c x e) (StopsAt front2 worse rest parts2 b d y f) =
    let s = stop_one u front front2 bad worse back rest es fs c d (sym parts ∙ parts2) a b x y in
    let same : c ≡ d = let h = record_one u worse (Err c) (Err d) (subst (λ v. ReadsRecord v (Err c)) s.bads x) y in cc in (
      say_one u front2 es fs (subst (λ rows. SayEntries rows es) s.fronts a) b,
      e ∙ ap (λ n. Some (record { number = n + 1; cause = c })) (ap length s.fronts) ∙ ap (λ v. Some (record { number = length front2 + 1; cause = v })) same ∙ sym f,
    )
