-- numbers that a row of fields accepts
use Rattle.std.proofs.Common.{◌≡◌, ◌≤◌, ◌<◌, ◌+◌, ◌^◌, ◌++◌, [], ◌∷◌, ℕ, zero, suc, ℤ, pos, negsuc, ◌≤ℤ◌, ◌+ℤ◌, ◌-ℤ◌, List, Ok, Err, length, map, take, drop, drop-cons, get_or, ap, sym, refl, ◌∙◌, subst, arith, to_z, of_z, w64, nat_abs}
use Rattle.std.proofs.lemmas.Int.{ints, to_z_pos}
use Rattle.std.proofs.lemmas.List.{drop_all}
use Rattle.std.specs.Fmt.{decimal}
use Rattle.crew_terms.specs.Words.{Words}
use Rattle.dossier_terms.specs.Rules.{IsShape, IsShapeFrom}
use Rattle.line_in.proofs.Rows.{whole_line, longer_line}
use Rattle.field_table.specs.Fields.{Spells, Accepts, AllAccept, AreValues}
use Rattle.field_table.specs.declared.fields.Kind.{Kind}
use Rattle.field_table.specs.declared.fields.Kind.TheVariants.{Number}
use Rattle.field_table.specs.declared.fields.Field.{Field}
use Rattle.field_table.specs.declared.fields.FieldFault.{FieldFault}

-- each number lies in the range of its field, which is of numbers
abbrev pub AreIn : List Field → List ℕ → Type 0
AreIn [] [] = Unit {0}
AreIn (f ∷ fs) (n ∷ ns) = (f.kind ≡ Number) × (f.low ≤ℤ pos n) × (pos n ≤ℤ f.high) × (n < 2 ^ 63) × AreIn fs ns
AreIn _ _ = ⊥

pub number_accepted : (f : Field) (n : ℕ) → f.kind ≡ Number → f.low ≤ℤ pos n → pos n ≤ℤ f.high → n < 2 ^ 63 → Accepts f (decimal n) (pos n)
number_accepted f n kind low high small = record {
  spelled = subst (λ (k : Kind). Spells k (decimal n) (pos n)) (sym kind) (record { sfits = small }, refl);
  low = low;
  high = high;
}

pub front_accepted : (fs : List Field) (ns : List ℕ) (rest : Words) → AreIn fs ns → AllAccept fs (take (length fs) (map decimal ns ++ rest)) (map pos ns)
front_accepted [] [] rest a = tt
front_accepted (f ∷ fs) (n ∷ ns) rest a = (number_accepted f n a.0 a.1 a.2 a.3, front_accepted fs ns rest a.4)
front_accepted [] (n ∷ ns) rest a = absurd a
front_accepted (f ∷ fs) [] rest a = absurd a

long : (fs : List Field) (ns : List ℕ) (rest : Words) → AreIn fs ns → length fs ≤ length (map decimal ns ++ rest)
long [] ns rest a = omega arith
long (f ∷ fs) (n ∷ ns) rest a = let l = long fs ns rest a.4 in omega arith
long (f ∷ fs) [] rest a = absurd a

-- a line of one word, these numbers and more
pub numbers_read : (fs : List Field) (w : List ℕ) (ns : List ℕ) (rest : Words) → AreIn fs ns → AreValues fs (w ∷ (map decimal ns ++ rest)) (map pos ns)
numbers_read fs w ns rest a = record { enough = (let l = long fs ns rest a in omega arith); accepted = front_accepted fs ns rest a }

-- where a fault is told, no values are read
pub none_read : (fs : List Field) (ws : Words) (fault : FieldFault) → ((values : List ℤ) → AreValues fs ws values → Err fault ≡ Ok values)
    → (values : List ℤ) → AreValues fs ws values → ⊥
none_read fs ws fault back values a = let e : Err fault ≡ Ok values = back values a in cc

-- a field of numbers
abbrev pub number_field : ℕ → ℤ → Field
number_field low high = record { low = pos low; high = high; kind = Number }

-- the number that a value is when it is cast
abbrev pub cast : ℤ → ℕ
cast z = nat_abs (to_z w64 (of_z w64 z))

-- the values from place k on
abbrev pub firsts : ℕ → ℕ → List ℤ → List ℤ
firsts zero k zs = []
firsts (suc n) k zs = get_or zs k (pos 0) ∷ firsts n (suc k) zs

cast_pos : (n : ℕ) → n < 2 ^ 63 → cast (pos n) ≡ n
cast_pos n h = ap nat_abs (to_z_pos w64 n h)

-- the fields are of numbers that are not below zero
abbrev pub AreNatural : List Field → Type 0
AreNatural [] = Unit {0}
AreNatural (f ∷ fs) = (f.kind ≡ Number) × (pos 0 ≤ℤ f.low) × AreNatural fs

pub number_read : (f : Field) (w : List ℕ) (z : ℤ) → f.kind ≡ Number → pos 0 ≤ℤ f.low → Accepts f w z
    → (f.low ≤ℤ pos (cast z)) × (pos (cast z) ≤ℤ f.high) × (cast z < 2 ^ 63) × (w ≡ decimal (cast z))
number_read f w (pos n) kind low a =
    let s : Spells Number w (pos n) = subst (λ (k : Kind). Spells k w (pos n)) kind a.spelled in
    let small : n < 2 ^ 63 = s.0.sfits in
    let e : n ≡ cast (pos n) = sym (cast_pos n small) in (
      subst (λ m. f.low ≤ℤ pos m) e a.low,
      subst (λ m. pos m ≤ℤ f.high) e a.high,
      subst (λ m. m < 2 ^ 63) e small,
      s.1 ∙ ap decimal e,
    )
number_read f w (negsuc n) kind low a = let l = a.low in absurd (omega (arith, ints))

pub numbers_of : (fs : List Field) (ws : Words) (zs : List ℤ) → AreNatural fs → AllAccept fs ws zs → AreIn fs (map cast zs) × (ws ≡ map decimal (map cast zs))
numbers_of [] [] [] n a = (tt, refl)
numbers_of (f ∷ fs) (w ∷ ws) (z ∷ zs) n a =
    let one = number_read f w z n.0 n.1 a.0 in
    let more = numbers_of fs ws zs n.2 a.1 in
    ((n.0, one.0, one.1, one.2, more.0), ap (λ x. x ∷ ws) one.3 ∙ ap (λ xs. decimal (cast z) ∷ xs) more.1)
numbers_of [] [] (z ∷ zs) n a = absurd a
numbers_of [] (w ∷ ws) zs n a = absurd a
numbers_of (f ∷ fs) [] zs n a = absurd a
numbers_of (f ∷ fs) (w ∷ ws) [] n a = absurd a

one_each : (fs : List Field) (ws : Words) (zs : List ℤ) → AllAccept fs ws zs → length zs ≡ length fs
one_each [] [] [] a = refl
one_each (f ∷ fs) (w ∷ ws) (z ∷ zs) a = let l = one_each fs ws zs a.1 in omega arith
one_each [] [] (z ∷ zs) a = absurd a
one_each [] (w ∷ ws) zs a = absurd a
one_each (f ∷ fs) [] zs a = absurd a
one_each (f ∷ fs) (w ∷ ws) [] a = absurd a

firsts_from : (n k : ℕ) (zs : List ℤ) → length zs ≡ k + n → drop k zs ≡ firsts n k zs
firsts_from zero k zs l = drop_all k zs (omega arith)
firsts_from (suc n) k zs l =
    let below : k < length zs = omega arith in
    drop-cons zs k (pos 0) below ∙ ap (λ xs. get_or zs k (pos 0) ∷ xs) (firsts_from n (suc k) zs (omega arith))

-- what a row of numbers that are not below zero reads
pub row_of : (fs : List Field) (ws : Words) (zs : List ℤ) → AreNatural fs → AreValues fs ws zs
    → AreIn fs (map cast (firsts (length fs) 0 zs)) × (take (length fs) (drop 1 ws) ≡ map decimal (map cast (firsts (length fs) 0 zs)))
row_of fs ws zs n a =
    let e : zs ≡ firsts (length fs) 0 zs = firsts_from (length fs) 0 zs (let l = one_each fs (take (length fs) (drop 1 ws)) zs a.accepted in omega arith) in
    subst (λ (xs : List ℤ). AreIn fs (map cast xs) × (take (length fs) (drop 1 ws) ≡ map decimal (map cast xs))) e
    (numbers_of fs (take (length fs) (drop 1 ws)) zs n a.accepted)

-- the last number below a count
abbrev pub last_of : ℕ → ℤ
last_of n = to_z w64 (of_z w64 (to_z w64 n -ℤ pos 1))

pub last_below : (n : ℕ) → n < 2 ^ 32 → last_of n +ℤ pos 1 ≡ pos n
last_below n h = omega (arith, ints)

-- the line of one word and the numbers that its row reads
pub line_of_row : (fs : List Field) (w : List ℕ) (ws : Words) (zs : List ℤ) → AreNatural fs → IsShape w (length fs) ws → AreValues fs ws zs
    → AreIn fs (map cast (firsts (length fs) 0 zs)) × (ws ≡ w ∷ map decimal (map cast (firsts (length fs) 0 zs)))
line_of_row fs w ws zs n shape a =
    let row = row_of fs ws zs n a in
    (row.0, whole_line w (length fs) ws (map cast (firsts (length fs) 0 zs)) shape row.1)

-- the line of one word and the numbers that its row reads, and more of them
pub longer_line_of_row : (fs : List Field) (w : List ℕ) (ws : Words) (zs : List ℤ) (ss : List ℕ) → AreNatural fs → IsShapeFrom w (length fs) ws → AreValues fs ws zs
    → drop (suc (length fs)) ws ≡ map decimal ss
    → AreIn fs (map cast (firsts (length fs) 0 zs)) × (ws ≡ w ∷ (map decimal (map cast (firsts (length fs) 0 zs)) ++ map decimal ss))
longer_line_of_row fs w ws zs ss n shape a rest =
    let row = row_of fs ws zs n a in
    (row.0, longer_line w (length fs) ws (map cast (firsts (length fs) 0 zs)) ss shape row.1 rest)
