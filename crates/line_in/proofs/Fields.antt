-- lists of numbers and of the words that spell them
use Rattle.std.proofs.Common.{◌≡◌, ◌<◌, ◌^◌, ◌+ℤ◌, ◌≤ℤ◌, [], ◌∷◌, ℕ, zero, suc, ℤ, pos, negsuc, List, Result, Ok, Err, length, map, get_or, ap, sym, refl, ◌∙◌, subst, arith}
use Rattle.std.proofs.lemmas.Int.{ints}
use Rattle.std.specs.Prelude.{FitsSigned, MatchResult}
use Rattle.std.specs.Int.{w64}
use Rattle.std.specs.List.{AllByRecursion}
use Rattle.std.specs.Fmt.{decimal, signed_decimal}
use Rattle.crew_terms.specs.Words.{Words}
use Rattle.field_table.specs.Fields.{Spells, Accepts}
use Rattle.field_table.specs.declared.fields.Kind.{Kind}
use Rattle.field_table.specs.declared.fields.Kind.TheVariants.{Number}
use Rattle.field_table.specs.declared.fields.Field.{Field}
use Rattle.line_in.specs.declared.faults.LineFault.{LineFault}
use Rattle.line_in.specs.declared.faults.LineFault.TheVariants.{Number as BadNumber}
use Rattle.line_in.specs.Fields.{IsIn, SpellIn, SpellBelow, SpellsOne}
use Rattle.line_in.proofs.Rests.{signed_map}
use Rattle.line_in.proofs.Accepted.{cast, number_field, number_read}

pub spelled_at : (field : Field) (ns : List ℤ) → AllByRecursion (IsIn field) ns → (k : ℕ) → k < length ns → SpellsOne field (get_or (map signed_decimal ns) k [])
spelled_at field [] all k h = absurd (omega arith)
spelled_at field (n ∷ ns) all zero h = (n, all.0, refl)
spelled_at field (n ∷ ns) all (suc k) h = spelled_at field ns all.1 k (omega arith)

pub spelled_all : (field : Field) (ws : Words) → ((k : ℕ) → k < length ws → SpellsOne field (get_or ws k [])) → (ns : List ℤ) × SpellIn field ns ws
spelled_all field [] h = ([], record { each = tt; spelled = refl })
spelled_all field (w ∷ ws) h =
    let first = h 0 (omega arith) in
    let rest = spelled_all field ws (λ k l. h (suc k) (omega arith)) in
    (first.0 ∷ rest.0, record { each = (first.1, rest.1.each); spelled = ap (λ x. x ∷ ws) first.2 ∙ ap (λ xs. signed_decimal first.0 ∷ xs) rest.1.spelled })

-- what a field of numbers accepts
pub accepted : (field : Field) (w : List ℕ) (n : ℤ) → field.kind ≡ Number → IsIn field n → w ≡ signed_decimal n → Accepts field w n
accepted field w n kind is e = record { spelled = subst (λ (k : Kind). Spells k w n) (sym kind) (is.fits, e); low = is.low; high = is.high }

-- a number from 0 on that a word spells
pub number_spelled : (field : Field) (w : List ℕ) → field.kind ≡ Number → pos 0 ≤ℤ field.low → (s : SpellsOne field w)
    → (field.low ≤ℤ pos (cast s.0)) × (pos (cast s.0) ≤ℤ field.high) × (cast s.0 < 2 ^ 63) × (w ≡ decimal (cast s.0))
number_spelled field w kind low s = number_read field w s.0 kind low (accepted field w s.0 kind s.1 s.2)

pub each_fits : (field : Field) (ns : List ℤ) → AllByRecursion (IsIn field) ns → AllByRecursion (FitsSigned w64) ns
each_fits field [] all = tt
each_fits field (n ∷ ns) all = (all.0.fits, each_fits field ns all.1)

-- ---- numbers below a bound

below_each : (past : ℕ) (last : ℤ) → last +ℤ pos 1 ≡ pos past → (ns : List ℤ) → AllByRecursion (IsIn (number_field 0 last)) ns → (ms : List ℕ) × (ns ≡ map pos ms) × AllByRecursion (λ n. n < past) ms
below_each past last e [] all = ([], refl, tt)
below_each past last e (pos n ∷ ns) all =
    let high = all.0.high in
    let rest = below_each past last e ns all.1 in
    (n ∷ rest.0, ap (λ zs. pos n ∷ zs) rest.1, (omega (arith, ints), rest.2))
below_each past last e (negsuc n ∷ ns) all = let low = all.0.low in absurd (omega (arith, ints))

each_in : (past : ℕ) (last : ℤ) → last +ℤ pos 1 ≡ pos past → past < 2 ^ 32 → (ms : List ℕ) → AllByRecursion (λ n. n < past) ms → AllByRecursion (IsIn (number_field 0 last)) (map pos ms)
each_in past last e few [] all = tt
each_in past last e few (n ∷ ms) all =
    let less = all.0 in
    (record { fits = record { sfits = omega arith }; low = omega (arith, ints); high = omega (arith, ints) }, each_in past last e few ms all.1)

below_of : (past : ℕ) (last : ℤ) → last +ℤ pos 1 ≡ pos past → (ns : List ℤ) (ws : Words) → SpellIn (number_field 0 last) ns ws → (ms : List ℕ) × (ns ≡ map pos ms) × SpellBelow past ms ws
below_of past last e ns ws s =
    let ms = below_each past last e ns s.each in
    (ms.0, ms.1, record { below = ms.2; spelled = s.spelled ∙ ap (map signed_decimal) ms.1 ∙ sym (signed_map ms.0) })

in_of : (past : ℕ) (last : ℤ) → last +ℤ pos 1 ≡ pos past → past < 2 ^ 32 → (ms : List ℕ) (ws : Words) → SpellBelow past ms ws → SpellIn (number_field 0 last) (map pos ms) ws
in_of past last e few ms ws s = record { each = each_in past last e few ms s.below; spelled = s.spelled ∙ signed_map ms }

-- what is read is of numbers below the bound
pub below_read : (past : ℕ) (last : ℤ) → last +ℤ pos 1 ≡ pos past → past < 2 ^ 32 → (ws : Words) (read : Result (List ℤ) LineFault)
    → MatchResult read (λ rest. SpellIn (number_field 0 last) rest ws) (λ fault. (fault ≡ BadNumber) × ((ns : List ℤ) → SpellIn (number_field 0 last) ns ws → ⊥))
    → MatchResult read (λ rest. (ms : List ℕ) × (rest ≡ map pos ms) × SpellBelow past ms ws) (λ fault. (fault ≡ BadNumber) × ((ms : List ℕ) → SpellBelow past ms ws → ⊥))
below_read past last e few ws (Ok rest) s = below_of past last e rest ws s
below_read past last e few ws (Err fault) none = (none.0, λ ms s. none.1 (map pos ms) (in_of past last e few ms ws s))
