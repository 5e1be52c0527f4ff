use Rattle.std.proofs.Common.{◌≡◌, ◌≤◌, ℕ, ℤ, pos, negsuc, List, subst, sym, ◌∙◌, arith, rules, w64, nat_abs}
use Rattle.std.specs.Prelude.{FitsSigned, ◌≤ℤ◌}
use Rattle.std.specs.Fmt.{decimal, signed_decimal}
use Rattle.std.proofs.lemmas.Int.{ints, to_z-of_z}
use Rattle.std.proofs.lemmas.Fmt.{signed_decimal_injective}
use Rattle.crew_terms.specs.declared.TheConstants.{MOST_NUMBER}
use Rattle.trial_command.proofs.words.natural.Goals as goal

-- a natural number up to this one is one of 64 bits
fits : (n : ℕ) → n ≤ MOST_NUMBER → FitsSigned w64 (pos n)
fits n small = record { sfits = omega arith }

-- the word of a number that is not negative is its decimal
spelled : (z : ℤ) (word : List ℕ) → FitsSigned w64 z → pos 0 ≤ℤ z → word ≡ signed_decimal z → (nat_abs z ≤ MOST_NUMBER) × (word ≡ decimal (nat_abs z))
spelled (pos n) word fit some is =
    let few = fit.sfits in
    (omega arith, is)
spelled (negsuc n) word fit some is = absurd (omega (arith, ints))

pub returns-in_default : goal.returns-in_default
returns-in_default c = λ n small is. c.in_default.ensures.exact (pos n) (fits n small) (c.as_bytes.ensures.value ∙ is)

pub returns-then-z-lt0 : goal.returns-then-z-lt0
returns-then-z-lt0 c = λ n small is.
    let z = c.in-Some.z in
    let fit : FitsSigned w64 z = search rules in
    let own = to_z-of_z w64 z fit in
    let below = c.if-z-lt0.true in
    let same : z ≡ pos n = signed_decimal_injective z (pos n) fit.sfits (omega arith) (sym c.in-Some.ensures.exact ∙ (c.as_bytes.ensures.value ∙ is)) in
    absurd (omega (arith, ints))

pub returns : goal.returns
returns c =
    let z = c.in-Some.z in
    let fit : FitsSigned w64 z = search rules in
    let own = to_z-of_z w64 z fit in
    let above = c.if-z-lt0.false in
    subst (λ (x : ℤ). (nat_abs x ≤ MOST_NUMBER) × (c.args.word.now ≡ decimal (nat_abs x))) (sym own)
    (spelled z c.args.word.now fit (omega (arith, ints)) (sym c.as_bytes.ensures.value ∙ c.in-Some.ensures.exact))
