use Rattle.std.proofs.Common.{◌≡◌, ◌≤◌, ◌<◌, ℕ, pos, sym, ◌∙◌, arith, rules, w64}
use Rattle.std.specs.Prelude.{FitsSigned}
use Rattle.std.proofs.lemmas.Int.{ints, to_z-of_z}
use Rattle.std.proofs.lemmas.Fmt.{signed_decimal_injective}
use Rattle.parts_cli.proofs.words.number_in.Goals as goal

-- a number of 32 bits is one of 64
fits : (n most : ℕ) → n ≤ most → most < 4294967296 → FitsSigned w64 (pos n)
fits n most small own = record { sfits = omega arith }

pub returns-in_default : goal.returns-in_default
returns-in_default c = λ n low high is. c.in_default.ensures.exact (pos n) (fits n c.args.most high c.ranges.most.fits) (c.as_bytes.ensures.value ∙ is)

pub returns-then-z-least : goal.returns-then-z-least
returns-then-z-least c = λ n low high is.
    let z = c.in-Some.z in
    let fit : FitsSigned w64 z = search rules in
    let own = to_z-of_z w64 z fit in
    let below = c.if-z-least.true in
    let same : z ≡ pos n = signed_decimal_injective z (pos n) fit.sfits (fits n c.args.most high c.ranges.most.fits).sfits (sym c.in-Some.ensures.exact ∙ (c.as_bytes.ensures.value ∙ is)) in
    absurd (omega (arith, ints))

pub returns-then-z-most : goal.returns-then-z-most
returns-then-z-most c = λ n low high is.
    let z = c.in-Some.z in
    let fit : FitsSigned w64 z = search rules in
    let own = to_z-of_z w64 z fit in
    let above = c.if-z-most.true in
    let same : z ≡ pos n = signed_decimal_injective z (pos n) fit.sfits (fits n c.args.most high c.ranges.most.fits).sfits (sym c.in-Some.ensures.exact ∙ (c.as_bytes.ensures.value ∙ is)) in
    absurd (omega (arith, ints))
