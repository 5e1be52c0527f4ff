use Rattle.std.proofs.Common.{◌≡◌, [], ℤ, get_or, refl, sym, ◌∙◌, subst, arith, rules, w64}
use Rattle.std.specs.Prelude.{FitsSigned}
use Rattle.std.proofs.lemmas.Int.{ints, to_z-of_z}
use Rattle.std.proofs.lemmas.Fmt.{signed_decimal_injective}
use Rattle.std.specs.Fmt.{signed_decimal}
use Rattle.line_in.specs.Fields.{IsIn}
use Rattle.line_in.proofs.numbers.read_in.Goals as goal
use Rattle.line_in.proofs.numbers.read_in.Goals.{then-z-field-via-then-z-field, then-z-field-via-else-z-field+then-z-field-2}

pub returns-then-z-field : goal.returns-then-z-field
returns-then-z-field c = (
  refl,
  λ x is e.
      let z = c.in-Some.z in
      let fit : FitsSigned w64 z = search rules in
      let same : x ≡ z = signed_decimal_injective x z is.fits.sfits fit.sfits (sym e ∙ c.in-Some.ensures.exact) in
      let own = to_z-of_z w64 z fit in
      let low = is.low in
      let high = is.high in
      elim c.then-z-field.branch [
        | then-z-field-via-then-z-field w ↦ (
            let fits : FitsSigned w64 c.args.field.now.low = search rules in
            let bound = to_z-of_z w64 c.args.field.now.low fits in
            let less = w.if-z-field.true in
            absurd (omega (arith, ints))
            )
        | then-z-field-via-else-z-field+then-z-field-2 w ↦ (
            let fits : FitsSigned w64 c.args.field.now.high = search rules in
            let bound = to_z-of_z w64 c.args.field.now.high fits in
            let more = w.if-z-field-2.true in
            absurd (omega (arith, ints))
            )
      ],
)

pub returns : goal.returns
returns c =
    let z = c.in-Some.z in
    let field = c.args.field.now in
    let fit : FitsSigned w64 z = search rules in
    let fits_low : FitsSigned w64 field.low = search rules in
    let fits_high : FitsSigned w64 field.high = search rules in
    let own = to_z-of_z w64 z fit in
    let low = to_z-of_z w64 field.low fits_low in
    let high = to_z-of_z w64 field.high fits_high in
    let least = c.if-z-field.false in
    let most = c.if-z-field-2.false in
    subst (λ (x : ℤ). IsIn field x × (get_or c.args.words.now c.args.n [] ≡ signed_decimal x)) (sym own) (record { fits = fit; low = omega (arith, ints); high = omega (arith, ints) }, c.in-Some.ensures.exact)
