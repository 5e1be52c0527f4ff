use Rattle.std.proofs.Common.{◌≡◌, ◌∙◌, ap, subst, arith, rules, to_z, of_z}
use Rattle.std.specs.Prelude.{ℤ, pos, ◌+ℤ◌, ◌-ℤ◌, ◌*ℤ◌, FitsSigned}
use Rattle.std.specs.Int.{w128}
use Rattle.std.specs.Option.{SomeIff}
use Rattle.std.proofs.lemmas.Int.{ints}
use Rattle.crew_num.specs.Ring.{sum_times}
use Rattle.crew_num.proofs.ratios.scaled_sum.Goals as goal

-- the next product, and what is taken from it
turned : (whole scale part next : ℤ) → next ≡ (whole +ℤ pos 1) *ℤ scale → next -ℤ (scale -ℤ part) ≡ (whole *ℤ scale) +ℤ part
turned whole scale part next e = let f = sum_times whole (pos 1) scale in omega (arith, ints)

pub returns-in_ok-checked_mul : goal.returns-in_ok-checked_mul
returns-in_ok-checked_mul c =
    let made = c.in_ok-checked_mul.ensures in
    let first : to_z w128 (of_z w128 (to_z w128 (of_z w128 c.args.whole) +ℤ pos 1)) ≡ c.args.whole +ℤ pos 1 = omega (arith, ints) in
    let second : to_z w128 (of_z w128 c.args.scale) ≡ c.args.scale = omega (arith, ints) in
    let product = made.1 ∙ ap (λ z. z *ℤ to_z w128 (of_z w128 c.args.scale)) first ∙ ap (λ z. (c.args.whole +ℤ pos 1) *ℤ z) second in
    let range : FitsSigned w128 c.in_ok-checked_mul.field-0 = search rules in
    let back : to_z w128 (of_z w128 c.in_ok-checked_mul.field-0) ≡ c.in_ok-checked_mul.field-0 = omega (arith, ints) in
    let sum = turned c.args.whole c.args.scale c.args.part _ product in
    subst (λ z. SomeIff c.checked_sub.result (FitsSigned w128 z) z) (omega (arith, ints)) c.checked_sub.ensures
