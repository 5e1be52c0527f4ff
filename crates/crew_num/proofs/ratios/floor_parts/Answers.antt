use Rattle.std.proofs.Common.{◌≡◌, arith, rules, to_z}
use Rattle.std.specs.Prelude.{pos, FitsSigned}
use Rattle.std.specs.Int.{w128}
use Rattle.std.proofs.lemmas.Int.{ints, to_z-of_z}
use Rattle.crew_num.proofs.Floors.{scaled_floor}
use Rattle.crew_num.proofs.ratios.floor_parts.Goals as goal

pub returns-clause-floor : goal.returns-clause-floor
returns-clause-floor c =
    let num : FitsSigned w128 c.args.num = c.ranges.num in
    let den : FitsSigned w128 c.args.den = c.ranges.den in
    let scale : FitsSigned w128 c.args.scale = c.ranges.scale in
    let whole : FitsSigned w128 c.div_euclid-whole.result = search rules in
    let rest : FitsSigned w128 c.rem_euclid-rest.result = search rules in
    let quotient = simp to_z-of_z at c.div_euclid-whole.ensures in
    let remainder = simp to_z-of_z at c.rem_euclid-rest.ensures.value in
    let product = simp to_z-of_z at c.times_part-part.ensures.exact in
    let below = simp to_z-of_z at c.times_part-part.ensures.rest in
    let is = scaled_floor c.args.num c.args.den c.args.scale c.div_euclid-whole.result c.rem_euclid-rest.result _ _ c.requires.den c.requires.scale (search rules) quotient remainder product below in
    let most = simp to_z-of_z at c.times_part-part.ensures.quotient in
    let part : to_z w128 c.times_part-part.result.quotient ≡ pos c.times_part-part.result.quotient = omega (arith, ints) in
    simp (to_z-of_z, part) is
