use Rattle.std.proofs.Common.{arith, rules, FitsSigned}
use Rattle.std.specs.Int.{w128}
use Rattle.std.specs.Prelude.{◌<ℤ◌, ◌≤ℤ◌, pos}
use Rattle.std.proofs.lemmas.Int.{ints, to_z-of_z}
use Rattle.frac_master.proofs.Rounded.{rounded_code, rounded_high, rounded_low}
use Rattle.frac_master.proofs.rounding.round_price.Goals as goal

pub returns-in-Ok : goal.returns-in-Ok
returns-in-Ok c =
    let num : FitsSigned w128 c.args.num = c.ranges.num in
    let den : FitsSigned w128 c.args.den = c.ranges.den in
    let floor : FitsSigned w128 c.in-Ok.floor = search rules in
    let least : FitsSigned w128 c.min.result = search rules in
    let f = simp to_z-of_z at c.in-Ok.ensures.floor in
    let g = simp to_z-of_z at c.min.ensures.value in
    let h = simp to_z-of_z at c.max.ensures.value in
    rounded_code c.args.num c.args.den c.in-Ok.floor c.min.result c.max.result c.requires f g h

pub returns-then-num-lt0 : goal.returns-then-num-lt0
returns-then-num-lt0 c =
    let num : FitsSigned w128 c.args.num = c.ranges.num in
    let den : FitsSigned w128 c.args.den = c.ranges.den in
    let f = simp to_z-of_z at c.in-Err.ensures.overflow in
    let g = simp to_z-of_z at c.if-num-lt0.true in
    let low : c.args.num <ℤ pos 0 = omega (arith, ints, g) in
    rounded_low c.args.num c.args.den f.floor c.requires low f.is_floor f.floor_leaves

pub returns-else-num-lt0 : goal.returns-else-num-lt0
returns-else-num-lt0 c =
    let num : FitsSigned w128 c.args.num = c.ranges.num in
    let den : FitsSigned w128 c.args.den = c.ranges.den in
    let f = simp to_z-of_z at c.in-Err.ensures.overflow in
    let g = simp to_z-of_z at c.if-num-lt0.false in
    let low : pos 0 ≤ℤ c.args.num = omega (arith, ints, g) in
    rounded_high c.args.num c.args.den f.floor c.requires low f.is_floor f.floor_leaves
