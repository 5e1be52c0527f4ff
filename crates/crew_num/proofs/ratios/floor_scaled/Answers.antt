use Rattle.std.proofs.Common.{rules}
use Rattle.std.specs.Prelude.{FitsSigned}
use Rattle.std.specs.Int.{w128}
use Rattle.std.proofs.lemmas.Int.{to_z-of_z}
use Rattle.crew_num.proofs.Floors.{refused}
use Rattle.crew_num.proofs.ratios.floor_scaled.Goals as goal

pub returns-in-None-clause-overflow : goal.returns-in-None-clause-overflow
returns-in-None-clause-overflow c =
    let num : FitsSigned w128 c.args.num = c.ranges.num in
    let den : FitsSigned w128 c.args.den = c.ranges.den in
    let scale : FitsSigned w128 c.args.scale = c.ranges.scale in
    let whole : FitsSigned w128 c.floor_parts-parts.result.whole = search rules in
    let part : FitsSigned w128 c.floor_parts-parts.result.part = search rules in
    let is = simp to_z-of_z at c.floor_parts-parts.ensures.floor in
    let leaves = simp to_z-of_z at c.in-None.ensures in
    simp to_z-of_z (refused c.args.num c.args.den c.args.scale _ c.requires.den is leaves)
