use Rattle.std.proofs.Common.{FitsSigned}
use Rattle.std.specs.Int.{w128}
use Rattle.std.proofs.lemmas.Int.{to_z-of_z}
use Rattle.crew_num.proofs.divisors.gcd.Goals as goal

pub returns : goal.returns
returns c =
    let a : FitsSigned w128 c.args.a = c.ranges.a in
    let b : FitsSigned w128 c.args.b = c.ranges.b in
    simp to_z-of_z at (rw (c.unsigned_abs.ensures.value, c.unsigned_abs-2.ensures.value) at c.gcd_of.ensures)
