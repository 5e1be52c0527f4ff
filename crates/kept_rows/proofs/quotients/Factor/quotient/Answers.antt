use Rattle.std.proofs.Common.{◌<ℤ◌, arith, FitsSigned, pos, int_div}
use Rattle.std.specs.Int.{w128}
use Rattle.std.proofs.lemmas.Int.{ints, to_z-of_z, to_z_pos, quot_fits}
use Rattle.kept_rows.proofs.CommonFactor.{exact_quotient}
use Rattle.kept_rows.proofs.quotients.Factor.quotient.Goals as goal

pub returns : goal.returns
returns c =
    let a : FitsSigned w128 c.args.a = c.ranges.a in
    let g = c.args.self.now.value in
    let fits : FitsSigned w128 (pos g) = omega (arith, ints, c.requires.fits) in
    let up : pos 0 <ℤ pos g = omega (arith, ints, c.requires.some) in
    let e = to_z_pos w128 g fits.sfits in
    rw (to_z-of_z w128 c.args.a a, e, to_z-of_z w128 (int_div c.args.a (pos g)) (quot_fits w128 c.args.a (pos g) a up))
    (exact_quotient c.args.a g c.requires.factor)
