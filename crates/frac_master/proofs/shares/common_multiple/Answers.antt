use Rattle.std.proofs.lemmas.Result.{err_from_is_err_and}
use Rattle.frac_master.proofs.LowestShares.{factor_some, next_fault, next_multiple}
use Rattle.frac_master.proofs.shares.common_multiple.Goals as goal

pub nonzero_div-more : goal.nonzero_div-more
nonzero_div-more c = factor_some c.args.m c.args.d c.gcd_of.result c.requires.other_some c.gcd_of.ensures

pub returns-in_err-product : goal.returns-in_err-product
returns-in_err-product c =
    let q = err_from_is_err_and c.from_residual.result c.from_residual.ensures.1 in
    let e = c.in_err-product.ensures in
    rw (q.1, q.2) (next_fault c.args.m c.args.d c.gcd_of.result c.in_err-product.field-0.0 c.requires.fits c.requires.other_some c.requires.other_fits c.gcd_of.ensures e.0 e.1)

pub returns : goal.returns
returns c =
    let e = c.in_ok-product.ensures in
    next_multiple c.args.m c.args.d c.gcd_of.result c.unsigned_abs.result c.in_ok-product.product c.requires.fits c.requires.other_some c.requires.other_fits c.gcd_of.ensures e.0 e.1
    c.unsigned_abs.ensures.value
