use Rattle.std.proofs.Common.{◌<◌, get_or, length, arith, refl}
use Rattle.std.proofs.lemmas.Result.{err_from_is_err_and}
use Rattle.frac_master.proofs.LowestShares.{common_none, common_more, common_fault}
use Rattle.frac_master.proofs.shares.common_denominator.Goals as goal

pub common_multiple-requires-clause-some : goal.common_multiple-requires-clause-some
common_multiple-requires-clause-some c = c.loop-j.invariant.some

pub common_multiple-requires-clause-fits : goal.common_multiple-requires-clause-fits
common_multiple-requires-clause-fits c = c.loop-j.invariant.fits

pub loop-j-init : goal.loop-j-init
loop-j-init c = common_none c.args.table.now.rows

pub loop-j-preserved : goal.loop-j-preserved
loop-j-preserved c =
    let t = c.args.table.now.rows in
    let lt : c.loop-j.j-index < length c.args.at.now = omega arith in
    common_more t c.args.at.now c.loop-j.j-index (get_or c.args.at.now c.loop-j.j-index 0) c.loop-j.den c.share_at-share.result.num c.share_at-share.result.den c.in_ok-more.more lt refl c.loop-j.invariant c.share_at-share.ensures c.in_ok-more.ensures

pub returns-in_err-more : goal.returns-in_err-more
returns-in_err-more c =
    let q = err_from_is_err_and c.from_residual.result c.from_residual.ensures.1 in
    let t = c.args.table.now.rows in
    let lt : c.loop-j.j-index < length c.args.at.now = omega arith in
    rw (q.1, q.2) (common_fault t c.args.at.now c.loop-j.j-index (get_or c.args.at.now c.loop-j.j-index 0) c.loop-j.den c.share_at-share.result.num c.share_at-share.result.den c.in_err-more.field-0.0 c.requires lt refl c.loop-j.invariant c.share_at-share.ensures c.in_err-more.ensures)
