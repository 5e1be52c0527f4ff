use Rattle.std.proofs.Common.{arith}
use Rattle.frac_master.proofs.LowestShares.{parts_is}
use Rattle.frac_master.proofs.shares.parts_of.Goals as goal

pub overflow_mul-result : goal.overflow_mul-result
overflow_mul-result c =
    let t = c.args.table.now.rows in
    let e = parts_is t c.args.j c.share_at-share.result.num c.share_at-share.result.den c.args.whole c.share_at-share.ensures c.requires.whole in
    let f = c.requires.whole.fits in
    omega arith

pub returns : goal.returns
returns c =
    let t = c.args.table.now.rows in
    parts_is t c.args.j c.share_at-share.result.num c.share_at-share.result.den c.args.whole c.share_at-share.ensures c.requires.whole
