use Rattle.share_check.proofs.Added.{sums_put}
use Rattle.share_check.proofs.cells.add_at.Goals as goal

pub with_share-requires-clause-sum : goal.with_share-requires-clause-sum
with_share-requires-clause-sum c = (c.requires.sums.0 c.args.place, c.requires.sums.1 c.args.place c.requires.place)

pub returns-clause-sums : goal.returns-clause-sums
returns-clause-sums c = λ f k h e.
    sums_put c.args.whole c.args.sums.now c.args.place k c.with_share.result f c.requires.place h (c.with_share.ensures (f c.args.place) k (h c.args.place c.requires.place) e)
