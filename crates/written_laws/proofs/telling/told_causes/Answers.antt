use Rattle.written_laws.proofs.OneMore.{told_more}
use Rattle.written_laws.proofs.telling.told_causes.Goals as goal

pub loop-i-preserved : goal.loop-i-preserved
loop-i-preserved c =
    told_more c.args.causes.now c.loop-i.i _ c.index-causes-i.result c.loop-i.told.items c.push.new.self.items c.told_cause.result c.loop-i-test.true
    c.loop-i.invariant c.index-causes-i.is c.told_cause.ensures.cause c.told_cause.ensures.range c.in_ok-push.ensures.items
