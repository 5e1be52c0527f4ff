use Rattle.cert_checker.proofs.Judged.{ended_is_open}
use Rattle.dossier_tests.proofs.whole.read_end.Goals as goal

pub instance-requires : goal.instance-requires
instance-requires c = c.is_between.ensures.ended.0 c.if-not-is_between.false

pub plan-requires : goal.plan-requires
plan-requires c = c.is_between.ensures.ended.0 c.if-not-is_between.false

pub stopped-requires : goal.stopped-requires
stopped-requires c = ended_is_open c.line.new.self.at (c.is_between.ensures.ended.0 c.if-not-is_between.false)
