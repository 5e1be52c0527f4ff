use Rattle.column_scout.proofs.Seen.{more_prove_more}
use Rattle.column_scout.proofs.scouting.scout.Goals as goal

pub returns-clause-as_much : goal.returns-clause-as_much
returns-clause-as_much g c = more_prove_more c.args.limits.now.limits _ _ _ _ _ c.less_is_proved.ensures c.in_ok-first.ensures.as_much
    c.in_ok-first.ensures.proved c.in_ok-best.ensures.more c.in_ok-best.ensures.seen.count
