use Rattle.node_solver.proofs.Ending.{proved_required}
use Rattle.node_solver.proofs.master.end_by_master.Goals as goal

pub returns-then-answer-now-clause-ends : goal.returns-then-answer-now-clause-ends
returns-then-answer-now-clause-ends g c =
    c.less_is_proved.ensures c.args.limits.now.limits c.in_ok-answer.answer.prices c.in_ok-answer.answer.proved c.args.best.now.unassigned
    c.if-answer-now.true c.in_ok-answer.ensures.answered.count.proved

pub returns-then-answer-now-clause-required : goal.returns-then-answer-now-clause-required
returns-then-answer-now-clause-required g c =
    proved_required c.args.limits.now.limits c.in_ok-answer.answer.prices c.in_ok-answer.answer.proved c.in_ok-answer.ensures.answered.count.proved
