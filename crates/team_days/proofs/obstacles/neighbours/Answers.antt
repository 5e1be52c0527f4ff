use Rattle.std.proofs.Common.{inl, inr}
use Rattle.team_days.proofs.Day.{before_from, next_from, no_next}
use Rattle.team_days.proofs.obstacles.neighbours.Goals.{then-at-gt0, else-at-gt0}
use Rattle.team_days.proofs.obstacles.neighbours.Goals as goal

pub returns-then-at-turns-clause-before : goal.returns-then-at-turns-clause-before
returns-then-at-turns-clause-before c = λ p k are.
    before_from p k c.args.turns.now are c.args.t c.turns_before-at.result c.turns_before-at.ensures.bound (c.turns_before-at.ensures.cut p k _ are) c.if-at-gt0.before
    (elim c.if-at-gt0.branch [ then-at-gt0 w ↦ inl (w.if-at-gt0.true, w.before-is) | else-at-gt0 w ↦ inr (w.if-at-gt0.false, w.before-is) ])

pub returns-then-at-turns-clause-next : goal.returns-then-at-turns-clause-next
returns-then-at-turns-clause-next c = λ p k are.
    next_from p k c.args.turns.now are c.args.t c.turns_before-at.result c.turns_before-at.ensures.bound (c.turns_before-at.ensures.cut p k _ are) c.if-at-turns.true

pub returns-else-at-turns-clause-before : goal.returns-else-at-turns-clause-before
returns-else-at-turns-clause-before c = λ p k are.
    before_from p k c.args.turns.now are c.args.t c.turns_before-at.result c.turns_before-at.ensures.bound (c.turns_before-at.ensures.cut p k _ are) c.if-at-gt0.before
    (elim c.if-at-gt0.branch [ then-at-gt0 w ↦ inl (w.if-at-gt0.true, w.before-is) | else-at-gt0 w ↦ inr (w.if-at-gt0.false, w.before-is) ])

pub returns-else-at-turns-clause-next : goal.returns-else-at-turns-clause-next
returns-else-at-turns-clause-next c = λ p k are.
    no_next p k c.args.turns.now are c.args.t c.turns_before-at.result c.turns_before-at.ensures.bound (c.turns_before-at.ensures.cut p k _ are) c.if-at-turns.false
