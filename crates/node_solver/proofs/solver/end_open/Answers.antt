use Rattle.std.proofs.Common.{subst}
use Rattle.node_solver.specs.Plans.{IsBestOf}
use Rattle.node_solver.proofs.Growing.{extends_more}
use Rattle.node_solver.proofs.solver.end_open.Goals as goal

pub returns-then-found-best-clause-ends : goal.returns-then-found-best-clause-ends
returns-then-found-best-clause-ends g c =
    c.less_is_proved.ensures c.args.limits.now.limits c.in_ok-found.found.prices c.in_ok-found.found.proved c.try_uses.new.self.unassigned
    c.if-found-best.true c.in_ok-found.ensures.proved.proved

pub returns-then-known-best-clause-ends : goal.returns-then-known-best-clause-ends
returns-then-known-best-clause-ends g c =
    c.less_is_proved.ensures c.args.limits.now.limits c.in_ok-known.known.prices c.in_ok-known.known.proved c.scout_and_rebuild.new.best.unassigned
    c.if-known-best.true c.in_ok-known.ensures.count.proved

pub returns-then-found-best-clause-best : goal.returns-then-found-best-clause-best
returns-then-found-best-clause-best g c = λ b is.
    subst (λ i. IsBestOf i b c.rise.new.best → IsBestOf i b c.try_uses.new.self) c.instance.ensures.instance (c.try_uses.ensures.best b)
    (c.rise.ensures.best b is)

pub returns-in_err-averages-clause-best : goal.returns-in_err-averages-clause-best
returns-in_err-averages-clause-best g c = λ b is.
    subst (λ i. IsBestOf i b c.rise.new.best → IsBestOf i b c.try_uses.new.self) c.instance.ensures.instance (c.try_uses.ensures.best b)
    (c.rise.ensures.best b is)

pub returns-in_err-known-clause-best : goal.returns-in_err-known-clause-best
returns-in_err-known-clause-best g c = λ b is.
    c.scout_and_rebuild.ensures.best b (subst (λ i. IsBestOf i b c.rise.new.best → IsBestOf i b c.try_uses.new.self) c.instance.ensures.instance (c.try_uses.ensures.best b)
    (c.rise.ensures.best b is))

pub returns-then-known-best-clause-best : goal.returns-then-known-best-clause-best
returns-then-known-best-clause-best g c = λ b is.
    c.scout_and_rebuild.ensures.best b (subst (λ i. IsBestOf i b c.rise.new.best → IsBestOf i b c.try_uses.new.self) c.instance.ensures.instance (c.try_uses.ensures.best b)
    (c.rise.ensures.best b is))

pub returns-in-Ok-clause-keeps : goal.returns-in-Ok-clause-keeps
returns-in-Ok-clause-keeps g c = c.in-Ok.ensures.keeps c.args.start

pub returns-in-Ok-clause-best : goal.returns-in-Ok-clause-best
returns-in-Ok-clause-best g c = λ b is.
    c.in-Ok.ensures.best b (c.scout_and_rebuild.ensures.best b (subst (λ i. IsBestOf i b c.rise.new.best → IsBestOf i b c.try_uses.new.self)
    c.instance.ensures.instance (c.try_uses.ensures.best b) (c.rise.ensures.best b is)))

pub returns-in-Ok-clause-extends : goal.returns-in-Ok-clause-extends
returns-in-Ok-clause-extends g c =
    extends_more c.args.limits.now.limits (g.C.Columns.columns c.args.columns.now) (g.C.Columns.columns c.scout_and_rebuild.new.columns)
    (g.C.Columns.columns c.end_by_master.new.columns) c.scout_and_rebuild.ensures.extends c.in-Ok.ensures.extends

pub returns-clause-ends : goal.returns-clause-ends
returns-clause-ends g c =
    c.end_halted.ensures.ends c.args.effort.now.pivots (g.C.Columns.columns c.end_by_master.new.columns) c.in-Err.ensures.halts

pub returns-clause-keeps : goal.returns-clause-keeps
returns-clause-keeps g c = c.end_halted.ensures.keeps c.args.start
    (λ l known proved. c.in_ok-known.ensures.as_much l known (c.in_ok-found.ensures.as_much l known proved))

pub returns-clause-best : goal.returns-clause-best
returns-clause-best g c = λ b is.
    c.in-Err.ensures.best b (c.scout_and_rebuild.ensures.best b (subst (λ i. IsBestOf i b c.rise.new.best → IsBestOf i b c.try_uses.new.self)
    c.instance.ensures.instance (c.try_uses.ensures.best b) (c.rise.ensures.best b is)))

pub returns-clause-extends : goal.returns-clause-extends
returns-clause-extends g c =
    extends_more c.args.limits.now.limits (g.C.Columns.columns c.args.columns.now) (g.C.Columns.columns c.scout_and_rebuild.new.columns)
    (g.C.Columns.columns c.end_by_master.new.columns) c.scout_and_rebuild.ensures.extends c.in-Err.ensures.extends

pub returns-in-Ok-clause-shown : goal.returns-in-Ok-clause-shown
returns-in-Ok-clause-shown g c = c.in-Ok.ensures.shown

pub returns-clause-shown : goal.returns-clause-shown
returns-clause-shown g c = c.end_halted.ensures.shown (g.C.Columns.columns c.end_by_master.new.columns)

pub returns-in-Ok-clause-required : goal.returns-in-Ok-clause-required
returns-in-Ok-clause-required g c = c.in-Ok.ensures.required

pub returns-clause-required : goal.returns-clause-required
returns-clause-required g c = c.end_halted.ensures.required

pub returns-in-Ok-clause-held : goal.returns-in-Ok-clause-held
returns-in-Ok-clause-held g c = c.in-Ok.ensures.held

pub returns-clause-held : goal.returns-clause-held
returns-clause-held g c = c.end_halted.ensures.held (g.C.Columns.columns c.end_by_master.new.columns)
