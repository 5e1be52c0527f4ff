use Rattle.std.proofs.Common.{sym, subst}
use Rattle.node_solver.specs.declared.step.Why.{Why}
use Rattle.written_laws.specs.Told.{IsInRange}
use Rattle.written_laws.proofs.telling.told_cause.Goals as goal

pub returns-in-Overflow-clause-range : goal.returns-in-Overflow-clause-range
returns-in-Overflow-clause-range c = subst (λ (w : Why). IsInRange w) (sym c.in-Overflow.is) (c.told_overflow.ensures.first, c.told_overflow.ensures.second)
