use Rattle.std.proofs.Common.{sym, subst}
use Rattle.master_run.specs.State.{RunState, routes_of}
use Rattle.master_run.specs.Along.{HaltsAfter, IsAlong}
use Rattle.master_run.specs.Kept.{kept}
use Rattle.master_run.specs.declared.halt.Halt.TheVariants.{Overflow}
use Rattle.master_run.proofs.Pivoted.{halts_overflow}
use Rattle.master_run.proofs.run.Run.pivot.Goals as goal

pub returns-in-Overflow-clause-halts : goal.returns-in-Overflow-clause-halts
returns-in-Overflow-clause-halts c = λ n columns along.
    let old = kept c.self.inside in
    let on : IsAlong n columns old = subst (IsAlong n columns) (sym c.self.view_is) along in
    let led = c.in-Overflow.ensures.list n (routes_of columns old.ids) on.made on.follows in
    subst (λ (r : RunState). HaltsAfter n r.pivots (routes_of columns r.ids) (Overflow c.in-Overflow.fault)) c.self.view_is
    (halts_overflow n columns old c.solve-solved.new.self on c.in-Overflow.fault led)
