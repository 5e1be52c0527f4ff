use Rattle.std.proofs.Common.{[], ap, subst}
use Rattle.std.proofs.lemmas.Result.{err_from_is_err_and}
use Rattle.frac_master.specs.State.{MasterState}
use Rattle.master_run.specs.State.{routes_of}
use Rattle.master_run.specs.Along.{HaltsAfter}
use Rattle.master_run.proofs.Pivoted.{opened_along}
use Rattle.master_run.proofs.run.Run.open.Goals as goal

pub returns-in_err-pivot-clause-halts : goal.returns-in_err-pivot-clause-halts
returns-in_err-pivot-clause-halts c =
    let n = c.args.limits.now.limits in
    let m = c.in_ok-open.field-0 in
    let on = opened_along n [] m c.new.result.items c.args.pivots c.new.ensures.items (ap (λ (s : MasterState). s.columns) c.in_ok-open.ensures.opened) c.in_ok-open.ensures.list in
    let halts = subst (λ ids. HaltsAfter n c.args.pivots (routes_of [] ids) c.in_err-pivot.field-0.0) c.new.ensures.items (c.in_err-pivot.ensures.halts n [] on) in
    let p = err_from_is_err_and c.from_residual-in_err-pivot.result c.from_residual-in_err-pivot.ensures.1 in
    rw (p.1, p.2) halts

pub returns-clause-optimum : goal.returns-clause-optimum
returns-clause-optimum c = λ columns.
    let n = c.args.limits.now.limits in
    let m = c.in_ok-open.field-0 in
    c.in_ok-pivot.ensures.optimum n columns
    (opened_along n columns m c.new.result.items c.args.pivots c.new.ensures.items (ap (λ (s : MasterState). s.columns) c.in_ok-open.ensures.opened) c.in_ok-open.ensures.list)
