use Rattle.std.proofs.Common.{◌≡◌, ◌+◌, ◌∙◌, suc, arith, subst}
use Rattle.search_terms.specs.Pivot.{ArePivots}
use Rattle.frac_master.specs.Stepping.{Steps}
use Rattle.frac_master.proofs.running.run.Goals as goal

pub loop-made-preserved : goal.loop-made-preserved
loop-made-preserved c =
    let old = c.args.table.now.rows in
    let mid = c.loop-made.table.rows in
    let next = c.step.new.table.rows in
    let s = subst (Steps mid next) c.in-Ok-true.field-0-test c.in-Ok-true.ensures.pivot in
    let e : suc c.loop-made.made ≡ c.loop-made.made + 1 = omega arith in
    record { pivots = subst (λ k. ArePivots k old next) e (mid, c.loop-made.invariant.pivots, s); openers = c.in-Ok-true.ensures.openers ∙ c.loop-made.invariant.openers }
