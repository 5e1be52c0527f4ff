use Rattle.std.proofs.Common.{◌≡◌, true, false, length, is_some, ap, arith, sym, ◌∙◌}
use Rattle.delay_print.specs.Texts.{is_late}
use Rattle.delay_print.proofs.Counted.{one_fails, one_passes, passing}
use Rattle.delay_print.proofs.late_count.Goals as goal
use Rattle.delay_print.proofs.late_count.Goals.{then-is_some, else-is_some}

pub loop-j-preserved : goal.loop-j-preserved
loop-j-preserved c =
    let p = c.args.plan.now in
    let w = c.args.waits.now in
    let told = sym (ap is_some c.delay_at.ensures) ∙ sym c.is_some.ensures in
    let before = c.loop-j.invariant in
    elim c.if-is_some.branch [
      | then-is_some v ↦ (
          let e = one_passes (is_late p w) c.loop-j.j (told ∙ v.if-is_some.true) in
          record { counted = omega (arith, v.count-is, before.counted); few = omega (arith, v.count-is, before.few) })
      | else-is_some v ↦ (
          let e = one_fails (is_late p w) c.loop-j.j (told ∙ v.if-is_some.false) in
          record { counted = omega (arith, v.count-is, before.counted); few = omega (arith, v.count-is, before.few) })
    ]

pub returns : goal.returns
returns c =
    let n : c.loop-j.j ≡ length c.args.plan.now = let a = c.loop-j-test.false in let b = c.loop-j.auto.j-end in let e = c.len-j-end.ensures.count in omega arith in
    c.loop-j.invariant.counted ∙ ap (λ m. length (passing (is_late c.args.plan.now c.args.waits.now) m)) n
