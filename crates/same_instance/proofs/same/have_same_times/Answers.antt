use Rattle.std.proofs.Common.{rules, arith}
use Rattle.same_instance.proofs.OneInstance.{one_table}
use Rattle.same_instance.proofs.same.have_same_times.Goals as goal

pub returns : goal.returns
returns c = (
  λ _. one_table c.args.a.now c.args.b.now c.places-p-end-2.ensures.limits c.places-p-end.ensures.limits c.loop-p.p c.requires
      (omega (arith, c.places-p-end-2.ensures.count)) c.loop-p.invariant,
  λ _. search rules,
)
