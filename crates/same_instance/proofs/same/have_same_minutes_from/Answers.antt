use Rattle.std.proofs.Common.{rules, arith}
use Rattle.same_instance.proofs.OneInstance.{one_row}
use Rattle.same_instance.proofs.same.have_same_minutes_from.Goals as goal

pub returns : goal.returns
returns c = (
  λ _. one_row c.args.a.now c.args.b.now c.places-q-end-2.ensures.limits c.places-q-end.ensures.limits c.args.p c.loop-q.q c.requires.places c.requires.place
      (omega (arith, c.places-q-end-2.ensures.count)) c.loop-q.invariant,
  λ _. search rules,
)
