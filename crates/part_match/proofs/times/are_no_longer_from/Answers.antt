use Rattle.std.proofs.Common.{rules, arith}
use Rattle.crew_terms.specs.Instance.{minutes_between}
use Rattle.part_match.proofs.ShorterTimes.{to_all}
use Rattle.part_match.proofs.times.are_no_longer_from.Goals as goal

pub returns : goal.returns
returns c = (
  λ _. to_all c.args.part.now c.places-b-end.ensures.limits (minutes_between c.args.whole.now c.args.a) c.args.a c.loop-b.b
      (omega (arith, c.places-b-end.ensures.count)) c.loop-b.invariant,
  λ _. search rules,
)
