use Rattle.std.proofs.Common.{rules, arith}
use Rattle.crew_terms.specs.Instance.{minutes_between}
use Rattle.part_match.proofs.ShorterTimes.{from_all}
use Rattle.part_match.proofs.times.are_no_longer.Goals as goal

pub returns : goal.returns
returns c = (
  λ _. from_all c.args.part.now c.places-a-end.ensures.limits (minutes_between c.args.whole.now) c.loop-a.a
      (omega (arith, c.places-a-end.ensures.count)) c.loop-a.invariant,
  λ _. search rules,
)
