use Rattle.std.proofs.Common.{rules, arith, ◌+◌}
use Rattle.crew_terms.specs.Instance.{minutes_between}
use Rattle.part_match.proofs.ShorterTimes.{from_all}
use Rattle.part_match.proofs.times.meets_triangle.Goals as goal

pub returns : goal.returns
returns c = (
  λ _ h b d l. from_all c.args.part.now c.places-a-end.ensures.limits
      (λ x y. minutes_between c.args.part.now x b + minutes_between c.args.part.now b y) c.loop-a.a
      (omega (arith, c.places-a-end.ensures.count)) (λ x y k. c.loop-a.invariant x b y k l) h d,
  λ _. search rules,
)
