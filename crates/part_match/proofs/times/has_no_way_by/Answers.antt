use Rattle.std.proofs.Common.{rules, arith, ◌+◌}
use Rattle.crew_terms.specs.Instance.{minutes_between}
use Rattle.part_match.proofs.ShorterTimes.{to_all}
use Rattle.part_match.proofs.times.has_no_way_by.Goals as goal

pub returns : goal.returns
returns c = (
  λ _. to_all c.args.part.now c.places-c-end.ensures.limits
      (λ d. minutes_between c.args.part.now c.args.a c.args.b + minutes_between c.args.part.now c.args.b d) c.args.a c.loop-c.c
      (omega (arith, c.places-c-end.ensures.count)) c.loop-c.invariant,
  λ _. search rules,
)
