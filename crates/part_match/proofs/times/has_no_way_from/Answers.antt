use Rattle.std.proofs.Common.{rules, arith}
use Rattle.part_match.proofs.times.has_no_way_from.Goals as goal

pub returns : goal.returns
returns c = (λ _ h d l. c.loop-b.invariant h d (omega (arith, c.places-b-end.ensures.count)), λ _. search rules)
