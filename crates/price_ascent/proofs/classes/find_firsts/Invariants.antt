use Rattle.price_ascent.proofs.Firsts.{AreFirstsBelow}
use Rattle.price_ascent.proofs.classes.find_firsts.Given as goal

abbrev pub invariant-loop-k : goal.invariant-loop-k
invariant-loop-k l = AreFirstsBelow l.limits.limits l.k l.firsts.items
