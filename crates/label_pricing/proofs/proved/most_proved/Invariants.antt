use Rattle.crew_terms.specs.Leaf.{Proves}
use Rattle.label_pricing.proofs.proved.most_proved.Given as goal

abbrev pub invariant-loop-l : goal.invariant-loop-l
invariant-loop-l l = Proves l.bound l.l
