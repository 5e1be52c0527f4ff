use Rattle.label_pricing.specs.Pricing.{HasRoom}
use Rattle.tree_rehearsal.proofs.looks.look.Given as goal

abbrev pub invariant-loop-class : goal.invariant-loop-class
invariant-loop-class l = HasRoom l.limits.limits.instance l.pricer
