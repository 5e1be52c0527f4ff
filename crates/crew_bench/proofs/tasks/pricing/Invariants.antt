use Rattle.label_pricing.specs.Pricing.{HasRoom}
use Rattle.crew_bench.proofs.tasks.pricing.Given as goal

abbrev pub invariant-loop : goal.invariant-loop
invariant-loop l = HasRoom l.limits.limits.instance l.pricer
