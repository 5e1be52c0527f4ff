use Rattle.label_pricing.specs.Pricing.{HasRoom}
use Rattle.price_run.specs.RunState.{IsRunAfter}
use Rattle.price_run.proofs.runs.squeeze.Given as goal

abbrev pub invariant-loop-s : goal.invariant-loop-s
invariant-loop-s l = record {
  run : IsRunAfter l.instance l.s l.run;
  room : HasRoom l.instance l.pricer;
}
