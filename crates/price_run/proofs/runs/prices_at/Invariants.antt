use Rattle.std.proofs.Common.{◌≡◌}
use Rattle.squeeze_terms.specs.Run.{prices_after}
use Rattle.price_run.proofs.runs.prices_at.Given as goal

abbrev pub invariant-loop-step : goal.invariant-loop-step
invariant-loop-step l = l.prices ≡ prices_after l.instance l.trace l.step
