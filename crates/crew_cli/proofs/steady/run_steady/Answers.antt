use Rattle.std.proofs.Common.{inl, inr, arith}
use Rattle.crew_io.specs.Io.{Rose}
use Rattle.crew_cli.proofs.steady.run_steady.Goals as goal

none_rose : Rose 0 0 → ⊥
none_rose (inl more) = absurd (omega (arith, more))
none_rose (inr most) = absurd (omega (arith, most))

pub returns-clause-says : goal.returns-clause-says
returns-clause-says c = λ command asks.
    let w = c.run.ensures.says command asks in
    (w.0, w.2)

pub returns-clause-complete : goal.returns-clause-complete
returns-clause-complete c = λ command asks fine. c.run.ensures.complete command asks fine none_rose none_rose
