use Rattle.std.proofs.Common.{◌∙◌, [], ap, refl, subst, sym, rules}
use Rattle.std.specs.Int.{w128}
use Rattle.std.specs.Prelude.{FitsSigned}
use Rattle.std.proofs.lemmas.Int.{to_z-of_z}
use Rattle.squeeze_terms.specs.MinutePrices.{AreMinutePrices, zero_minute_prices}
use Rattle.price_run.proofs.Steps.{begun}
use Rattle.price_run.proofs.runs.begin.Goals as goal

pub evaluate-requires-clause-prices : goal.evaluate-requires-clause-prices
evaluate-requires-clause-prices c =
    let i = c.args.limits.now.limits.instance in
    subst (AreMinutePrices i) (sym (c.in_ok-prices.ensures ∙ ap zero_minute_prices c.instance.ensures.instance)) (c.runs_have_minute_prices.ensures i [] 0)

pub returns-clause-run : goal.returns-clause-run
returns-clause-run c =
    let fits : FitsSigned w128 c.in_ok-now.now.bound = search rules in
    simp to_z-of_z (begun c.args.limits.now.limits.instance _ c.in_ok-now.now.bound c.new.ensures (c.in_ok-prices.ensures ∙ ap zero_minute_prices c.instance.ensures.instance) c.in_ok-now.ensures.demands c.in_ok-now.ensures.routes c.in_ok-now.ensures.bound refl)
