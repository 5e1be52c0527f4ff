use Rattle.std.proofs.Common.{◌+◌, ◌∙◌, ◌++◌, ◌∷◌, [], ap, refl, subst, sym, rules, to_z, of_z}
use Rattle.std.specs.Int.{w128}
use Rattle.std.specs.Prelude.{FitsSigned}
use Rattle.std.proofs.lemmas.Int.{to_z-of_z}
use Rattle.squeeze_terms.specs.Bound.{IsMinuteBound}
use Rattle.squeeze_terms.specs.MinutePrices.{AreMinutePrices}
use Rattle.squeeze_terms.specs.Run.{next_prices}
use Rattle.price_run.proofs.Steps.{advanced, prices_last}
use Rattle.price_run.proofs.runs.advance.Goals as goal

pub evaluate-requires-clause-prices : goal.evaluate-requires-clause-prices
evaluate-requires-clause-prices c =
    let i = c.args.limits.now.limits.instance in
    let s = c.args.s in
    let run = c.args.run in
    let is = c.requires.run in
    let next = c.in_ok-prices.ensures ∙ ap (λ k. next_prices k s run.prices run.routes) c.instance-instance.ensures.instance in
    subst (AreMinutePrices i) (sym (next ∙ ap (λ p. next_prices i s p run.routes) is.prices_are ∙ sym (prices_last i run.trace run.routes s (s + 1) is.count refl)))
    (c.runs_have_minute_prices.ensures i (run.trace ++ run.routes ∷ []) (s + 1))

pub returns-clause-run : goal.returns-clause-run
returns-clause-run c =
    let i = c.args.limits.now.limits.instance in
    let s = c.args.s in
    let run = c.args.run in
    let next = c.in_ok-prices.ensures ∙ ap (λ k. next_prices k s run.prices run.routes) c.instance-instance.ensures.instance in
    let fits : FitsSigned w128 c.in_ok-now.now.bound = search rules in
    let same = to_z-of_z w128 c.in_ok-now.now.bound fits in
    let bound = subst (IsMinuteBound i c.in_ok-prices.prices) (sym same) c.in_ok-now.ensures.bound in
    advanced i s run _ (to_z w128 (of_z w128 c.in_ok-now.now.bound)) c.requires.run c.in_ok-push.ensures next c.in_ok-now.ensures.demands c.in_ok-now.ensures.routes bound c.better.ensures.greater c.better.ensures.kept
