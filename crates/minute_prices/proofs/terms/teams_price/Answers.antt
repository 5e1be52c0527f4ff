use Rattle.std.proofs.Common.{◌≡◌, ◌*ℤ◌, ◌∙◌, ap, pos, rules, subst, sym, w64}
use Rattle.std.specs.Int.{w128}
use Rattle.std.specs.Prelude.{FitsSigned}
use Rattle.std.proofs.lemmas.Int.{to_z-of_z}
use Rattle.crew_terms.specs.Instance.{task_of}
use Rattle.squeeze_terms.specs.MinutePrices.{minute_price, price_place}
use Rattle.minute_prices.proofs.Sums.{product_up_to}
use Rattle.minute_prices.proofs.terms.teams_price.Goals as goal

pub returns-clause-price : goal.returns-clause-price
returns-clause-price c =
    let fits : FitsSigned w64 c.price.result = search rules in
    let price : c.from-2.result ≡ minute_price c.args.instance.now c.args.prices.now c.args.j c.args.t = c.from-2.ensures ∙ to_z-of_z w64 c.price.result fits ∙ c.price.ensures in
    let teams : c.from.result ≡ pos (task_of c.args.instance.now c.args.j).teams = c.from.ensures ∙ ap (λ t. pos t.teams) c.task.ensures.task in
    let teams_fit : FitsSigned w128 c.from.result = search rules in
    let price_fits : FitsSigned w128 c.from-2.result = search rules in
    let product_fits : FitsSigned w128 (c.from.result *ℤ c.from-2.result) = search rules in
    simp to_z-of_z (ap (λ t. t *ℤ c.from-2.result) teams ∙ ap (λ p. pos (task_of c.args.instance.now c.args.j).teams *ℤ p) price)

pub returns-clause-range : goal.returns-clause-range
returns-clause-range c =
    let fits : FitsSigned w64 c.price.result = search rules in
    let price : c.from-2.result ≡ minute_price c.args.instance.now c.args.prices.now c.args.j c.args.t = c.from-2.ensures ∙ to_z-of_z w64 c.price.result fits ∙ c.price.ensures in
    let teams_fit : FitsSigned w128 c.from.result = search rules in
    let price_fits : FitsSigned w128 c.from-2.result = search rules in
    let product_fits : FitsSigned w128 (c.from.result *ℤ c.from-2.result) = search rules in
    simp to_z-of_z (rw (c.from.ensures, price) (product_up_to c.task.result.now.teams (minute_price c.args.instance.now c.args.prices.now c.args.j c.args.t) c.task.ensures.limits.teams.few
    (c.requires.prices.range c.args.j (price_place (task_of c.args.instance.now c.args.j) c.args.t))))
