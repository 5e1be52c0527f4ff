use Rattle.std.proofs.Common.{ℕ, subst}
use Rattle.crew_terms.specs.Leaf.{Proves, worth_of}
use Rattle.crew_terms.specs.Limits.{root_limits}
use Rattle.squeeze_terms.specs.MinutePrices.{minute_price}
use Rattle.squeeze_terms.specs.Run.{prices_after}
use Rattle.squeeze_laws.proofs.Held.{held}
use Rattle.squeeze_laws.proofs.runs_prove.Goals as goal

pub returns : goal.returns
returns c = λ i p steps best l trace is legal run.
    let n = root_limits i in
    let w = minute_price i (prices_after i trace best) in
    let worths = run.greatest.here.worths in
    let found = λ (k : ℕ). c.potentials_are_attained.ensures n k w is in
    let bounds = λ (k : ℕ). c.worth_bounds_routes.ensures n k w (found k).0 (found k).1 in
    c.minute_prices_prove.ensures i p (prices_after i trace best) worths (λ k. (found k).0) l legal
    (record {
      prices = c.runs_have_minute_prices.ensures i trace best;
      valid = λ k b. held n k w (found k).0 (found k).1 (worth_of worths k) (found k).2 (found k).3 (run.greatest.here.each.each k b) (λ r route. bounds k r (found k).2 route);
    })
    (subst (λ b. Proves b l) run.greatest.here.sum run.proved.proved)
