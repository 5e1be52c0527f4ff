use Rattle.std.proofs.Common.{◌≡◌, ◌*◌, ◌∙◌, ◌++◌, ◌∷◌, [], ℕ, ℤ, Option, Some, pos, get_or, take, ap, sym, subst, rules, arith}
use Rattle.std.specs.Int.{w128}
use Rattle.std.specs.Prelude.{FitsSigned, ◌<ℤ◌, ◌≤ℤ◌}
use Rattle.std.proofs.lemmas.Int.{ints, to_z-of_z}
use Rattle.std.proofs.lemmas.List.{take_more}
use Rattle.crew_terms.specs.declared.TheConstants.{D, MOST_PRICE, MOST_TEAMS_PER_TASK}
use Rattle.potentials.specs.Sums.{IsBoundedBy}
use Rattle.squeeze_terms.specs.Bound.{teams_price}
use Rattle.minute_prices.specs.declared.terms.Least.{Least}
use Rattle.minute_prices.proofs.Leasts.{first_least, least_from, lower, not_lower}
use Rattle.minute_prices.proofs.terms.term_of.Goals.{then-price-best, else-price-best}
use Rattle.minute_prices.proofs.terms.term_of.Goals as goal

pub loop-t-preserved : goal.loop-t-preserved
loop-t-preserved c =
    let f = teams_price c.args.instance.now c.args.prices.now c.args.j in
    let index = c.loop-t.t-index in
    let ts = take index c.args.minutes.now in
    let t = get_or c.args.minutes.now index 0 in
    let more = sym (take_more c.args.minutes.now index 0 c.loop-t-test.true) in
    let price : c.teams_price-price.result ≡ f t = c.teams_price-price.ensures.price in
    let least : c.loop-t.best.term ≡ least_from f (pos D) ts = c.loop-t.invariant.term in
    let fits : FitsSigned w128 c.teams_price-price.result = search rules in
    elim c.if-price-best.branch [
      | then-price-best w ↦
          let below : f t <ℤ least_from f (pos D) ts = let a = w.if-price-best.true in omega (arith, ints) in
          let new = lower f (pos D) ts t below in
          let is : c.if-price-best.best.term ≡ c.teams_price-price.result = ap (λ (b : Least). b.term) w.best-is ∙ to_z-of_z w128 c.teams_price-price.result fits in
          record {
            term = is ∙ price ∙ sym new.0 ∙ ap (least_from f (pos D)) more;
            minute = ap (λ (b : Least). b.minute) w.best-is ∙ sym new.1 ∙ ap (first_least f (pos D)) more;
            range = subst (IsBoundedBy (MOST_TEAMS_PER_TASK * MOST_PRICE)) (sym is) c.teams_price-price.ensures.range;
          }
      | else-price-best w ↦
          let above : least_from f (pos D) ts ≤ℤ f t = let a = w.if-price-best.false in omega (arith, ints) in
          let new = not_lower f (pos D) ts t above in
          let is = ap (λ (b : Least). b.term) w.best-is in
          record {
            term = is ∙ least ∙ sym new.0 ∙ ap (least_from f (pos D)) more;
            minute = ap (λ (b : Least). b.minute) w.best-is ∙ c.loop-t.invariant.minute ∙ sym new.1 ∙ ap (first_least f (pos D)) more;
            range = subst (IsBoundedBy (MOST_TEAMS_PER_TASK * MOST_PRICE)) (sym is) c.loop-t.invariant.range;
          }
    ]
