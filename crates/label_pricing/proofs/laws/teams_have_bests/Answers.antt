use Rattle.label_pricing.proofs.Best.{attained_is_best, best_is_one}
use Rattle.label_pricing.proofs.laws.teams_have_bests.Goals as goal

pub returns : goal.returns
returns c = record {
  some = λ n k w is.
      let found = c.potentials_are_attained.ensures n k w is in
      let route = found.3 in
      (found.1, found.0, c.best_worth.ensures n k w found.0 found.1 route.0 found.2 route.1 route.2, attained_is_best n k w found.0 found.1 found.2 found.4);
  one = λ n k w j t v z a b. best_is_one n k w j t v z a b;
}
