use Rattle.std.proofs.Common.{refl}
use Rattle.crew_terms.specs.Leaf.{zero_prices}
use Rattle.written_laws.proofs.written.first_trees_are_proved.Goals as goal

pub returns : goal.returns
returns c = record {
  bare = λ n p u is. (is, refl);
  open_one = λ n u instance is.
      let some = c.prices_have_potentials.ensures n (zero_prices n) instance is.prices.range is.required in
      (is, record { worths = some.0; phi = some.1; proved = (some.2, tt) });
}
