use Rattle.std.proofs.Common.{ℕ, ℤ, subst, sym}
use Rattle.std.specs.Prelude.{◌↔◌}
use Rattle.crew_terms.specs.Bounds.{proves_more}
use Rattle.crew_terms.specs.Leaf.{Proves}
use Rattle.search_terms.specs.Proven.{PricesProve}
use Rattle.price_ascent.proofs.ascent.greater_bounds_prove_more.Goals as goal

pub returns-clause-more : goal.returns-clause-more
returns-clause-more c = λ n p q b d is at bt le l few proved.
    let from = subst (λ (x : ℤ). PricesProve n p l ↔ Proves x l) (sym at.is_bound.is_bound)
    (c.worths_decide.ensures n p at.is_bound.worths l is at.range at.prices.on_required at.is_bound.are_worths) in
    let to = subst (λ (x : ℤ). PricesProve n q l ↔ Proves x l) (sym bt.is_bound.is_bound)
    (c.worths_decide.ensures n q bt.is_bound.worths l is bt.range bt.prices.on_required bt.is_bound.are_worths) in
    to.1 (proves_more b d l le (from.0 proved))

pub returns-clause-count : goal.returns-clause-count
returns-clause-count c = λ n p b l is at most.
    let decides = λ (m : ℕ). subst (λ (x : ℤ). PricesProve n p m ↔ Proves x m) (sym at.is_bound.is_bound)
    (c.worths_decide.ensures n p at.is_bound.worths m is at.range at.prices.on_required at.is_bound.are_worths) in
    record {
      most = most.most;
      proved = (decides l).1 most.proves;
      greatest = λ m few proved. most.greatest m few ((decides m).0 proved);
    }
