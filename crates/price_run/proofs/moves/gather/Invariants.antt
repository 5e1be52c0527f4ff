use Rattle.std.proofs.Common.{◌≡◌, ◌+◌, ℕ, eqb, take, count_by}
use Rattle.squeeze_terms.specs.Run.{visits_priced}
use Rattle.price_run.proofs.moves.gather.Given as goal

abbrev pub invariant-loop-visit : goal.invariant-loop-visit
invariant-loop-visit l = (x : ℕ) → count_by (λ p. eqb p x) l.places.items ≡ count_by (λ p. eqb p x) l.initial.places.items + visits_priced l.instance l.j x (take l.visit-index l.visits)
