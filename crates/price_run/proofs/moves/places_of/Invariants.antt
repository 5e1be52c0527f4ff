use Rattle.std.proofs.Common.{◌≡◌, ℕ, eqb, take, count_by}
use Rattle.squeeze_terms.specs.Run.{visits_at}
use Rattle.price_run.proofs.moves.places_of.Given as goal

abbrev pub invariant-loop-k : goal.invariant-loop-k
invariant-loop-k l = (x : ℕ) → count_by (λ p. eqb p x) l.places.items ≡ visits_at l.instance (take l.k l.routes) l.j x
