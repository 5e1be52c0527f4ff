-- laws of the best reward among routes
use Rattle.std.proofs.Common.{arith, List, [], ◌∷◌, ℕ, Bool, true, false, cond}
use Rattle.std.specs.Prelude.{ℤ, pos, ◌≤ℤ◌}
use Rattle.std.specs.Int.{int_max}
use Rattle.std.proofs.Math.Dec.{eqb}
use Rattle.std.proofs.lemmas.Int.{ints}
use Rattle.crew_terms.specs.Greater.{max_right}
use Rattle.crew_terms.specs.Leaf.{Prices, rewards, earned}
use Rattle.crew_terms.specs.Limits.{Route}
use Rattle.search_terms.specs.Duals.{best_reward}

-- it is at least 0
pub best_low : (p : Prices) (rs : List Route) (k : ℕ) → pos 0 ≤ℤ best_reward p rs k
best_low p [] k = omega (arith, ints)
best_low p (r ∷ rs) k = by_test (eqb k r.team) (best_low p rs k)
  where
    by_test : (t : Bool) → pos 0 ≤ℤ best_reward p rs k → pos 0 ≤ℤ cond t (int_max (rewards (earned p k) r.visits) (best_reward p rs k)) (best_reward p rs k)
    by_test true h = let e = max_right (rewards (earned p k) r.visits) (best_reward p rs k) in omega (arith, ints)
    by_test false h = h
