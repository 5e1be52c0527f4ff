use Rattle.std.proofs.Common.{◌≡◌, ◌<◌, ℕ, pos}
use Rattle.crew_terms.specs.Leaf.{rho_of}
use Rattle.kept_prices.proofs.rows.is_idle.Given as goal

abbrev pub invariant-loop-j : goal.invariant-loop-j
invariant-loop-j l = (i : ℕ) → i < l.j → rho_of l.prices l.k i ≡ pos 0
