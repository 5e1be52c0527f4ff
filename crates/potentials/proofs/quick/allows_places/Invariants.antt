use Rattle.std.proofs.Common.{ℕ, ◌≡◌, ◌<◌}
use Rattle.std.specs.Prelude.{slice_get, Some, All}
use Rattle.potentials.specs.Ahead.{AllowsFall}
use Rattle.potentials.specs.Quick.{away_for}
use Rattle.potentials.specs.declared.ahead.Ahead.{Ahead}
use Rattle.potentials.proofs.quick.allows_places.Given as goal

abbrev pub invariant-loop-p : goal.invariant-loop-p
invariant-loop-p l = (p : ℕ) (place : Ahead) → p < l.p → slice_get l.ahead p ≡ Some place → All (AllowsFall place.list.items l.j l.reward (away_for l.instance l.j p)) l.falls
