use Rattle.std.proofs.Common.{ℕ, ◌≡◌, ◌<◌}
use Rattle.std.specs.Prelude.{slice_get, Some}
use Rattle.potentials.specs.Ahead.{AreRising}
use Rattle.potentials.specs.declared.ahead.Ahead.{Ahead}
use Rattle.potentials.proofs.quick.all_rise.Given as goal

abbrev pub invariant-loop-place : goal.invariant-loop-place
invariant-loop-place l = (p : ℕ) (place : Ahead) → p < l.place-index → slice_get l.ahead p ≡ Some place → AreRising place.list.items
