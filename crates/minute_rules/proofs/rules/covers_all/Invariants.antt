use Rattle.std.proofs.Common.{◌≡◌, ◌<◌, ℕ}
use Rattle.std.specs.Prelude.{slice_get, Some}
use Rattle.minute_rules.specs.Rules.{CoversNext}
use Rattle.minute_rules.specs.declared.ahead.Ahead.{Ahead}
use Rattle.minute_rules.proofs.rules.covers_all.Given as goal

abbrev pub invariant-loop-h : goal.invariant-loop-h
invariant-loop-h l = (h : ℕ) (row : Ahead) → h < l.h → slice_get l.ahead h ≡ Some row
    → CoversNext l.instance l.j l.prices l.here.first l.here.potentials.now h row.most.items
