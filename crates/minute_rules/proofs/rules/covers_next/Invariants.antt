use Rattle.std.proofs.Common.{◌<◌, ℕ}
use Rattle.minute_rules.specs.Rules.{CoversAfter}
use Rattle.minute_rules.proofs.rules.covers_next.Given as goal

abbrev pub invariant-loop-a : goal.invariant-loop-a
invariant-loop-a l = (b : ℕ) → b < l.a → CoversAfter l.instance l.j l.prices l.here.first l.here.potentials.now l.h l.ahead.most.items b
