use Rattle.std.proofs.Common.{◌≤◌}
use Rattle.column_scout.specs.Scouted.{IsSeen}
use Rattle.column_scout.proofs.rounds.search.Given as goal

abbrev pub invariant-loop-round : goal.invariant-loop-round
invariant-loop-round l = record {
  seen : IsSeen l.limits.limits l.best;
  more : l.initial.best.proved ≤ l.best.proved;
  pivots : l.pivots ≤ l.effort.pivots;
  rounds : l.made ≤ l.round;
}
