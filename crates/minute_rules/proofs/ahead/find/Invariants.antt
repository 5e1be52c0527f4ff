use Rattle.std.proofs.Common.{◌≡◌, length}
use Rattle.minute_rules.specs.Ahead.{IsMostFrom}
use Rattle.minute_rules.specs.declared.ahead.TheConstants.{MINUTES}
use Rattle.minute_rules.proofs.Most.{MostAbove}
use Rattle.minute_rules.proofs.ahead.find.Given as goal

abbrev pub invariant-loop-minute : goal.invariant-loop-minute
invariant-loop-minute l = record {
  count : length l.most ≡ MINUTES;
  here : IsMostFrom l.first l.potentials l.minute l.here;
  above : MostAbove l.first l.potentials l.minute l.most;
}
