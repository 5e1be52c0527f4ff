use Rattle.std.proofs.Common.{◌≡◌, length}
use Rattle.crew_instance.specs.Draft.{rows_of}
use Rattle.crew_terms.specs.Limits.{tasks_in}
use Rattle.potentials.specs.Rules.{HoldBelow}
use Rattle.squeeze_terms.specs.MinutePrices.{minute_price}
use Rattle.minute_rules.specs.Rules.{AreAheadBelow, phi_by}
use Rattle.minute_rules.proofs.rules.minute_rules.Given as goal

abbrev pub invariant-loop-task : goal.invariant-loop-task
invariant-loop-task l = record {
  count : length l.room.ahead.items ≡ tasks_in l.limits.limits;
  found : AreAheadBelow l.limits.limits l.k (phi_by l.limits.limits l.k (rows_of l.rows)) l.room.ahead.items (tasks_in l.limits.limits);
  rules : HoldBelow l.limits.limits l.k (minute_price l.limits.limits.instance (rows_of l.prices)) (phi_by l.limits.limits l.k (rows_of l.rows)) l.task;
}
