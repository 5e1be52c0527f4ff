use Rattle.std.proofs.Common.{◌≡◌, length}
use Rattle.crew_instance.specs.Draft.{rows_of}
use Rattle.crew_terms.specs.Limits.{tasks_in}
use Rattle.minute_rules.specs.Rules.{AreAheadBelow, phi_by}
use Rattle.minute_rules.proofs.rules.find_ahead.Given as goal

abbrev pub invariant-loop-j : goal.invariant-loop-j
invariant-loop-j l = record {
  count : length l.ahead.items ≡ tasks_in l.limits.limits;
  found : AreAheadBelow l.limits.limits l.k (phi_by l.limits.limits l.k (rows_of l.rows)) l.ahead.items l.j;
}
