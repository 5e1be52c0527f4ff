use Rattle.std.proofs.Common.{ℕ, ◌<◌, ◌≤ℤ◌}
use Rattle.crew_instance.specs.Draft.{rows_of}
use Rattle.crew_terms.specs.Limits.{IsPermittedVisit}
use Rattle.minute_rules.specs.Rules.{phi_by}
use Rattle.minute_rules.proofs.rules.holds_worth.Given as goal

abbrev pub invariant-loop-j : goal.invariant-loop-j
invariant-loop-j l = (j t : ℕ) → j < l.j → IsPermittedVisit l.limits.limits l.k j t → phi_by l.limits.limits l.k (rows_of l.rows) j t ≤ℤ l.worth
