use Rattle.std.proofs.Common.{◌<◌, ℕ}
use Rattle.crew_terms.specs.Limits.{IsPermittedVisit}
use Rattle.label_pricing.specs.Best.{IsBest}
use Rattle.potentials.specs.Table.{IsTableOf, phi}
use Rattle.label_pricing.proofs.minutes.fill_minutes.Given as goal

abbrev pub invariant-loop-j : goal.invariant-loop-j
invariant-loop-j g l = record {
  table : IsTableOf l.limits.limits.instance l.table;
  best : (j t : ℕ) → j < l.j → IsPermittedVisit l.limits.limits l.k j t → IsBest l.limits.limits l.k (g.R.Rewards.earned l.limits.limits l.prices l.k) j t (phi l.table j t);
}
