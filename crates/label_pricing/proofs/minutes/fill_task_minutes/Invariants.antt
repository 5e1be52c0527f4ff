use Rattle.std.proofs.Common.{◌≡◌, ◌<◌, ℕ}
use Rattle.crew_terms.specs.Limits.{IsPermittedVisit}
use Rattle.label_pricing.specs.Best.{IsBest}
use Rattle.potentials.specs.Table.{IsTableOf, phi}
use Rattle.label_pricing.proofs.minutes.fill_task_minutes.Given as goal

abbrev pub invariant-loop-t : goal.invariant-loop-t
invariant-loop-t g l = record {
  table : IsTableOf l.limits.limits.instance l.table;
  here : (t : ℕ) → t < l.t → IsPermittedVisit l.limits.limits l.k l.j t → IsBest l.limits.limits l.k (g.R.Rewards.earned l.limits.limits l.prices l.k) l.j t (phi l.table l.j t);
  others : (h t : ℕ) → h < l.j → phi l.table h t ≡ phi l.fn.table h t;
}
