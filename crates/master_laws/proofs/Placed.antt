-- what stands in the places of a node; a run over a list is a run
use Rattle.std.proofs.Common.{◌≡◌, ◌<◌, ◌∙◌, ℕ, suc, zero, List, ap, sym, arith, Contains, ◌↔◌}
use Rattle.std.proofs.lemmas.List.{get_or_default}
use Rattle.crew_terms.specs.Limits.{Limits, Route, tasks_in, teams_in, pair_of, is_required}
use Rattle.crew_terms.specs.declared.Pair.TheVariants.{Required}
use Rattle.crew_terms.specs.Nodes.{required_is}
use Rattle.search_terms.specs.declared.Place.{Place}
use Rattle.search_terms.specs.declared.Place.TheVariants.{Right, Value, Unused, Shortage, Missed}
use Rattle.search_terms.specs.Rows.{Rows}
use Rattle.search_terms.specs.Opening.{places}
use Rattle.search_terms.specs.MasterRun.{MasterRun, IsMasterRun}
use Rattle.search_terms.specs.MasterRun.MasterRun.{Opens, Pivots, Enters}
use Rattle.master_laws.proofs.Stands.{Stands, unused_stands, shortage_stands, missed_stands}
use Rattle.master_laws.proofs.Known.{stands_known}

contained : (n : Limits) (p : Place) → Stands n p → Contains (places n) p
contained n p s = (s.at, s.known, get_or_default (places n) s.at p Right s.known ∙ s.is)

standing : (n : Limits) (p : Place) → (p ≡ Right → ⊥) → (p ≡ Value → ⊥) → Contains (places n) p → Stands n p
standing n p nr nv (zero, lt, e) = absurd (nr (sym e))
standing n p nr nv (suc zero, lt, e) = absurd (nv (sym e))
standing n p nr nv (suc (suc k), lt, e) = record { at = suc (suc k); variable = omega arith; known = lt; is = get_or_default (places n) (suc (suc k)) Right p lt ∙ e }

pub teams_stand : (n : Limits) (k : ℕ) → Contains (places n) (Unused k) ↔ (k < teams_in n)
teams_stand n k = (
  λ c. stands_known n (Unused k) (standing n (Unused k) (λ e. absurd (cc)) (λ e. absurd (cc)) c),
  λ lt. contained n (Unused k) (unused_stands n k lt),
)

pub tasks_stand : (n : Limits) (j : ℕ) → Contains (places n) (Shortage j) ↔ (j < tasks_in n)
tasks_stand n j = (
  λ c. stands_known n (Shortage j) (standing n (Shortage j) (λ e. absurd (cc)) (λ e. absurd (cc)) c),
  λ lt. contained n (Shortage j) (shortage_stands n j lt),
)

pub pairs_stand : (n : Limits) (k j : ℕ) → Contains (places n) (Missed k j) ↔ ((k < teams_in n) × (j < tasks_in n) × (pair_of n k j ≡ Required))
pairs_stand n k j = (
  λ c. let f = stands_known n (Missed k j) (standing n (Missed k j) (λ e. absurd (cc)) (λ e. absurd (cc)) c) in
      (f.team, f.task, required_is (pair_of n k j) f.required),
  λ q. contained n (Missed k j) (missed_stands n k j q.0 q.1 (ap is_required q.2)),
)

-- a run that enters routes where no variable has a negative reduced cost is a run
pub listed_run : (n : Limits) (may : Rows → Type 0) (routes : List Route) (made : ℕ) (t : Rows) → MasterRun n may routes made t → IsMasterRun n routes made t
listed_run n may _ _ _ Opens = Opens
listed_run n may _ _ _ (Pivots {routes} {made} {t} {next} run p) = Pivots (listed_run n may routes made t run) p
listed_run n may _ _ _ (Enters {routes} {made} {t} r run m) = Enters r (listed_run n may routes made t run) tt
