-- a master that no overflow has ended goes on
use Rattle.std.proofs.Common.{◌≡◌, ◌<◌, unsigned_abs, ℕ, zero, suc, List, length, refl, subst}
use Rattle.std.specs.Int.{◌∣◌}
use Rattle.crew_num.specs.declared.Overflow.{Overflow}
use Rattle.crew_terms.specs.Limits.{Limits}
use Rattle.search_terms.specs.declared.Place.{Place}
use Rattle.search_terms.specs.Rows.{Rows, number, row_of, width, AreBasic, AreFeasible}
use Rattle.search_terms.specs.Pivot.{ArePivots, IsPivot, IsImproving, IsBounding}
use Rattle.crew_terms.specs.Limits.{Route}
use Rattle.search_terms.specs.MasterRun.{IsMasterRun}
use Rattle.search_terms.specs.MasterRun.MasterRun.{Pivots as Pivoted}
use Rattle.frac_master.specs.State.{IsOfRun}
use Rattle.kept_rows.specs.State.{State}
use Rattle.frac_master.specs.Running.{CanRun, Runs}
use Rattle.frac_master.specs.declared.solved.Solved.{Solved}
use Rattle.frac_master.specs.declared.solved.Solved.TheVariants.{Optimal, Overflow as Overflowed, Spent}

-- the laws that the calls hand over
pub record Laws : Type 0 where
  pub widths : (t next : Rows) → AreBasic t → IsPivot t next → width next ≡ width t
  pub feasible : (n : Limits) (routes : List Route) (made : ℕ) (t : Rows) → IsMasterRun n routes made t → AreFeasible t
  pub bounds : (n : Limits) (routes : List Route) (made v : ℕ) (t : Rows) → IsMasterRun n routes made t → IsImproving t v → ((h : ℕ) → IsBounding t v h → ⊥) → ⊥
  pub lowest : (n : Limits) (routes : List Route) (made h d : ℕ) (t : Rows) → IsMasterRun n routes made t → h < length t.rows → ((j : ℕ) → j < length (row_of t h) → d ∣ unsigned_abs (number (row_of t h) j)) → d ≡ 1

pub extend : (k : ℕ) (ps : List Place) (t u : Rows) → IsOfRun ps t → ArePivots k t u → IsOfRun ps u
extend zero ps t u o e = subst (IsOfRun ps) e o
extend (suc k) ps t u o p =
    let m = extend k ps t p.0 o p.1 in
    record { limits = m.limits; same = m.same; routes = m.routes; teams = m.teams; made = suc m.made; run = Pivoted m.run p.2 }

pub can_run : (l : Laws) (ps : List Place) (t : Rows) → IsOfRun ps t → CanRun t
can_run l ps t o = record {
  each = λ k u p.
      let m = extend k ps t u o p in
      record {
        basic = (l.feasible m.limits m.routes m.made u m.run).basic;
        bounded = λ v i idle. l.bounds m.limits m.routes m.made v u m.run i idle;
        lowest = λ h below. record { only = λ d all. l.lowest m.limits m.routes m.made h d u m.run below all };
      };
}

pub pivots_of : (t u : Rows) (pivots made : ℕ) (solved : Solved) → Runs t pivots made solved u → ((f : Overflow) → solved ≡ Overflowed f → ⊥) → ArePivots made t u
pivots_of t u pivots made Optimal r none = r.1
pivots_of t u pivots made Spent r none = r.1
pivots_of t u pivots made (Overflowed f) r none = absurd (none f refl)

-- and it is of the same node and the same routes
pub record Extended (ps : List Place) (t u : Rows) (o : IsOfRun ps t) : Type 0 where
  pub run : IsOfRun ps u
  pub limits : run.limits ≡ o.limits
  pub routes : length run.routes ≡ length o.routes

pub extend_keeps : (k : ℕ) (ps : List Place) (t u : Rows) (o : IsOfRun ps t) → ArePivots k t u → Extended ps t u o
extend_keeps zero ps t u o e = record {
  run = record { limits = o.limits; same = o.same; routes = o.routes; teams = o.teams; made = o.made; run = subst (IsMasterRun o.limits o.routes o.made) e o.run };
  limits = refl;
  routes = refl;
}
extend_keeps (suc k) ps t u o p =
    let m = extend_keeps k ps t p.0 o p.1 in
    record {
      run = record { limits = m.run.limits; same = m.run.same; routes = m.run.routes; teams = m.run.teams; made = suc m.run.made; run = Pivoted m.run.run p.2 };
      limits = m.limits;
      routes = m.routes;
    }

-- so many pivots were made from the one to the other
pub record IsRunTo (old : State) (made : ℕ) (new : State) : Type 0 where
  pub pivots : ArePivots made old.rows new.rows
  pub openers : new.openers ≡ old.openers
