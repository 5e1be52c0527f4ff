-- a master goes on along a run
use Rattle.std.proofs.Common.{◌≡◌, ◌<◌, ◌+◌, ◌++◌, ◌∷◌, [], ◌∙◌, ℕ, zero, suc, List, length, refl, ap, sym, subst, arith, length-append, Some}
use Rattle.std.specs.Prelude.{None, MatchOption}
use Rattle.crew_num.specs.declared.Overflow.{Overflow}
use Rattle.crew_terms.specs.Limits.{Limits, Route}
use Rattle.search_terms.specs.Rows.{Rows}
use Rattle.search_terms.specs.Opening.{entered, places}
use Rattle.search_terms.specs.Pivot.{ArePivots, IsOptimal}
use Rattle.search_terms.specs.MasterRun.{MasterRun, IsMasterRun, IsRunOver}
use Rattle.search_terms.specs.MasterRun.MasterRun.{Enters, Pivots}
use Rattle.search_terms.specs.Overflows.{OverflowAt}
use Rattle.search_terms.specs.Overflows.OverflowAt.{InColumn, InPivot}
use Rattle.search_terms.specs.Overflows.IsOfColumn.{Column}
use Rattle.frac_master.specs.declared.solved.Solved.{Solved}
use Rattle.frac_master.specs.declared.solved.Solved.TheVariants.{Optimal, Overflow as Overflowed, Spent}
use Rattle.frac_master.specs.Running.{Runs}
use Rattle.frac_master.specs.State.{MasterState}
use Rattle.frac_master.specs.Solving.{Solves, SolvesOn, overflow_of}
use Rattle.frac_master.specs.Adding.{IsColumnFault, with_column}
use Rattle.frac_master.specs.Follows.{FollowsList, FollowsRun, RunStops, SolvesAlong}

follow : (n : Limits) (may : Rows → Type 0) (routes : List Route) (before k : ℕ) (t u : Rows) → MasterRun n may routes before t → ArePivots k t u → MasterRun n may routes (before + k) u
follow n may routes before zero t u run e = subst (λ b. MasterRun n may routes b u) (let z : before ≡ before + 0 = omega arith in z) (subst (MasterRun n may routes before) e run)
follow n may routes before (suc k) t u run p =
    let m = follow n may routes before k t p.0 run p.1 in
    subst (λ b. MasterRun n may routes b u) (let z : suc (before + k) ≡ before + suc k = omega arith in z) (Pivots m p.2)

pub solves_run : (old new : MasterState) (pivots : ℕ) (solved : Solved) → SolvesOn old pivots solved new → (n : Limits) (routes : List Route) (before : ℕ)
    → FollowsRun n routes before old → new.ended ≡ None → FollowsRun n routes (before + new.made) new
solves_run old new pivots Optimal s n routes before w none = record {
  places = s.places ∙ w.places;
  columns = ap length s.columns ∙ w.columns;
  going = none;
  run = follow n _ routes before new.made old.rows new.rows w.run s.pivoted.1;
}
solves_run old new pivots Spent s n routes before w none = record {
  places = s.places ∙ w.places;
  columns = ap length s.columns ∙ w.columns;
  going = none;
  run = follow n _ routes before new.made old.rows new.rows w.run s.pivoted.1;
}
solves_run old new pivots (Overflowed f) s n routes before w none = let e : None ≡ Some f = sym none ∙ s.ended in absurd (cc)

pub solves_list : (old new : MasterState) (pivots : ℕ) (solved : Solved) → SolvesOn old pivots solved new → (n : Limits) (routes : List Route) (before : ℕ)
    → FollowsList n routes before old → SolvesAlong n routes before pivots solved new
solves_list old new pivots Optimal s n routes before w = (
  s.pivoted.0,
  record {
    places = s.places ∙ w.places;
    columns = ap length s.columns ∙ w.columns;
    going = s.ended;
    run = follow n _ routes before new.made old.rows new.rows w.run s.pivoted.1;
  },
  s.pivoted.2,
)
solves_list old new pivots Spent s n routes before w = (
  s.pivoted.0,
  record {
    places = s.places ∙ w.places;
    columns = ap length s.columns ∙ w.columns;
    going = s.ended;
    run = subst (λ k. IsRunOver n routes (before + k) new.rows) s.pivoted.0 (follow n _ routes before new.made old.rows new.rows w.run s.pivoted.1);
  },
)
solves_list old new pivots (Overflowed f) s n routes before w =
    let p = s.pivoted.1 in (
      s.pivoted.0,
      record {
        rows = p.0;
        run = follow n _ routes before new.made old.rows p.0 w.run p.1;
        overflow = λ coming. InPivot p.2.leaves p.2.how;
      },
    )

pub solves_from : (old new : MasterState) (pivots : ℕ) (solved : Solved) → old.ended ≡ None → SolvesOn old pivots solved new → Solves old pivots solved new
solves_from old new pivots solved e s = subst (λ o. MatchOption o (SolvesOn old pivots solved new) (λ f. (solved ≡ Overflowed f) × (new ≡ old))) (sym e) s

pub no_overflow : (solved : Solved) → ((f : Overflow) → solved ≡ Overflowed f → ⊥) → overflow_of solved ≡ None
no_overflow Optimal none = refl
no_overflow Spent none = refl
no_overflow (Overflowed f) none = absurd (none f refl)

pub ended_not : (n : Limits) (routes : List Route) (before : ℕ) (m : MasterState) (f : Overflow) → m.ended ≡ Some f → FollowsList n routes before m → ⊥
ended_not n routes before m f e w = let g : None ≡ Some f = sym w.going ∙ e in absurd (cc)

pub ended_not_run : (n : Limits) (routes : List Route) (before : ℕ) (m : MasterState) (f : Overflow) → m.ended ≡ Some f → FollowsRun n routes before m → ⊥
ended_not_run n routes before m f e w = let g : None ≡ Some f = sym w.going ∙ e in absurd (cc)

-- a route enters along a run
one_more : (columns : List ℕ) (routes : List Route) (id : ℕ) (r : Route) → length columns ≡ length routes → length (columns ++ id ∷ []) ≡ length (routes ++ r ∷ [])
one_more columns routes id r e = length-append columns (id ∷ []) ∙ ap (λ k. k + 1) e ∙ sym (length-append routes (r ∷ []))

pub adds_run : (old : MasterState) (id : ℕ) (r : Route) (n : Limits) (routes : List Route) (made : ℕ) → FollowsRun n routes made old → FollowsRun n (routes ++ r ∷ []) made (with_column old id r)
adds_run old id r n routes made w = record {
  places = w.places;
  columns = one_more old.columns routes id r w.columns;
  going = w.going;
  run = subst (λ ps. IsMasterRun n (routes ++ r ∷ []) made (entered ps r old.rows)) (sym w.places) (Enters r w.run tt);
}

pub adds_list : (old : MasterState) (id : ℕ) (r : Route) (n : Limits) (routes : List Route) (made : ℕ) → FollowsList n routes made old → IsOptimal old.rows
    → FollowsList n (routes ++ r ∷ []) made (with_column old id r)
adds_list old id r n routes made w done = record {
  places = w.places;
  columns = one_more old.columns routes id r w.columns;
  going = w.going;
  run = subst (λ ps. IsRunOver n (routes ++ r ∷ []) made (entered ps r old.rows)) (sym w.places) (Enters r w.run done);
}

pub column_belongs : (old : MasterState) (r : Route) (f : Overflow) (n : Limits) (rest : List Route) → old.places ≡ places n → IsOptimal old.rows → IsColumnFault old r f → OverflowAt n old.rows (r ∷ rest) f
column_belongs old r f n rest same done c =
    let h = c.how n same in
    InColumn c.leaves done (Column r rest refl h.0 h.1 h.2)

pub overflow_list : (old : MasterState) (pivots made : ℕ) (u : Rows) (f : Overflow) → Runs old.rows pivots made (Overflowed f) u → (n : Limits) (routes : List Route) (before : ℕ)
    → FollowsList n routes before old → (made < pivots) × RunStops n routes (before + made) f
overflow_list old pivots made u f r n routes before w =
    let p = r.1 in (
      r.0,
      record { rows = p.0; run = follow n _ routes before made old.rows p.0 w.run p.1; overflow = λ coming. InPivot p.2.leaves p.2.how },
    )
