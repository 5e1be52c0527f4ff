-- a master along a run of its node
use Rattle.std.specs.Prelude.{◌≡◌, ◌<◌, ◌+◌, ◌++◌, ◌∷◌, [], ℕ, List, length, None}
use Rattle.crew_num.specs.declared.Overflow.{Overflow}
use Rattle.crew_terms.specs.Limits.{Limits, Route}
use Rattle.search_terms.specs.Rows.{Rows}
use Rattle.search_terms.specs.Opening.{places}
use Rattle.search_terms.specs.Pivot.{IsOptimal}
use Rattle.search_terms.specs.MasterRun.{IsMasterRun, IsRunOver}
use Rattle.search_terms.specs.Overflows.{OverflowAt}
use Rattle.frac_master.specs.declared.solved.Added.{Added}
use Rattle.frac_master.specs.declared.solved.Added.TheVariants.{Done, Overflow as AddOverflow}
use Rattle.frac_master.specs.declared.solved.Solved.{Solved}
use Rattle.frac_master.specs.declared.solved.Solved.TheVariants.{Optimal, Overflow as SolveOverflow, Spent}
use Rattle.frac_master.specs.State.{MasterState}

-- the master is where a run of the node comes after these routes, entered in order, and so many pivots
pub record FollowsRun (n : Limits) (routes : List Route) (made : ℕ) (m : MasterState) : Type 0 where
  pub places : m.places ≡ places n
  pub columns : length m.columns ≡ length routes
  pub going : m.ended ≡ None
  pub run : IsMasterRun n routes made m.rows

-- and the run is that over the list: each route entered where no variable had a negative reduced cost
pub record FollowsList (n : Limits) (routes : List Route) (made : ℕ) (m : MasterState) : Type 0 where
  pub places : m.places ≡ places n
  pub columns : length m.columns ≡ length routes
  pub going : m.ended ≡ None
  pub run : IsRunOver n routes made m.rows

-- the run over the list comes to rows to which the overflow belongs
pub record RunStops (n : Limits) (routes : List Route) (made : ℕ) (f : Overflow) : Type 0 where
  pub rows : Rows
  pub run : IsRunOver n routes made rows
  pub overflow : (coming : List Route) → OverflowAt n rows coming f

-- where a solve of so many pivots leads along the run over a list, that had made some pivots before
abbrev pub SolvesAlong : Limits → List Route → ℕ → ℕ → Solved → MasterState → Type 0
SolvesAlong n routes before pivots Optimal m = (m.made < pivots) × FollowsList n routes (before + m.made) m × IsOptimal m.rows
SolvesAlong n routes before pivots Spent m = (m.made ≡ pivots) × FollowsList n routes (before + pivots) m
SolvesAlong n routes before pivots (SolveOverflow f) m = (m.made < pivots) × RunStops n routes (before + m.made) f

-- where a route leads along the run over a list
abbrev pub AddsAlong : Limits → List Route → ℕ → MasterState → Route → Added → MasterState → Type 0
AddsAlong n routes made old r Done new = FollowsList n (routes ++ r ∷ []) made new
AddsAlong n routes made old r (AddOverflow f) new = (rest : List Route) → OverflowAt n old.rows (r ∷ rest) f
