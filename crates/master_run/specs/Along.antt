-- where a run stands, and why it goes no further
use Rattle.std.specs.Prelude.{◌≡◌, ◌<◌, ◌+◌, ℕ, List, ◌++◌, length, All}
use Rattle.crew_terms.specs.Limits.{Limits, Route}
use Rattle.search_terms.specs.Pivot.{IsOptimal}
use Rattle.search_terms.specs.Earned.{AreLegalOf, RunIsSpent, RunOverflows}
use Rattle.frac_master.specs.Follows.{FollowsList}
use Rattle.master_run.specs.State.{Rise, RunState, routes_of}
use Rattle.master_run.specs.declared.halt.Halt.{Halt}
use Rattle.master_run.specs.declared.halt.Halt.TheVariants.{OutOfMemory, Overflow, Spent}

-- the master is where the run over the columns that entered comes, after the pivots that are no longer left
pub record IsAlong (n : Limits) (columns : List Route) (r : RunState) : Type 0 where
  pub known : All (λ id. id < length columns) r.ids
  pub rise : Rise 0 r.ids
  pub entered : r.master.columns ≡ r.ids
  pub made : ℕ
  pub count : made + r.left ≡ r.pivots
  pub follows : FollowsList n (routes_of columns r.ids) made r.master

-- there no variable has a negative reduced cost, and pivots are left
pub record IsAtOptimum (n : Limits) (columns : List Route) (r : RunState) : Type 0 where
  pub along : IsAlong n columns r
  pub done : IsOptimal r.master.rows
  pub some : 0 < r.left

-- and the columns that entered are those that are routes in the node: the run over the columns ends here
pub record IsOver (n : Limits) (columns : List Route) (r : RunState) : Type 0 where
  pub at : IsAtOptimum n columns r
  pub legal : AreLegalOf n columns (routes_of columns r.ids)

-- the columns earn a split of the node where the run over them goes no further, unless memory ran out
abbrev pub Halts : Limits → ℕ → List Route → Halt → Type 0
Halts n pivots columns OutOfMemory = Unit {0}
Halts n pivots columns (Overflow fault) = RunOverflows n pivots columns fault
Halts n pivots columns Spent = RunIsSpent n pivots columns

-- it goes no further over whichever columns of which these routes are the first that are legal
abbrev pub HaltsAfter : Limits → ℕ → List Route → Halt → Type 0
HaltsAfter n pivots routes halt = (columns rest : List Route) → AreLegalOf n columns (routes ++ rest) → Halts n pivots columns halt
