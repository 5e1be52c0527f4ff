-- pivots in a row
use Rattle.std.specs.Prelude.{◌≡◌, ◌<◌, ℕ}
use Rattle.search_terms.specs.Rows.{Rows}
use Rattle.search_terms.specs.Pivot.{ArePivots, IsOptimal}
use Rattle.frac_master.specs.Stepping.{CanStep, IsPivotFault}
use Rattle.frac_master.specs.declared.solved.Solved.{Solved}
use Rattle.frac_master.specs.declared.solved.Solved.TheVariants.{Optimal, Overflow as Overflowed, Spent}

-- whichever rows pivots lead to can be pivoted on
pub record CanRun (t : Rows) : Type 0 where
  pub each : (made : ℕ) (u : Rows) → ArePivots made t u → CanStep u

-- pivots are made until no variable has a negative reduced cost, or one overflows, or there are so many
abbrev pub Runs : Rows → ℕ → ℕ → Solved → Rows → Type 0
Runs t pivots made Optimal u = (made < pivots) × ArePivots made t u × IsOptimal u
Runs t pivots made Spent u = (made ≡ pivots) × ArePivots made t u
Runs t pivots made (Overflowed f) u = (made < pivots) × ((s : Rows) × ArePivots made t s × IsPivotFault s f)
