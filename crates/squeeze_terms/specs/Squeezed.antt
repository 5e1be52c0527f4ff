-- what a price run hands out
use Rattle.std.specs.Prelude.{◌≡◌, ◌≤◌, ◌<◌, ℕ, ℤ, ◌≤ℤ◌, ◌<ℤ◌, List, length}
use Rattle.crew_terms.specs.Instance.{Instance}
use Rattle.crew_terms.specs.declared.Visit.{Visit}
use Rattle.squeeze_terms.specs.Bound.{IsMinuteBound, IsMostProved}
use Rattle.squeeze_terms.specs.Run.{IsPriceRun, prices_after}

-- the bound is that of the prices after `best` steps, which none before equals and none behind exceeds
pub record IsFirstGreatest (i : Instance) (trace : List (List (List Visit))) (best : ℕ) (bound : ℤ) : Type 0 where
  pub known : best ≤ length trace
  pub here : IsMinuteBound i (prices_after i trace best) bound
  pub greatest : (s : ℕ) (b : ℤ) → s ≤ length trace → IsMinuteBound i (prices_after i trace s) b → b ≤ℤ bound
  pub first : (s : ℕ) (b : ℤ) → s < best → IsMinuteBound i (prices_after i trace s) b → b <ℤ bound

-- a price run of so many steps, the first number of steps whose prices give the greatest bound, and the greatest number that it proves
pub record IsSqueezed (i : Instance) (steps best l : ℕ) (trace : List (List (List Visit))) : Type 0 where
  pub count : length trace ≡ steps
  pub run : IsPriceRun i trace
  pub bound : ℤ
  pub greatest : IsFirstGreatest i trace best bound
  pub proved : IsMostProved (length i.tasks) bound l
