-- a price run after some steps
use Rattle.std.specs.Prelude.{◌≡◌, ℕ, length, map}
use Rattle.std.specs.List.{range_with_len}
use Rattle.crew_terms.specs.Instance.{Instance}
use Rattle.squeeze_terms.specs.Run.{AreBestRoutes, IsPriceRun, demand_minute, prices_after}
use Rattle.squeeze_terms.specs.Squeezed.{IsFirstGreatest}
use Rattle.price_run.specs.declared.runs.Run.{Run}

-- the prices after so many steps, with their demands and routes; the routes of these steps; and the first of the greatest bounds so far
pub record IsRunAfter (i : Instance) (s : ℕ) (run : Run) : Type 0 where
  pub count : length run.trace ≡ s
  pub is_run : IsPriceRun i run.trace
  pub prices_are : run.prices ≡ prices_after i run.trace s
  pub demands_are : run.demands.items ≡ map (demand_minute i run.prices) (range_with_len 0 (length i.tasks))
  pub routes_are : AreBestRoutes i run.prices run.routes
  pub greatest : IsFirstGreatest i run.trace run.best.steps run.best.bound
