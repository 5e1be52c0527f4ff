-- runs of the master problem, by the simplex method over routes that enter one by one
use Rattle.std.specs.Prelude.{ℕ, suc, List, [], ◌∷◌, ◌++◌}
use Rattle.crew_terms.specs.Limits.{Limits, Route}
use Rattle.search_terms.specs.Rows.{Rows}
use Rattle.search_terms.specs.Opening.{places, opening, entered}
use Rattle.search_terms.specs.Pivot.{IsPivot, IsOptimal}

-- from the opening rows, with these routes entered in order and so many pivots made, a run comes to these rows; it
-- enters a route where it may
pub data MasterRun (n : Limits) (may : Rows → Type 0) : List Route → ℕ → Rows → Type 0 where
  Opens : MasterRun n may [] 0 (opening n)
  Pivots : {routes : List Route} {made : ℕ} {t next : Rows} (run : MasterRun n may routes made t) (pivot : IsPivot t next)
      → MasterRun n may routes (suc made) next
  Enters : {routes : List Route} {made : ℕ} {t : Rows} (r : Route) (run : MasterRun n may routes made t) (free : may t)
      → MasterRun n may (routes ++ r ∷ []) made (entered (places n) r t)

-- any run
abbrev pub IsMasterRun : Limits → List Route → ℕ → Rows → Type 0
IsMasterRun n routes made t = MasterRun n (λ _. Unit {0}) routes made t

-- the run over a list of routes, which enters the next one where no variable has a negative reduced cost: these are its
-- rows with so many routes entered, so the run over a front of a list is a front of the run over the list
abbrev pub IsRunOver : Limits → List Route → ℕ → Rows → Type 0
IsRunOver n routes made t = MasterRun n IsOptimal routes made t
