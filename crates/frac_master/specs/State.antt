-- a master as its callers see it, and how it opens
use Rattle.std.specs.Prelude.{◌≡◌, ◌<◌, ℕ, List, [], Option, None, All}
use Rattle.crew_num.specs.declared.Overflow.{Overflow}
use Rattle.crew_terms.specs.Limits.{Limits, Route, teams_in}
use Rattle.search_terms.specs.declared.Place.{Place}
use Rattle.search_terms.specs.Rows.{Rows}
use Rattle.search_terms.specs.Opening.{opening, places}
use Rattle.search_terms.specs.MasterRun.{IsMasterRun}

-- the places of the opening rows, the numbers of the columns that entered, the rows, the overflow that ended the master,
-- and the pivots of the last solve
pub record MasterState : Type 0 where
  pub places : List Place
  pub columns : List ℕ
  pub rows : Rows
  pub ended : Option Overflow
  pub made : ℕ

-- the master of a node without routes
abbrev pub opened : Limits → MasterState
opened n = record { places = places n; columns = []; rows = opening n; ended = None; made = 0 }

-- the rows are those of a run in some node with these places, over routes of its teams
pub record IsOfRun (ps : List Place) (t : Rows) : Type 0 where
  pub limits : Limits
  pub same : ps ≡ places limits
  pub routes : List Route
  pub teams : All (λ (r : Route). r.team < teams_in limits) routes
  pub made : ℕ
  pub run : IsMasterRun limits routes made t
