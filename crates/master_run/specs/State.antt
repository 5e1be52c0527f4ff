-- a run as its callers see it
use Rattle.std.specs.Prelude.{◌≤◌, ℕ, suc, List, [], ◌∷◌, map}
use Rattle.crew_terms.specs.Limits.{Route}
use Rattle.column_arena.specs.Columns.{column_of}
use Rattle.frac_master.specs.State.{MasterState}

-- the master; the numbers of the columns that entered, in their order; how many pivots the run may make, and how many it
-- has left
pub record RunState : Type 0 where
  pub master : MasterState
  pub ids : List ℕ
  pub pivots : ℕ
  pub left : ℕ

-- the routes of the columns with these numbers
abbrev pub routes_of : List Route → List ℕ → List Route
routes_of columns ids = map (column_of columns) ids

-- the numbers are at least `from`, and rise
abbrev pub Rise : ℕ → List ℕ → Type 0
Rise from [] = Unit {0}
Rise from (id ∷ ids) = (from ≤ id) × Rise (suc id) ids
