-- the room of pricing, and what it holds of the team that was priced last
use Rattle.std.specs.Prelude.{◌≤◌, ℕ, ℤ, length, vec_capacity, ◌+◌}
use Rattle.crew_terms.specs.Limits.{Limits}
use Rattle.crew_terms.specs.declared.TheConstants.{LAST_MINUTE}
use Rattle.label_pricing.specs.Cells.{AreCells, IsGrid}
use Rattle.label_pricing.specs.Turns.{AreTurns, IsEnd, IsStart}
use Rattle.label_pricing.specs.declared.workspace.Workspace.{Workspace}

-- there is room for any team of an instance with so many places
pub record HasWorkRoom (places : ℕ) (a : Workspace) : Type 0 where
  pub turns : 400 ≤ vec_capacity a.turns
  pub near : 400 ≤ vec_capacity a.near
  pub cells : IsGrid places a.cells.items
  pub route : LAST_MINUTE + 1 ≤ vec_capacity a.route

-- it holds what team k can earn in the node by these prices
pub record HasPriced (n : Limits) (k : ℕ) (w : ℕ → ℕ → ℤ) (a : Workspace) : Type 0 where
  pub turns : AreTurns n k a.turns.items
  pub start : IsStart n k a.start
  pub end : IsEnd n k a.end
  pub order : a.start ≤ a.end
  pub day : a.end ≤ LAST_MINUTE + 1
  pub grid : IsGrid (length n.instance.places) a.cells.items
  pub cells : AreCells n k w a.start a.end a.cells.items
