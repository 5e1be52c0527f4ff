-- rows, and the places of the variables with which they opened
use Rattle.std.specs.Prelude.{◌≡◌, ◌<◌, ℕ, pos, List, length}
use Rattle.search_terms.specs.Rows.{Rows, number, row_of, basic_of, width, AreBasic}
use Rattle.search_terms.specs.declared.TheConstants.{VALUE}
use Rattle.search_terms.specs.Pivot.{IsBounding}
use Rattle.kept_rows.specs.Replacement.{IsLowest}

pub record State : Type 0 where
  pub rows : Rows
  pub openers : List ℕ

-- the variable at place v can enter at row h
pub record CanPivot (t : Rows) (v h : ℕ) : Type 0 where
  pub basic : AreBasic t
  pub variable : VALUE < v
  pub known : v < width t
  pub bounds : IsBounding t v h
  pub lowest : (i : ℕ) → i < length t.rows → IsLowest (row_of t i)

-- rows whose basic variables have 1 in their own row, and 0 in the others
pub record AreOpening (t : Rows) : Type 0 where
  pub basic : AreBasic t
  pub ones : (h : ℕ) → h < length t.rows → number (row_of t h) (basic_of t h) ≡ pos 1
