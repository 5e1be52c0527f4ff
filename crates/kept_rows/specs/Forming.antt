-- the number of an entered variable in each row: a sum in order
use Rattle.std.specs.Prelude.{◌<◌, ◌++◌, ◌∷◌, [], ℕ, ℤ, List, length, map, ◌*ℤ◌}
use Rattle.crew_num.specs.declared.Overflow.{Overflow}
use Rattle.crew_terms.specs.Total.{total}
use Rattle.search_terms.specs.Rows.{Row, number}
use Rattle.kept_rows.specs.Clearing.{at_row}
use Rattle.kept_rows.specs.Sums.{IsAddFault, IsSumFault, sum_to}
use Rattle.kept_rows.specs.State.{State}

-- the sum of the first m numbers, each times its number
abbrev pub sum_of : ℕ → Row → List ℤ → ℤ
sum_of m row numbers = total m (λ h. number row h *ℤ number numbers h)

-- an operation of the running sum leaves the range
pub record IsRunningFault (row : Row) (numbers : List ℤ) (f : Overflow) : Type 0 where
  pub h : ℕ
  pub known : h < length numbers
  pub first : IsAddFault (sum_of h row numbers) (number row h) (number numbers h) f

-- an operation of a row's sum leaves i128
pub record IsFormingFault (rows : List Row) (numbers : List ℤ) (f : Overflow) : Type 0 where
  pub i : ℕ
  pub known : i < length rows
  pub sum : IsRunningFault (at_row rows i) numbers f

-- an operation of a row's sum over these places leaves i128
pub record IsRowFault (rows : List Row) (at : List ℕ) (numbers : List ℤ) (f : Overflow) : Type 0 where
  pub h : ℕ
  pub known : h < length rows
  pub sum : IsSumFault (at_row rows h) at numbers f

-- what the row says of these opening rows' numbers
abbrev pub entry_of : List ℕ → List ℤ → Row → ℤ
entry_of at numbers row = sum_to (length at) row at numbers

-- a variable with so many times each opening row is the last
abbrev pub with_variable : List ℤ → State → State
with_variable numbers s = record s {
  rows = record s.rows { rows = map (λ row. row ++ entry_of s.openers numbers row ∷ []) s.rows.rows };
}
