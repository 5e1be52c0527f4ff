-- rows of whole numbers, as the simplex method without division has them, and the vectors that solve them
use Rattle.std.specs.Prelude.{◌≡◌, ◌≢◌, ◌<◌, ◌-◌, ◌↔◌, ℕ, ℤ, pos, ◌*ℤ◌, ◌≤ℤ◌, ◌<ℤ◌, List, [], length, slice_index_or}
use Rattle.crew_terms.specs.Total.{total}
use Rattle.search_terms.specs.declared.TheConstants.{RIGHT, VALUE}

-- the right side, then the number of the value, then those of the variables in order
abbrev pub Row : Type 0
Row = List ℤ

-- the number at place j
abbrev pub number : Row → ℕ → ℤ
number row j = slice_index_or row j (pos 0)

-- a row for each team, task and required pair, and last the value's; and the place of each row's basic variable
pub record Rows : Type 0 where
  pub rows : List Row
  pub basis : List ℕ

-- row h
abbrev pub row_of : Rows → ℕ → Row
row_of t h = slice_index_or t.rows h []

-- the place of the basic variable of row h
abbrev pub basic_of : Rows → ℕ → ℕ
basic_of t h = slice_index_or t.basis h 0

-- the number of the value's row
abbrev pub last : Rows → ℕ
last t = length t.rows - 1

-- the row of the value
abbrev pub value_row : Rows → Row
value_row t = row_of t (last t)

-- how many places the rows have
abbrev pub width : Rows → ℕ
width t = length (value_row t)

-- the sum of the products of the row's numbers and the vector's
abbrev pub product : Row → (ℕ → ℤ) → ℤ
product row x = total (length row) (λ j. number row j *ℤ x j)

-- the vector solves each row: it has less its denominator at the place of the right side
abbrev pub IsSolution : Rows → (ℕ → ℤ) → Type 0
IsSolution t x = (h : ℕ) → h < length t.rows → product (row_of t h) x ≡ pos 0

-- rows of one length, each with a variable that is positive in it and stands in no other row
pub record AreBasic (t : Rows) : Type 0 where
  pub some : 0 < length t.rows
  pub count : length t.basis ≡ length t.rows
  pub widths : (h : ℕ) → h < length t.rows → length (row_of t h) ≡ width t
  pub known : (h : ℕ) → h < length t.rows → basic_of t h < width t
  pub value : basic_of t (last t) ≡ VALUE
  pub others : (h : ℕ) → h < last t → VALUE < basic_of t h
  pub positive : (h : ℕ) → h < length t.rows → pos 0 <ℤ number (row_of t h) (basic_of t h)
  pub alone : (h i : ℕ) → h < length t.rows → i < length t.rows → h ≢ i → number (row_of t i) (basic_of t h) ≡ pos 0

-- the basic solution is feasible: no right side is negative
pub record AreFeasible (t : Rows) : Type 0 where
  pub basic : AreBasic t
  pub rights : (h : ℕ) → h < last t → pos 0 ≤ℤ number (row_of t h) RIGHT

-- the same vectors solve both
abbrev pub HaveSameSolutions : Rows → Rows → Type 0
HaveSameSolutions t u = (x : ℕ → ℤ) → IsSolution t x ↔ IsSolution u x
