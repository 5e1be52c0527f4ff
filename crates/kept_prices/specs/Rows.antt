-- rows of prices, of which those that are all 0 are left out
use Rattle.std.specs.Prelude.{◌≡◌, ℕ, ℤ, pos, List, [], ◌∷◌, length, map, replicate, slice_index_or, slice_set}
use Rattle.std.specs.Global.{Vec}
use Rattle.crew_terms.specs.Leaf.{IsPrice, Prices}

-- the row, or zeros where it is left out
abbrev pub whole_row : ℕ → List ℤ → List ℤ
whole_row n [] = replicate n (pos 0)
whole_row n (x ∷ xs) = x ∷ xs

-- the row is left out, or has so many prices
pub data IsRowFor (n : ℕ) (row : List ℤ) : Type 0 where
  LeftOut : (none : row ≡ []) → IsRowFor n row
  Whole : (count : length row ≡ n) → IsRowFor n row

-- the prices with another row of team k
abbrev pub with_row : Prices → ℕ → List ℤ → Prices
with_row p k row = record p { rho = slice_set p.rho k row }

-- the rows, with zeros where one is left out
abbrev pub rows_in : ℕ → List (Vec ℤ) → List (List ℤ)
rows_in n rows = map (λ (row : Vec ℤ). whole_row n row.items) rows

-- the row of a team
abbrev pub row_at : List (Vec ℤ) → ℕ → List ℤ
row_at rows k = slice_index_or (map (λ (row : Vec ℤ). row.items) rows) k []

-- each row is left out or has so many prices, in their range
pub record AreRows (n : ℕ) (rows : List (Vec ℤ)) : Type 0 where
  pub count : (k : ℕ) → IsRowFor n (row_at rows k)
  pub range : (k j : ℕ) → IsPrice (slice_index_or (row_at rows k) j (pos 0))
