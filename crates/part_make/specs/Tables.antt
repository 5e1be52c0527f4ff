-- tables of travel times
use Rattle.std.specs.Prelude.{◌≤◌, ◌<◌, ◌+◌, ℕ, List, [], length, map, min, slice_index, slice_index_or}
use Rattle.std.specs.List.{range_with_len}
use Rattle.crew_terms.specs.Instance.{Instance, minutes_between}
use Rattle.crew_terms.specs.Rules.{AreTimes}

-- the minutes from place a to place c in a table, which has a row for each place
abbrev pub minutes_in : List (List ℕ) → ℕ → ℕ → ℕ
minutes_in rows a c = slice_index (slice_index_or rows a []) c

-- the row of these minutes to each of so many places
abbrev pub row_of : ℕ → (ℕ → ℕ) → List ℕ
row_of places minutes = map minutes (range_with_len 0 places)

-- the table of these minutes from each of so many places to each
abbrev pub table_of : ℕ → (ℕ → ℕ → ℕ) → List (List ℕ)
table_of places minutes = map (λ a. row_of places (minutes a)) (range_with_len 0 places)

-- the minutes from a to c, by way of b where that is shorter
abbrev pub by_way_of : List (List ℕ) → ℕ → ℕ → ℕ → ℕ
by_way_of rows b a c = min (minutes_in rows a c) (minutes_in rows a b + minutes_in rows b c)

-- minutes between the places of i that are nowhere longer than its own; no way by one of the first places is shorter
pub record AreWaysBy (i : Instance) (first : ℕ) (rows : List (List ℕ)) : Type 0 where
  pub times : AreTimes (length i.places) rows
  pub shorter : (a c : ℕ) → a < length i.places → c < length i.places → minutes_in rows a c ≤ minutes_between i a c
  pub ways : (a b c : ℕ) → b < first → a < length i.places → c < length i.places → minutes_in rows a c ≤ minutes_in rows a b + minutes_in rows b c
