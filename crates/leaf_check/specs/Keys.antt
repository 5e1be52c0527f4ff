-- keys of rows: the numbers below a count of which a test holds, in order
use Rattle.std.specs.Prelude.{◌≡◌, ◌≤◌, ◌<◌, ◌-◌, nat_lt, ℕ, suc, ℤ, Bool, true, false, List, [], ◌∷◌, length, filter, Option, None, Some}
use Rattle.crew_terms.specs.Limits.{Limits, has_required, tasks_in}
use Rattle.std.specs.List.{range_with_len}
use Rattle.crew_terms.specs.Minutes.{first_minute, minute_count}

-- team k may begin the task at some minute
abbrev pub has_minutes : Limits → ℕ → ℕ → Bool
has_minutes n k j = nat_lt 0 (minute_count n k j)

-- the first minute at which team k may begin task j, and how many such minutes there are
pub record AreCounted (n : Limits) (k j first count : ℕ) : Type 0 where
  pub some : 0 < count
  pub opens : first ≡ first_minute n k j
  pub counted : count ≡ minute_count n k j

-- the first key from a number on, of those below a count
abbrev pub IsNextKey : (ℕ → Bool) → ℕ → ℕ → Option ℕ → Type 0
IsNextKey test count from None = (i : ℕ) → from ≤ i → i < count → test i ≡ false
IsNextKey test count from (Some j) = (from ≤ j) × (j < count) × (test j ≡ true)
    × ((i : ℕ) → from ≤ i → i < j → test i ≡ false)

-- the keys below a number
abbrev pub keys_below : (ℕ → Bool) → ℕ → List ℕ
keys_below test count = filter test (range_with_len 0 count)

-- the keys from a number on, of those below a count
abbrev pub keys_from : (ℕ → Bool) → ℕ → ℕ → List ℕ
keys_from test count from = filter test (range_with_len from (count - from))

-- the row of key j is due: those of the keys before it are read, and these keys come after it
pub record IsRowDue (test : ℕ → Bool) (count : ℕ) (rows : List (List ℤ)) (j : ℕ) (js : List ℕ)
    : Type 0 where
  pub known : j < count
  pub key : test j ≡ true
  pub read : length rows ≡ length (keys_below test j)
  pub later : js ≡ keys_from test count (suc j)

-- these keys are left where this is the next one
abbrev pub AreLeft : (ℕ → Bool) → ℕ → List (List ℤ) → Option ℕ → List ℕ → Type 0
AreLeft test count rows None js = js ≡ []
AreLeft test count rows (Some j) js = (later : List ℕ) × (js ≡ j ∷ later)
    × IsRowDue test count rows j later

-- ---- the keys of a leaf

-- task j is one that team k may begin at some minute
abbrev pub IsOpenTask : Limits → ℕ → ℕ → Type 0
IsOpenTask n k j = (j < tasks_in n) × (0 < minute_count n k j)

-- behind these rows of prices the one of task j is due, and then those of the tasks js
abbrev pub IsExtraDue : Limits → List (List ℤ) → ℕ → List ℕ → Type 0
IsExtraDue n rows j js = IsRowDue (has_required n) (tasks_in n) rows j js

-- behind these rows of prices those of the tasks js are left; this is the next of them
abbrev pub AreExtrasLeft : Limits → List (List ℤ) → Option ℕ → List ℕ → Type 0
AreExtrasLeft n rows next js = AreLeft (has_required n) (tasks_in n) rows next js

-- behind these rows of team k's potentials the one of task j is due, and then those of the tasks js
abbrev pub IsPhiDue : Limits → ℕ → List (List ℤ) → ℕ → List ℕ → Type 0
IsPhiDue n k rows j js = IsRowDue (has_minutes n k) (tasks_in n) rows j js

-- behind these rows of team k's potentials those of the tasks js are left; this is the next of them
abbrev pub ArePhisLeft : Limits → ℕ → List (List ℤ) → Option ℕ → List ℕ → Type 0
ArePhisLeft n k rows next js = AreLeft (has_minutes n k) (tasks_in n) rows next js
