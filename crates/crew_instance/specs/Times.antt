-- travel times between places, as far as they are given
use Rattle.std.specs.Prelude.{◌≡◌, ◌≢◌, ◌≤◌, ◌<◌, ◌==◌, ◌⊎◌, ℕ, List, Option, None, map, unwrap_or, if◌then◌else◌}
use Rattle.std.specs.List.{range_with_len}

-- how many places there are, the time that was given from the one to the other, and the minutes between different places of
-- which nothing else says them
pub record Times : Type 0 where
  pub places : ℕ
  pub given : ℕ → ℕ → Option ℕ
  pub default_minutes : Option ℕ

-- the time that was given, else none for the same place, else the default
abbrev pub minutes_of : Times → ℕ → ℕ → ℕ
minutes_of times a b = unwrap_or (times.given a b) (if a == b then 0 else unwrap_or times.default_minutes 0)

-- the minutes from place a to each place
abbrev pub minutes_from : Times → ℕ → List ℕ
minutes_from times a = map (λ b. minutes_of times a b) (range_with_len 0 times.places)

-- the minutes from each place to each
abbrev pub all_minutes : Times → List (List ℕ)
all_minutes times = map (λ a. minutes_from times a) (range_with_len 0 times.places)

-- two different places, of which nothing says the time from a to b
pub record IsMissing (times : Times) (a b : ℕ) : Type 0 where
  pub from : a < times.places
  pub to : b < times.places
  pub differ : a ≢ b
  pub time : times.given a b ≡ None
  pub no_default : times.default_minutes ≡ None

-- b is the first place to which nothing says the time from place a
abbrev pub IsNextMissing : Times → ℕ → ℕ → Type 0
IsNextMissing times a b = IsMissing times a b × ((y : ℕ) → y < b → ¬ (IsMissing times a y))

-- the first such pair, by a and then by b
pub record IsFirstMissing (times : Times) (a b : ℕ) : Type 0 where
  pub missing : IsMissing times a b
  pub first : (x y : ℕ) → IsMissing times x y → (a < x) ⊎ (a ≡ x) × (b ≤ y)
