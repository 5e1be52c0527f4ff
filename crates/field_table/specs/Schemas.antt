-- keys and their places
use Rattle.std.specs.Prelude.{◌≡◌, ℕ, List, Option, None, Some, Contains, take, slice_get}

-- the first place of the key, none where it is not among the keys
abbrev pub FindsFirst : List (List ℕ) → List ℕ → Option ℕ → Type 0
FindsFirst keys key None = Contains keys key → ⊥
FindsFirst keys key (Some n) = (slice_get keys n ≡ Some key) × (Contains (take n keys) key → ⊥)
