-- falls of potentials
use Rattle.std.specs.Prelude.{◌≤◌, ◌<◌, ◌+◌, ℕ, ℤ, ◌≤ℤ◌, List, length, Contains}
use Rattle.potentials.specs.Followers.{potential_at}
use Rattle.potentials.specs.declared.records.Record.{Record}

-- for each potential there is a fall that is no later and no higher, where the first potential is that of this minute
abbrev pub AreFalls : List ℤ → ℕ → List Record → Type 0
AreFalls potentials opens falls = (a : ℕ) → a < length potentials
    → (f : Record) × Contains falls f × (f.minute ≤ opens + a) × (f.potential ≤ℤ potential_at potentials a)
