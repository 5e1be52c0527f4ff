-- what reads and writes do
use Rattle.std.specs.Prelude.{◌≡◌, ◌≤◌, ◌<◌, ◌+◌, ◌⊎◌, ◌++◌, [], ℕ, List, length, take, drop, min, Option, None, Some}

-- the largest number of 64 bits, at which counts stay
abbrev pub MOST : ℕ
MOST = 18446744073709551615

-- one more, up to the largest
abbrev pub one_more : ℕ → ℕ
one_more n = min (n + 1) MOST

-- the count of faults has risen, or stands at its end
abbrev pub Rose : ℕ → ℕ → Type 0
Rose old new = (old < new) ⊎ (new ≡ MOST)

-- the next n bytes were put at the front of the buffer
abbrev pub Gave : Option (List ℕ) → Option (List ℕ) → ℕ → List ℕ → List ℕ → Type 0
Gave None new n before after = new ≡ None
Gave (Some bytes) new n before after = (n ≤ length bytes) × (new ≡ Some (drop n bytes)) × (after ≡ take n bytes ++ drop n before)

-- where the source tells its bytes, none is left
abbrev pub HasEnded : Option (List ℕ) → Type 0
HasEnded None = Unit {0}
HasEnded (Some bytes) = bytes ≡ []

-- the first n bytes of the piece were added
abbrev pub Took : Option (List ℕ) → Option (List ℕ) → ℕ → List ℕ → Type 0
Took None new n piece = new ≡ None
Took (Some bytes) new n piece = new ≡ Some (bytes ++ take n piece)

-- all of the piece was added
abbrev pub Appended : Option (List ℕ) → Option (List ℕ) → List ℕ → Type 0
Appended None new piece = new ≡ None
Appended (Some bytes) new piece = new ≡ Some (bytes ++ piece)

-- the front of the piece was added
abbrev pub AppendedPart : Option (List ℕ) → Option (List ℕ) → List ℕ → Type 0
AppendedPart None new piece = new ≡ None
AppendedPart (Some bytes) new piece = (n : ℕ) × (n ≤ length piece) × (new ≡ Some (bytes ++ take n piece))
