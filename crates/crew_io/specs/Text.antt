-- all the bytes of a source, up to a limit
use Rattle.std.specs.Prelude.{◌≡◌, ◌≤◌, ◌<◌, ◌+◌, ℕ, List, [], length, drop, Option, None, Some}
use Rattle.crew_io.specs.declared.text.Text.{Text}
use Rattle.crew_io.specs.declared.text.Text.TheVariants.{Whole, TooLong, ReadFault}

-- the text, if it is there, has at most so many bytes
abbrev pub HasAtMost : ℕ → Text → Type 0
HasAtMost most (Whole bytes) = length bytes ≤ most
HasAtMost most _ = Unit {0}

-- where the bytes to come are told, at most so many were taken, from the front
abbrev pub TookAtMost : ℕ → Option (List ℕ) → Option (List ℕ) → Type 0
TookAtMost most None later = later ≡ None
TookAtMost most (Some bytes) later = (n : ℕ) × (n ≤ most) × (n ≤ length bytes) × (later ≡ Some (drop n bytes))

-- where the bytes to come are told: they are the text and none is left; or they are too many, and one more was taken than a text may have; or a read failed
abbrev pub ReadsText : ℕ → Option (List ℕ) → Text → Option (List ℕ) → Type 0
ReadsText most left ReadFault later = TookAtMost most left later
ReadsText most None _ later = later ≡ None
ReadsText most (Some bytes) (Whole text) later = (text ≡ bytes) × (later ≡ Some [])
ReadsText most (Some bytes) TooLong later = (most < length bytes) × (later ≡ Some (drop (most + 1) bytes))
