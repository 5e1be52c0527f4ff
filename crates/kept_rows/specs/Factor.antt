-- what divides all numbers of a row divides the number
use Rattle.std.specs.Prelude.{◌<◌, ℕ, length, unsigned_abs}
use Rattle.std.specs.Int.{◌∣◌}
use Rattle.search_terms.specs.Rows.{Row, number}

abbrev pub IsCovered : Row → ℕ → Type 0
IsCovered row start = (d : ℕ) → ((j : ℕ) → j < length row → d ∣ unsigned_abs (number row j)) → d ∣ start
