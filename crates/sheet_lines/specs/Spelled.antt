-- what a reader of a line of numbers gives
use Rattle.std.specs.Prelude.{◌≡◌, ◌≢◌, ◌++◌, ℕ, List, [], length, Result, Ok, Err, if◌then◌else◌, codes}
use Rattle.crew_terms.specs.Words.{Words}
use Rattle.crew_terms.specs.declared.Task.{Task}
use Rattle.line_in.specs.Fields.{IsRowOf}
use Rattle.line_in.specs.declared.faults.LineFault.{LineFault}
use Rattle.line_in.specs.declared.faults.LineFault.TheVariants.{Shape, Number, Name}
use Rattle.squeeze_terms.specs.MinutePrices.{is_joint, price_count}

-- the words of this shape spell a value of the range, which is given; or the first of these that they fail
abbrev pub ReadsSpelling : {V : Type 0} → Type 0 → (V → Words) → (V → Type 0) → Words → Result V LineFault → Type 0
ReadsSpelling Shaped spell In ws (Ok v) = Shaped × In v × (ws ≡ spell v)
ReadsSpelling Shaped spell In ws (Err Shape) = Shaped → ⊥
ReadsSpelling Shaped spell In ws (Err Number) = Shaped × ((v : _) → In v → ws ≢ spell v)
ReadsSpelling Shaped spell In ws (Err Name) = ⊥

-- the first word of the prices of task j, its number, and as many words as it has prices
abbrev pub IsPricesOf : Task → ℕ → Words → Type 0
IsPricesOf task j ws = IsRowOf (if is_joint task then codes "clock" else codes "price") j (price_count task) ws
