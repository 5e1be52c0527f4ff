-- the numbers at the end of a line
use Rattle.std.specs.Prelude.{◌≡◌, ◌<◌, ℕ, ℤ, pos, negsuc, List, map, All}

-- the number, where it is not negative
abbrev pub natural : ℤ → ℕ
natural (pos n) = n
natural (negsuc n) = 0

abbrev pub naturals : List ℤ → List ℕ
naturals numbers = map natural numbers

-- each number is from 0 to below a bound
abbrev pub AreBelow : ℕ → List ℤ → Type 0
AreBelow past numbers = All (λ z. (n : ℕ) × (z ≡ pos n) × (n < past)) numbers
