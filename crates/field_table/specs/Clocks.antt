-- minutes as a clock shows them
use Rattle.std.specs.Prelude.{◌+◌, ◌/◌, ◌%◌, ◌++◌, [], ◌∷◌, ℕ, List}

-- a number below 100 in two digits
abbrev pub two_digits : ℕ → List ℕ
two_digits n = (48 + n / 10) ∷ (48 + n % 10) ∷ []

-- minutes as hours and minutes, each in two digits, with a colon between: 467 is 07:47
abbrev pub clock_text : ℕ → List ℕ
clock_text n = two_digits (n / 60) ++ 58 ∷ two_digits (n % 60)
