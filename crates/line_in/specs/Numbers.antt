-- what the fields of the numbers at the end of a line stand for
use Rattle.std.specs.Prelude.{◌≡◌, ◌+◌, ◌<◌, ◌^◌, ℤ, FitsSigned, List, length, map, drop}
use Rattle.std.specs.List.{AllByRecursion}
use Rattle.std.specs.Int.{w64}
use Rattle.std.specs.Fmt.{signed_decimal}
use Rattle.std.specs.Str.Parse.{signed_digits_value}
use Rattle.line_in.specs.declared.numbers.LineNumbers.TheInside.{Inside}

-- the numbers of the words from a place on
abbrev pub numbers_of : Inside → List ℤ
numbers_of a = map (signed_digits_value 10) (drop a.from a.words)

-- these words are the decimals of numbers
pub record AreLineNumbers (a : Inside) : Type 0 where
  pub whole : a.from + a.len ≡ length a.words
  pub small : a.from + a.len < 2 ^ 64
  pub numbers : List ℤ
  pub fit : AllByRecursion (FitsSigned w64) numbers
  pub spelled : drop a.from a.words ≡ map signed_decimal numbers
