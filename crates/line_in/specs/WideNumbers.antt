-- what the fields of the wide numbers at the end of a line stand for
use Rattle.std.specs.Prelude.{◌≡◌, ◌<◌, ◌+◌, ◌^◌, ℕ, List, length, map, drop}
use Rattle.std.specs.List.{AllByRecursion}
use Rattle.std.specs.Fmt.{decimal}
use Rattle.std.specs.Str.Parse.{digits_value}
use Rattle.line_in.specs.declared.wides.WideNumbers.TheInside.{Inside}

-- the numbers of the words from a place on
abbrev pub wides_of : Inside → List ℕ
wides_of a = map (digits_value 10) (drop a.from a.words)

-- these words are the decimals of numbers
pub record AreWides (a : Inside) : Type 0 where
  pub whole : a.from + a.len ≡ length a.words
  pub short : a.from + a.len < 2 ^ 64
  pub numbers : List ℕ
  pub small : AllByRecursion (λ k. k < 2 ^ 127) numbers
  pub spelled : drop a.from a.words ≡ map decimal numbers
