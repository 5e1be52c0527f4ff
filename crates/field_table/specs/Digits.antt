-- digits at the front of bytes
use Rattle.std.specs.Prelude.{◌≡◌, ◌≤◌, ◌<◌, ◌^◌, ℕ, List, true, length, take, slice_index}
use Rattle.std.specs.Str.{all_ascii_digits}
use Rattle.std.specs.Fmt.{decimal}
use Rattle.field_table.specs.declared.numbers.Digits.{Digits}

-- the decimal of a number below 10 ^ 18 stands at the front, and a space or the end follows it
pub record IsFrontNumber (bytes : List ℕ) (front : Digits) : Type 0 where
  pub within : front.count ≤ length bytes
  pub digits : all_ascii_digits (take front.count bytes) ≡ true
  pub small : front.value < 10 ^ 18
  pub spelled : take front.count bytes ≡ decimal front.value
  pub ended : front.count < length bytes → slice_index bytes front.count ≡ 32
