-- decimals of numbers of up to 128 bits
use Rattle.std.proofs.Common.{◌≡◌, ◌≢◌, ◌≤◌, ◌<◌, ◌+◌, ◌-◌, ◌*◌, ◌/◌, ◌^◌, ◌∙◌, length-drop, ℕ, suc, true, false, List, length, take, drop, get_or, ap, sym, arith, pos, negsuc, ℤ, Option, Some}
use Rattle.std.specs.Prelude.{FitsSigned}
use Rattle.std.specs.Int.{w128}
use Rattle.std.specs.Str.{all_ascii_digits}
use Rattle.std.specs.Char.{is_ascii_digit}
use Rattle.std.specs.Fmt.{decimal, signed_decimal}
use Rattle.std.proofs.lemmas.Bool.{both_ways}
use Rattle.std.proofs.lemmas.List.{take-append-drop, take_all}
use Rattle.std.proofs.lemmas.Fmt.{decimal_is_IsNumeral_wide}
use Rattle.field_table.proofs.Digits.{own, read_on, read_on-append, read_on_ge, digit_at}

-- numbers of 128 bits have at most 64 digits
pub short_enough : (m most : ℕ) → m ≤ most → most ≤ 2 ^ 127 → m < 10 ^ 64
short_enough m most le small = omega arith

pub wide_digits : (m : ℕ) → m < 10 ^ 64 → all_ascii_digits (decimal m) ≡ true
wide_digits m h = own.from (decimal m) (decimal_is_IsNumeral_wide m h).0.1

pub wide_value : (m : ℕ) → m < 10 ^ 64 → read_on 0 (decimal m) ≡ m
wide_value m h = let k = decimal_is_IsNumeral_wide m h in own.same (decimal m) k.0.1 ∙ k.1

pub wide_some : (m : ℕ) → m < 10 ^ 64 → 0 < length (decimal m)
wide_some m h = (decimal_is_IsNumeral_wide m h).0.0

-- a byte that is no digit stands in no decimal
pub wide_digit : (word : List ℕ) (i m : ℕ) → i < length word → is_ascii_digit (get_or word i 0) ≡ false → m < 10 ^ 64 → word ≢ decimal m
wide_digit word i m l e small h =
    both_ways (is_ascii_digit (get_or word i 0)) e (digit_at word i (ap all_ascii_digits h ∙ wide_digits m small) l)

-- digits that are more than a number begin no decimal of one that is no greater
pub wide_over : (word : List ℕ) (i m most : ℕ) → most < read_on 0 (take i word) → m ≤ most → m < 10 ^ 64 → word ≢ decimal m
wide_over word i m most over le small h =
    let b : read_on 0 word ≡ m = ap (read_on 0) h ∙ wide_value m small in
    let c : read_on 0 word ≡ read_on (read_on 0 (take i word)) (drop i word) =
    ap (read_on 0) (sym (take-append-drop i word)) ∙ read_on-append 0 (take i word) (drop i word) in
    let d = read_on_ge (read_on 0 (take i word)) (drop i word) in
    absurd (omega arith)

-- ten times a number that is past a tenth of the most is past the most
pub past_tenth : (n d most : ℕ) → most / 10 < n → most < 10 * n + d
past_tenth n d most h = omega arith

pub no_minus_wide : (m : ℕ) → m < 10 ^ 64 → get_or (decimal m) 0 0 ≢ 45
no_minus_wide m h e = both_ways (is_ascii_digit (get_or (decimal m) 0 0)) (ap is_ascii_digit e) (digit_at (decimal m) 0 (wide_digits m h) (wide_some m h))

pub empty_wide : (bytes : List ℕ) → length bytes ≡ 0 → (z : ℤ) → FitsSigned w128 z → bytes ≢ signed_decimal z
empty_wide bytes e (pos n) f h = let s = f.sfits in let a = wide_some n (omega arith) in let b = ap length h in absurd (omega arith)
empty_wide bytes e (negsuc n) f h = let b = ap length h in absurd (omega arith)

-- bytes that begin with a minus: what is read of the others tells the number
pub minus_value : (bytes : List ℕ) (r : Option ℕ) (out : Option ℤ) → 0 < length bytes → get_or bytes 0 0 ≡ 45
    → ((n : ℕ) → n ≤ 2 ^ 127 → take (length bytes - 1) (drop 1 bytes) ≡ decimal n → r ≡ Some n)
    → ((n : ℕ) → r ≡ Some (suc n) → out ≡ Some (negsuc n))
    → (z : ℤ) → FitsSigned w128 z → bytes ≡ signed_decimal z → out ≡ Some z
minus_value bytes r out some sign read told (pos n) f is =
    let s = f.sfits in absurd (no_minus_wide n (omega arith) (ap (λ bs. get_or bs 0 0) (sym is) ∙ sign))
minus_value bytes r out some sign read told (negsuc n) f is =
    let s = f.sfits in
    let rest : take (length bytes - 1) (drop 1 bytes) ≡ drop 1 bytes = take_all (length bytes - 1) (drop 1 bytes) (omega (arith, length-drop 1 bytes)) in
    told n (read (suc n) (omega arith) (rest ∙ ap (drop 1) is))
