-- decimals and the numbers that they are
use Rattle.std.proofs.Common.{◌≡◌, ◌≢◌, ◌≤◌, ◌<◌, ◌+◌, ◌-◌, ◌*◌, ◌^◌, ◌++◌, [], ◌∷◌, ℕ, zero, suc, true, false, List, length, take, drop, get_or, ap, sym, refl, ◌∙◌, arith, rules, ◌⊎◌, inl, inr}
use Rattle.std.specs.Str.{all_ascii_digits}
use Rattle.std.specs.Fmt.{decimal}
use Rattle.std.specs.Char.{is_ascii_digit}
use Rattle.std.proofs.lemmas.Bool.{and_parts, and_from, both_ways, cases_eq}
use Rattle.std.proofs.lemmas.List.{take-append-drop, take_more, length-take-le, get_or-take}
use Rattle.std.proofs.lemmas.List.Elements.{All-from_get_or}
use Rattle.std.proofs.Math.Nat.{pow-suc}
use Rattle.std.specs.Prelude.{All}
use Rattle.field_table.specs.Digits.{IsFrontNumber}
use Rattle.std.proofs.lemmas.Str.Parse.{IsNumeralModel, numerals_by_fold}
use Rattle.std.proofs.lemmas.Fmt.{decimal-digits_value, digits_value-decimal, digits_decimal, first_decimal, decimal_digit, decimal_nonempty}

-- the number that the digits are, read on from n
abbrev pub read_on : ℕ → List ℕ → ℕ
read_on n [] = n
read_on n (c ∷ cs) = read_on (10 * n + (c - 48)) cs

pub own : IsNumeralModel (λ ds. all_ascii_digits ds ≡ true) (read_on 0)
own = numerals_by_fold _ (search rules) read_on (search rules)

pub read_on-append : (n : ℕ) (xs ys : List ℕ) → read_on n (xs ++ ys) ≡ read_on (read_on n xs) ys
read_on-append n [] ys = refl
read_on-append n (x ∷ xs) ys = read_on-append (10 * n + (x - 48)) xs ys

pub read_on_ge : (n : ℕ) (xs : List ℕ) → n ≤ read_on n xs
read_on_ge n [] = omega arith
read_on_ge n (x ∷ xs) = let a = read_on_ge (10 * n + (x - 48)) xs in omega arith

digits_push : (xs : List ℕ) (c : ℕ) → all_ascii_digits xs ≡ true → is_ascii_digit c ≡ true → all_ascii_digits (xs ++ c ∷ []) ≡ true
digits_push [] c h e = and_from (is_ascii_digit c) true e refl
digits_push (x ∷ xs) c h e = let p = and_parts (is_ascii_digit x) (all_ascii_digits xs) h in
    and_from (is_ascii_digit x) (all_ascii_digits (xs ++ c ∷ [])) p.0 (digits_push xs c p.1 e)

pub digit_at : (xs : List ℕ) (i : ℕ) → all_ascii_digits xs ≡ true → i < length xs → is_ascii_digit (get_or xs i 0) ≡ true
digit_at [] i h l = absurd (omega arith)
digit_at (x ∷ xs) zero h l = (and_parts (is_ascii_digit x) (all_ascii_digits xs) h).0
digit_at (x ∷ xs) (suc i) h l = digit_at xs i (and_parts (is_ascii_digit x) (all_ascii_digits xs) h).1 (omega arith)

pub digits_more : (word : List ℕ) (i : ℕ) → i < length word → all_ascii_digits (take i word) ≡ true → is_ascii_digit (get_or word i 0) ≡ true → all_ascii_digits (take (i + 1) word) ≡ true
digits_more word i l h e = ap all_ascii_digits (take_more word i 0 l) ∙ digits_push (take i word) (get_or word i 0) h e

pub value_more : (word : List ℕ) (i n : ℕ) → i < length word → read_on 0 (take i word) ≡ n → read_on 0 (take (i + 1) word) ≡ 10 * n + (get_or word i 0 - 48)
value_more word i n l h = ap (read_on 0) (take_more word i 0 l) ∙ read_on-append 0 (take i word) (get_or word i 0 ∷ []) ∙ ap (λ k. 10 * k + (get_or word i 0 - 48)) h

pub not_empty : (word : List ℕ) (m : ℕ) → length word ≡ 0 → m < 2 ^ 64 → word ≢ decimal m
not_empty word m e l h = let a = decimal_nonempty m (omega arith) in let b = ap length h in absurd (omega arith)

pub not_zero : (word : List ℕ) (m : ℕ) → get_or word 0 0 ≡ 48 → 1 < length word → m < 2 ^ 64 → word ≢ decimal m
not_zero word m e long l h = at (cases_eq m 0)
  where
    at : (m ≡ 0) ⊎ (m ≡ 0 → ⊥) → ⊥
    at (inl z) = let a : word ≡ 48 ∷ [] = h ∙ ap decimal z ∙ decimal_digit 0 (omega arith) in let b = ap length a in absurd (omega arith)
    at (inr nz) = let a = first_decimal m (omega arith) (omega arith) in let b = ap (λ ds. get_or ds 0 0) h in absurd (omega arith)

pub not_digit : (word : List ℕ) (i m : ℕ) → i < length word → is_ascii_digit (get_or word i 0) ≡ false → m < 2 ^ 64 → word ≢ decimal m
not_digit word i m l e small h =
    both_ways (is_ascii_digit (get_or word i 0)) e (digit_at word i (ap all_ascii_digits h ∙ digits_decimal own m (omega arith)) l)

pub not_more : (word : List ℕ) (i m most : ℕ) → most < read_on 0 (take i word) → m ≤ most → m < 2 ^ 64 → word ≢ decimal m
not_more word i m most over le small h =
    let a = digits_value-decimal own m (omega arith) in
    let b : read_on 0 word ≡ m = ap (read_on 0) h ∙ a in
    let c : read_on 0 word ≡ read_on (read_on 0 (take i word)) (drop i word) = ap (read_on 0) (sym (take-append-drop i word)) ∙ read_on-append 0 (take i word) (drop i word) in
    let d = read_on_ge (read_on 0 (take i word)) (drop i word) in
    absurd (omega arith)

pub decimal_read : (word : List ℕ) (n : ℕ) → all_ascii_digits word ≡ true → 0 < length word → (get_or word 0 0 ≡ 48 → length word ≡ 1) → read_on 0 word ≡ n → n < 2 ^ 64 → word ≡ decimal n
decimal_read word n digits some plain value small =
    sym (ap decimal (sym value) ∙ decimal-digits_value own word digits some plain (let e = value in omega arith))

pow_up : (k i : ℕ) → 10 ^ i ≤ 10 ^ (k + i)
pow_up zero i = let e : 10 ^ (0 + i) ≡ 10 ^ i = ap (λ n. 10 ^ n) (let f : 0 + i ≡ i = omega arith in f) in omega arith
pow_up (suc k) i =
    let a = pow_up k i in
    let e : suc k + i ≡ suc (k + i) = omega arith in
    let b : 10 ^ (suc k + i) ≡ 10 ^ (k + i) * 10 = ap (λ n. 10 ^ n) e ∙ pow-suc 10 (k + i) in
    omega arith

-- at most 18 digits are no large number
pub below_power : (i n : ℕ) → n < 10 ^ i → i ≤ 18 → n < 10 ^ 18
below_power i n h l =
    let a = pow_up (18 - i) i in
    let e : 10 ^ (18 - i + i) ≡ 10 ^ 18 = ap (λ k. 10 ^ k) (let f : 18 - i + i ≡ 18 = omega arith in f) in
    omega arith

-- and with one digit more ten times the number
pub power_more : (i n d : ℕ) → n < 10 ^ i → d < 10 → 10 * n + d < 10 ^ (i + 1)
power_more i n d h l =
    let e : 10 ^ (i + 1) ≡ 10 ^ i * 10 = ap (λ k. 10 ^ k) (let f : i + 1 ≡ suc i = omega arith in f) ∙ pow-suc 10 i in
    omega arith

pub front_spelled : (bytes : List ℕ) (count n : ℕ) → count ≤ length bytes → all_ascii_digits (take count bytes) ≡ true → read_on 0 (take count bytes) ≡ n → n < 10 ^ 18
    → 0 < count → (get_or bytes 0 0 ≡ 48 → count ≡ 1) → take count bytes ≡ decimal n
front_spelled bytes count n l digits value small some plain =
    let long : length (take count bytes) ≡ count = length-take-le count bytes l in
    decimal_read (take count bytes) n digits (omega arith) (λ e. long ∙ plain (sym (get_or-take count bytes 0 0 some) ∙ e)) value (omega arith)

-- the first bytes, so many, are digits, and this is the number that they are
pub record AreReadAs (bytes : List ℕ) (count n : ℕ) : Type 0 where
  pub small : n < 10 ^ count
  pub value : read_on 0 (take count bytes) ≡ n
  pub digits : all_ascii_digits (take count bytes) ≡ true

-- at most 18 of them are no large number
pub short_value : (bytes : List ℕ) (count n : ℕ) → AreReadAs bytes count n → count ≤ 18 → n < 10 ^ 18
short_value bytes count n held short = below_power count n held.small short

-- one digit more is read
pub read_further : (bytes : List ℕ) (count n : ℕ) → AreReadAs bytes count n → count < length bytes → is_ascii_digit (get_or bytes count 0) ≡ true → get_or bytes count 0 - 48 < 10
    → AreReadAs bytes (count + 1) (10 * n + (get_or bytes count 0 - 48))
read_further bytes count n held within digit below = record {
  small = power_more count n (get_or bytes count 0 - 48) held.small below;
  value = value_more bytes count n within held.value;
  digits = digits_more bytes count within held.digits digit;
}

-- what is read is a number at the front, where it ends and no other 0 begins it
pub front_number : (bytes : List ℕ) (count n : ℕ) → AreReadAs bytes count n → count ≤ length bytes → count ≤ 18 → 0 < count → ¬ ((1 < count) × (get_or bytes 0 0 ≡ 48))
    → (count < length bytes → get_or bytes count 0 ≡ 32) → IsFrontNumber bytes (record { count = count; value = n })
front_number bytes count n held within short some plain ended =
    let small = short_value bytes count n held short in
    record {
      within = within;
      digits = held.digits;
      small = small;
      spelled = front_spelled bytes count n within held.digits held.value small some (at (cases_eq count 1));
      ended = ended;
    }
  where
    at : (count ≡ 1) ⊎ (count ≡ 1 → ⊥) → get_or bytes 0 0 ≡ 48 → count ≡ 1
    at (inl one) e = one
    at (inr more) e = absurd (plain ((let l : 1 < count = omega arith in l), e))

-- digits are no spaces
pub no_digit_space : (word : List ℕ) → all_ascii_digits word ≡ true → All (λ b. b ≢ 32) word
no_digit_space word h = All-from_get_or (λ b. b ≢ 32) word 0
    (λ i l e. both_ways (is_ascii_digit (get_or word i 0)) (ap is_ascii_digit e) (digit_at word i h l))

-- bytes that begin with a digit have one before their first space
pub some_digits : (bytes : List ℕ) (count : ℕ) → 0 < length bytes → is_ascii_digit (get_or bytes 0 0) ≡ true → (count < length bytes → get_or bytes count 0 ≡ 32) → 0 < count
some_digits bytes zero some first ended = absurd (both_ways (is_ascii_digit (get_or bytes 0 0)) (ap is_ascii_digit (ended some)) first)
some_digits bytes (suc i) some first ended = omega arith
