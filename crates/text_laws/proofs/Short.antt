-- short words, and the lines that they make
use Rattle.std.proofs.Common.{◌≡◌, ◌≢◌, ◌≤◌, ◌<◌, ◌+◌, ◌*◌, ◌%◌, [], ◌∷◌, ℕ, suc, List, length, ltb, true, arith, length-append}
use Rattle.std.specs.Prelude.{ℤ, pos, negsuc, ◌≤ℤ◌}
use Rattle.std.specs.List.{All, AllByRecursion, list_all}
use Rattle.std.specs.Fmt.{decimal, signed_decimal}
use Rattle.std.proofs.Math.Nat.{suc-mul, mul-le-mul_right}
use Rattle.std.proofs.lemmas.Bool.{ltb-true}
use Rattle.std.proofs.lemmas.Bool.Decides.{nat_tests}
use Rattle.std.proofs.lemmas.Int.{ints}
use Rattle.std.proofs.lemmas.Fmt.{decimal_by_steps, decimal_by_steps_wide, length-decimal-le, length-decimal-le_wide}
use Rattle.std.proofs.lemmas.List.Elements.{All-weaker, All-append, All-cons, All-nil, All-push, All-from_recursion}
use Rattle.std.proofs.lemmas.List.Sums.{AllPass-from_list_all}
use Rattle.dossier_terms.specs.Counted.{IsWide, IsVast}
use Rattle.crew_terms.specs.Name.{IsName, name_byte}
use Rattle.crew_terms.specs.Words.{Words, line_of}
use Rattle.crew_terms.specs.declared.TheConstants.{LONGEST_LINE, MOST_NUMBER}
use Rattle.text_laws.specs.Texts.{IsWord, AreLine}
use Rattle.text_laws.proofs.Lists.{rec_weaker}

abbrev pub IsHigh : ℕ → Type 0
IsHigh b = 32 < b

-- at most m bytes, all of them after the space
pub record IsShort (m : ℕ) (word : List ℕ) : Type 0 where
  pub size : length word ≤ m
  pub high : All IsHigh word

-- ---- lines

other_space : (b : ℕ) → IsHigh b → b ≢ 32
other_space b l = omega arith

other_feed : (b : ℕ) → IsHigh b → b ≢ 10
other_feed b l = omega arith

short_word : (m : ℕ) (word : List ℕ) → IsShort m word → IsWord word
short_word m word h = record {
  no_space = All-weaker IsHigh (λ b. b ≢ 32) other_space word h.high;
  no_feed = All-weaker IsHigh (λ b. b ≢ 10) other_feed word h.high;
}

length-line_of : (m : ℕ) (ws : Words) → AllByRecursion (IsShort m) ws → length (line_of ws) ≤ length ws * suc m
length-line_of m [] h = omega arith
length-line_of m (w ∷ []) h = let a = h.0.size in omega (arith, suc-mul 0 (suc m))
length-line_of m (w ∷ v ∷ vs) h =
    let a = h.0.size in
    let b : length (line_of (v ∷ vs)) ≤ length (v ∷ vs) * suc m = length-line_of m (v ∷ vs) h.1 in
    omega (arith, length-append w (32 ∷ line_of (v ∷ vs)), suc-mul (length (v ∷ vs)) (suc m))

whole_line : (m : ℕ) (ws : Words) → AllByRecursion (IsShort m) ws → All (λ b. b ≢ 10) (line_of ws)
whole_line m [] h = All-nil (λ b. b ≢ 10)
whole_line m (w ∷ []) h = All-weaker IsHigh (λ b. b ≢ 10) other_feed w h.0.high
whole_line m (w ∷ v ∷ vs) h = All-append (λ b. b ≢ 10) w (32 ∷ line_of (v ∷ vs)) (All-weaker IsHigh (λ b. b ≢ 10) other_feed w h.0.high)
    (All-cons (λ b. b ≢ 10) 32 (line_of (v ∷ vs)) (omega arith) (whole_line m (v ∷ vs) h.1))

-- at most n words of at most m bytes
pub short_line : (m n : ℕ) (w : List ℕ) (ws : Words) → n * suc m ≤ LONGEST_LINE → length (w ∷ ws) ≤ n → AllByRecursion (IsShort m) (w ∷ ws) → AreLine (w ∷ ws)
short_line m n w ws room count h =
    let a = length-line_of m (w ∷ ws) h in
    let b : length (w ∷ ws) * suc m ≤ n * suc m = mul-le-mul_right (suc m) count in
    record {
      some = λ e. absurd cc;
      each = All-from_recursion IsWord (w ∷ ws) (rec_weaker (IsShort m) IsWord (short_word m) (w ∷ ws) h);
      line = record { short = omega arith; whole = whole_line m (w ∷ ws) h };
    }

-- ---- words

-- a word that is written out
pub fixed : (m : ℕ) (word : List ℕ) → list_all (ltb 32) word ≡ true → length word ≤ m → IsShort m word
fixed m word h l = record { size = l; high = All-weaker (λ b. ltb 32 b ≡ true) IsHigh (λ b e. ltb-true 32 b e) word (AllPass-from_list_all (ltb 32) word h) }

high_digits : (n : ℕ) → n < 18446744073709551616 → All IsHigh (decimal n)
high_digits n l = decimal_by_steps (λ n ds. All IsHigh ds) (λ n l. All-cons IsHigh (48 + n) [] (omega arith) (All-nil IsHigh)) (λ n ds l h. All-push IsHigh ds (48 + n % 10) h (omega arith)) n (omega arith)

pub number : (m n : ℕ) → 20 ≤ m → n < 18446744073709551616 → IsShort m (decimal n)
number m n room l = let a = length-decimal-le 20 n (omega arith) (omega arith) (omega arith) in record { size = omega arith; high = high_digits n l }

pub small_number : (m n : ℕ) → 4 ≤ m → n < 10000 → IsShort m (decimal n)
small_number m n room l = let a = length-decimal-le 4 n (omega arith) (omega arith) (omega arith) in record { size = omega arith; high = high_digits n (omega arith) }

pub signed_number : (z : ℤ) → IsWide z → IsShort 20 (signed_decimal z)
signed_number (pos n) h = let p : pos n ≤ℤ pos MOST_NUMBER = h.most in let l : n < 18446744073709551616 = omega (arith, ints) in number 20 n (omega arith) l
signed_number (negsuc n) h =
    let p : negsuc MOST_NUMBER ≤ℤ negsuc n = h.least in
    let l : suc n < 10000000000000000000 = omega (arith, ints) in
    let a = length-decimal-le 19 (suc n) (omega arith) (omega arith) (omega arith) in
    record { size = omega arith; high = All-cons IsHigh 45 (decimal (suc n)) (omega arith) (high_digits (suc n) (omega arith)) }

-- a number of 128 bits
pub long_number : (m n : ℕ) → 39 ≤ m → n ≤ 170141183460469231731687303715884105728 → IsShort m (decimal n)
long_number m n room l =
    let a = length-decimal-le_wide 39 n (omega arith) (omega arith) (omega arith) in
    let high : All IsHigh (decimal n) = decimal_by_steps_wide (λ n ds. All IsHigh ds) (λ n l. All-cons IsHigh (48 + n) [] (omega arith) (All-nil IsHigh)) (λ n ds l h. All-push IsHigh ds (48 + n % 10) h (omega arith)) n (omega arith) in
    record { size = omega arith; high = high }

pub long_signed : (z : ℤ) → IsVast z → IsShort 40 (signed_decimal z)
long_signed (pos n) h = let p : pos n ≤ℤ pos 170141183460469231731687303715884105727 = h.most in let l : n ≤ 170141183460469231731687303715884105728 = omega (arith, ints) in long_number 40 n (omega arith) l
long_signed (negsuc n) h =
    let p : negsuc 170141183460469231731687303715884105727 ≤ℤ negsuc n = h.least in
    let l : suc n ≤ 170141183460469231731687303715884105728 = omega (arith, ints) in
    let a = long_number 39 (suc n) (omega arith) l in
    let size = a.size in
    record { size = omega arith; high = All-cons IsHigh 45 (decimal (suc n)) (omega arith) a.high }

high_name : (b : ℕ) → name_byte b ≡ true → IsHigh b
high_name b h = grind (arith, nat_tests)

pub name : (word : List ℕ) → IsName word → IsShort 32 word
name word h = record { size = h.short; high = All-weaker (λ b. name_byte b ≡ true) IsHigh high_name word h.spelled }
