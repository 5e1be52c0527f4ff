-- the text of a clock, byte by byte
use Rattle.std.proofs.Common.{◌≡◌, ◌<◌, ◌+◌, ◌*◌, ◌/◌, ◌%◌, ◌++◌, [], ◌∷◌, ℕ, List, length, get_or, ap, ◌∙◌, arith}
use Rattle.field_table.specs.Clocks.{two_digits, clock_text}

-- two pairs of digits with a colon between are the text of hours and minutes
pub text_of_parts : (hours minutes : ℕ) → minutes < 60 → two_digits hours ++ 58 ∷ two_digits minutes ≡ clock_text (60 * hours + minutes)
text_of_parts hours minutes h =
    let a : hours ≡ (60 * hours + minutes) / 60 = omega arith in
    let b : minutes ≡ (60 * hours + minutes) % 60 = omega arith in
    ap (λ n. two_digits n ++ 58 ∷ two_digits minutes) a ∙ ap (λ n. two_digits ((60 * hours + minutes) / 60) ++ 58 ∷ two_digits n) b

-- five bytes whose third is a colon are two pairs and the colon
pub five_bytes : (bytes : List ℕ) → length bytes ≡ 5 → get_or bytes 2 0 ≡ 58
    → bytes ≡ (get_or bytes 0 0 ∷ get_or bytes 1 0 ∷ []) ++ 58 ∷ (get_or bytes 3 0 ∷ get_or bytes 4 0 ∷ [])
five_bytes (a ∷ b ∷ c ∷ d ∷ e ∷ []) long colon = ap (λ n. a ∷ b ∷ n ∷ d ∷ e ∷ []) colon
five_bytes [] long colon = absurd (omega arith)
five_bytes (a ∷ []) long colon = absurd (omega arith)
five_bytes (a ∷ b ∷ []) long colon = absurd (omega arith)
five_bytes (a ∷ b ∷ c ∷ []) long colon = absurd (omega arith)
five_bytes (a ∷ b ∷ c ∷ d ∷ []) long colon = absurd (omega arith)
five_bytes (a ∷ b ∷ c ∷ d ∷ e ∷ f ∷ bytes) long colon = absurd (omega arith)

-- so they are the text of the minutes that the pairs give
pub text_of_five : (bytes : List ℕ) (hours minutes : ℕ) → length bytes ≡ 5 → get_or bytes 2 0 ≡ 58 → minutes < 60
    → get_or bytes 0 0 ∷ get_or bytes 1 0 ∷ [] ≡ two_digits hours → get_or bytes 3 0 ∷ get_or bytes 4 0 ∷ [] ≡ two_digits minutes
    → bytes ≡ clock_text (60 * hours + minutes)
text_of_five bytes hours minutes long colon small front back =
    five_bytes bytes long colon ∙ ap (λ ds. ds ++ 58 ∷ (get_or bytes 3 0 ∷ get_or bytes 4 0 ∷ [])) front
    ∙ ap (λ ds. two_digits hours ++ 58 ∷ ds) back ∙ text_of_parts hours minutes small
