-- laws of numbers in a row
use Rattle.std.proofs.Common.{◌≡◌, ◌<◌, ◌+◌, ℕ, zero, suc, [], ◌∷◌, ◌++◌, get_or, ap, ◌∙◌, arith}
use Rattle.std.specs.List.{range_with_len}
use Rattle.std.proofs.lemmas.List.FromFn.{get_or-range_with_len}

-- one more number comes at the end
pub range_from : (a n : ℕ) → range_with_len a (n + 1) ≡ range_with_len a n ++ (a + n) ∷ []
range_from a zero = let e : a ≡ a + 0 = omega arith in ap (λ k. k ∷ []) e
range_from a (suc n) =
    let e : suc n + 1 ≡ suc (n + 1) = omega arith in
    let f : a + 1 + n ≡ a + suc n = omega arith in
    ap (range_with_len a) e ∙ ap (λ ks. a ∷ ks) (range_from (a + 1) n ∙ ap (λ k. range_with_len (a + 1) n ++ k ∷ []) f)

-- some numbers, and those that follow
pub range_append : (a m n : ℕ) → range_with_len a (m + n) ≡ range_with_len a m ++ range_with_len (a + m) n
range_append a zero n =
    let e : a ≡ a + 0 = omega arith in
    let f : zero + n ≡ n = omega arith in
    ap (range_with_len a) f ∙ ap (λ b. range_with_len b n) e
range_append a (suc m) n =
    let e : suc m + n ≡ suc (m + n) = omega arith in
    let f : a + 1 + m ≡ a + suc m = omega arith in
    ap (range_with_len a) e ∙ ap (λ xs. a ∷ xs) (range_append (a + 1) m n ∙ ap (λ b. range_with_len (a + 1) m ++ range_with_len b n) f)

-- from 0 on, each number stands at its own place
pub numbered : (n k : ℕ) → k < n → get_or (range_with_len 0 n) k 0 ≡ k
numbered n k below = get_or-range_with_len 0 n k 0 below ∙ omega arith
