-- the numbers that pass a test, one by one
use Rattle.std.proofs.Common.{◌≡◌, ◌≤◌, ◌+◌, ◌++◌, ◌∷◌, [], ℕ, List, Bool, true, false, cond, length, ap, sym, refl, ◌∙◌, arith}
use Rattle.std.specs.List.{filter, range_with_len}
use Rattle.std.proofs.lemmas.List.{length-append}
use Rattle.std.proofs.lemmas.List.Elements.{filter-append}
use Rattle.crew_terms.specs.Ranges.{range_from}

-- those below n
abbrev pub passing : (ℕ → Bool) → ℕ → List ℕ
passing f n = filter f (range_with_len 0 n)

one_more : (f : ℕ → Bool) (n : ℕ) → length (passing f (n + 1)) ≡ length (passing f n) + length (filter f (n ∷ []))
one_more f n =
    let e : 0 + n ≡ n = omega arith in
    ap length (ap (filter f) (range_from 0 n) ∙ filter-append f (range_with_len 0 n) ((0 + n) ∷ []) ∙ ap (λ k. passing f n ++ filter f (k ∷ [])) e)
    ∙ length-append (passing f n) (filter f (n ∷ []))

pub one_passes : (f : ℕ → Bool) (n : ℕ) → f n ≡ true → length (passing f (n + 1)) ≡ length (passing f n) + 1
one_passes f n e = one_more f n ∙ ap (λ b. length (passing f n) + length (cond b (n ∷ []) [])) e

pub one_fails : (f : ℕ → Bool) (n : ℕ) → f n ≡ false → length (passing f (n + 1)) ≡ length (passing f n)
one_fails f n e = let a = one_more f n ∙ ap (λ b. length (passing f n) + length (cond b (n ∷ []) [])) e in omega arith
