-- laws of rising lists
use Rattle.std.proofs.Common.{◌<◌, ◌+◌, ℕ, zero, suc, List, ◌∷◌, length, get_or, ◌≡◌, subst, arith}
use Rattle.std.specs.List.Sorted.{IsStrictlyIncreasing}

-- each number is below the next
pub rises_at : (xs : List ℕ) → IsStrictlyIncreasing xs → (i : ℕ) → suc i < length xs → get_or xs i 0 < get_or xs (suc i) 0
rises_at xs r i h = let e : i + 1 ≡ suc i = omega arith in subst (λ z. get_or xs i 0 < get_or xs z 0) e (r i (omega arith))

-- the list behind the first number rises
pub rises_tail : (x : ℕ) (xs : List ℕ) → IsStrictlyIncreasing (x ∷ xs) → IsStrictlyIncreasing xs
rises_tail x xs r k h = let e : suc k ≡ k + 1 = omega arith in subst (λ z. get_or xs k 0 < get_or xs z 0) e (rises_at (x ∷ xs) r (suc k) (omega arith))

-- the first is below the others
pub above_head : (x : ℕ) (xs : List ℕ) → IsStrictlyIncreasing (x ∷ xs) → (i : ℕ) → i < length xs → x < get_or xs i 0
above_head x xs r zero h = rises_at (x ∷ xs) r 0 (omega arith)
above_head x xs r (suc i) h = let a = above_head x xs r i (omega arith) in let b : get_or xs i 0 < get_or xs (suc i) 0 = rises_at (x ∷ xs) r (suc i) (omega arith) in omega arith
