-- the least of a number and what a list has
use Rattle.std.proofs.Common.{ℕ, zero, suc, List, [], ◌∷◌, subst, arith}
use Rattle.std.specs.Prelude.{ℤ, ◌≤ℤ◌, map, fold, Contains}
use Rattle.std.specs.Int.{int_min}
use Rattle.std.proofs.lemmas.Int.{ints, clamps}

min_left : (a b : ℤ) → int_min a b ≤ℤ a
min_left a b = omega (arith, ints, clamps)

min_right : (a b : ℤ) → int_min a b ≤ℤ b
min_right a b = omega (arith, ints, clamps)

min_above : (v a b : ℤ) → v ≤ℤ a → v ≤ℤ b → v ≤ℤ int_min a b
min_above v a b h m = omega (arith, ints, clamps)

along : (a b c : ℤ) → a ≤ℤ b → b ≤ℤ c → a ≤ℤ c
along a b c h m = omega (arith, ints)

module _ (f : ℕ → ℤ) where
  -- it is at most the number
  pub least_below : (v : ℤ) (ts : List ℕ) → fold int_min v (map f ts) ≤ℤ v
  least_below v [] = omega (arith, ints)
  least_below v (t ∷ ts) = along (fold int_min (int_min v (f t)) (map f ts)) (int_min v (f t)) v (least_below (int_min v (f t)) ts) (min_left v (f t))

  -- and at most each that the list has
  pub least_of_each : (v : ℤ) (ts : List ℕ) (t : ℕ) → Contains ts t → fold int_min v (map f ts) ≤ℤ f t
  least_of_each v [] t (k, l, e) = absurd (omega arith)
  least_of_each v (u ∷ ts) t (zero, l, e) =
      let a = along (fold int_min (int_min v (f u)) (map f ts)) (int_min v (f u)) (f u) (least_below (int_min v (f u)) ts) (min_right v (f u)) in
      subst (λ (x : ℕ). fold int_min (int_min v (f u)) (map f ts) ≤ℤ f x) e a
  least_of_each v (u ∷ ts) t (suc k, l, e) = least_of_each (int_min v (f u)) ts t (k, omega arith, e)

  -- what is at most the number and each of the list is at most the least
  pub least_above : (b v : ℤ) (ts : List ℕ) → b ≤ℤ v → ((t : ℕ) → b ≤ℤ f t) → b ≤ℤ fold int_min v (map f ts)
  least_above b v [] h each = h
  least_above b v (t ∷ ts) h each = least_above b (int_min v (f t)) ts (min_above b v (f t) h (each t)) each
