-- what stands in a list
use Rattle.std.proofs.Common.{◌≡◌, ℕ, zero, suc, true, false, List, [], ◌∷◌, refl, arith, eqb, ◌⊎◌, inl, inr}
use Rattle.std.specs.Prelude.{Contains}
use Rattle.std.specs.List.{list_any}
use Rattle.std.proofs.lemmas.Bool.{eqb-true, eq-eqb, or_cases, or_left, or_right, both_ways}

-- an element is the first one or a later one
pub of_either : {X : Type 0} (x y : X) (xs : List X) → Contains (x ∷ xs) y → (x ≡ y) ⊎ Contains xs y
of_either x y xs (zero, below, e) = inl e
of_either x y xs (suc i, below, e) = inr (i, omega arith, e)

-- what a test finds in a list stands there
pub contains_any : (ks : List ℕ) (k : ℕ) → list_any (λ x. eqb x k) ks ≡ true → Contains ks k
contains_any [] k h = elim (both_ways false refl h) [ ]
contains_any (x ∷ xs) k h = by (or_cases (eqb x k) (list_any (λ y. eqb y k) xs) h) (contains_any xs k)
  where
    by : (eqb x k ≡ true) ⊎ (list_any (λ y. eqb y k) xs ≡ true) → (list_any (λ y. eqb y k) xs ≡ true → Contains xs k) → Contains (x ∷ xs) k
    by (inl e) rest = (0, omega arith, eqb-true x k e)
    by (inr e) rest = let c = rest e in (suc c.0, omega arith, c.2)

-- and what stands there it finds
pub any_contains : (ks : List ℕ) (k : ℕ) → Contains ks k → list_any (λ x. eqb x k) ks ≡ true
any_contains [] k (i, below, e) = absurd (omega arith)
any_contains (x ∷ xs) k (zero, below, e) = or_left (eqb x k) (list_any (λ y. eqb y k) xs) (eq-eqb x k e)
any_contains (x ∷ xs) k (suc i, below, e) = or_right (eqb x k) (list_any (λ y. eqb y k) xs) (any_contains xs k (i, omega arith, e))
