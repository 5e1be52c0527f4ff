-- a property of each element of a list, by its place
use Rattle.std.proofs.Common.{◌≡◌, ◌≢◌, ◌<◌, ◌+◌, ℕ, List, ◌⊎◌, inl, inr, sym, subst, arith}
use Rattle.std.specs.Prelude.{slice_get, Some}
use Rattle.std.proofs.lemmas.Bool.{cases_eq}

-- one more element has it
pub each_more : {X : Type 0} (xs : List X) (P : ℕ → X → Type 0) (m : ℕ) (x : X) → slice_get xs m ≡ Some x → P m x
    → ((i : ℕ) (y : X) → i < m → slice_get xs i ≡ Some y → P i y) → (i : ℕ) (y : X) → i < m + 1 → slice_get xs i ≡ Some y → P i y
each_more xs P m x read here below i y l get = by (cases_eq i m)
  where
    by : (i ≡ m) ⊎ (i ≡ m → ⊥) → P i y
    by (inl e) =
        let moved : slice_get xs m ≡ Some y = subst (λ j. slice_get xs j ≡ Some y) e get in
        let same : x ≡ y = cc in
        subst (P i) same (subst (λ j. P j x) (sym e) here)
    by (inr ne) = below i y (let d : i ≢ m = ne in omega arith) get
