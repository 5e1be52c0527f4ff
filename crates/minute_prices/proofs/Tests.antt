-- a comparison that fails
use Rattle.std.proofs.Common.{◌≡◌, ◌<◌, ◌≤◌, ℕ, true, false, leb, arith, ◌⊎◌, inl, inr}
use Rattle.std.proofs.lemmas.Bool.{cases_Bool, leb-true}

pub leb_no : (a b : ℕ) → b < a → leb a b ≡ false
leb_no a b below = elim (cases_Bool (leb a b)) [
  | inl e ↦ (let le : a ≤ b = leb-true a b e in absurd (omega arith))
  | inr e ↦ e
]
