-- what stands at a place of a list
use Rattle.std.proofs.Common.{◌≡◌, ◌<◌, ℕ, zero, suc, List, [], ◌∷◌, length, refl, arith}
use Rattle.std.specs.Prelude.{slice_get, Some}

pub some_at : {A : Type 0} (xs : List A) (h : ℕ) → h < length xs → (x : A) × (slice_get xs h ≡ Some x)
some_at [] h l = absurd (omega arith)
some_at (x ∷ xs) zero l = (x, refl)
some_at (x ∷ xs) (suc h) l = some_at xs h (omega arith)
