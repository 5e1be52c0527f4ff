-- what a test says of a fact
use Rattle.std.proofs.Common.{◌≡◌, ◌↔◌, Bool, true, false, refl, IsTrue, ℤ, ◌≤ℤ◌}
use Rattle.std.proofs.Math.Dec.{T}
use Rattle.std.specs.Int.Signed.{le_z, le_z_yes}
use Rattle.std.proofs.lemmas.Float.{T_from_true}

passes : (b : Bool) → T b → b ≡ true
passes true t = refl
passes false t = absurd t

-- a test of signed numbers
pub le_decides : (a b : ℤ) → IsTrue (le_z a b) ↔ (a ≤ℤ b)
le_decides a b = ((λ t. le_z_yes (T_from_true (le_z a b) t)), (λ h. passes (le_z a b) h.le))

-- a test that failed
pub refuted : {P : Type 0} (b : Bool) → b ≡ false → (P → IsTrue b) → P → ⊥
refuted b e f p = let t : b ≡ true = f p in cc

pub answers_no : {P : Type 0} → (P → ⊥) → IsTrue false ↔ P
answers_no f = ((λ t. let e : false ≡ true = t in cc), (λ p. absurd (f p)))

pub answers_yes : {P : Type 0} → P → IsTrue true ↔ P
answers_yes p = ((λ t. p), (λ q. refl))
