-- laws of tests, which pass or fail
use Rattle.std.proofs.Common.{◌≡◌, Bool, true, false, List, ◌∷◌, Some, refl}
use Rattle.std.specs.Prelude.{find}

-- what holds both where the test passes and where it fails
pub by_test : {P : Type 0} (b : Bool) → (b ≡ true → P) → (b ≡ false → P) → P
by_test true at_true at_false = at_true refl
by_test false at_true at_false = at_false refl

-- what is looked for stands here
pub find_here : {X : Type 0} (p : X → Bool) (x : X) (xs : List X) → p x ≡ true → find p (x ∷ xs) ≡ Some x
find_here p x xs t = rw t refl

-- or later
pub find_later : {X : Type 0} (p : X → Bool) (x : X) (xs : List X) → p x ≡ false → find p (x ∷ xs) ≡ find p xs
find_later p x xs t = rw t refl
