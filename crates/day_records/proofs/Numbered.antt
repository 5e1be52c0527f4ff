-- fields by their numbers
use Rattle.std.proofs.Common.{◌≡◌, ℕ, zero, suc, List, [], ◌∷◌, Option, None, Some, refl}
use Rattle.std.specs.Prelude.{slice_get}
use Rattle.std.specs.Option.{IsSome, option_map}
use Rattle.csv.specs.Records.{field_at}

pub field_at-get : (fields : List (List ℕ)) (n : ℕ) → field_at fields n ≡ slice_get fields n
unfolding field_at
field_at-get [] n = refl
field_at-get (f ∷ fs) zero = refl
field_at-get (f ∷ fs) (suc n) = field_at-get fs n

pub some_mapped : {A B : Type 0} (f : A → B) (o : Option A) (y : B) → option_map f o ≡ Some y → IsSome o
some_mapped f None y e = cc
some_mapped f (Some x) y e = refl
