-- a row of travel times that is given whole
use Rattle.std.proofs.Common.{◌≡◌, ◌≢◌, ◌<◌, ℕ, zero, suc, List, [], ◌∷◌, length, map, get_or, ap, refl, ◌∙◌, arith, None, Some, get_or-set_same, get_or-set_other}
use Rattle.std.specs.Prelude.{slice_index_or}
use Rattle.crew_instance.specs.Draft.{Draft as Parts, time_of, with_row}

given_at : (row : List ℕ) (y : ℕ) → y < length row → slice_index_or (map Some row) y None ≡ Some (get_or row y 0)
given_at [] y l = absurd (omega arith)
given_at (n ∷ row) zero l = refl
given_at (n ∷ row) (suc y) l = given_at row y (omega arith)

-- the times of the row
pub time_in_row : (d : Parts) (a y : ℕ) (row : List ℕ) → a < length d.times → y < length row → time_of (with_row d a row) a y ≡ Some (get_or row y 0)
time_in_row d a y row l m = ap (λ cs. slice_index_or cs y None) (get_or-set_same d.times a (map Some row) [] l) ∙ given_at row y m

-- and those of any other
pub time_elsewhere : (d : Parts) (a x y : ℕ) (row : List ℕ) → x ≢ a → time_of (with_row d a row) x y ≡ time_of d x y
time_elsewhere d a x y row n = ap (λ cs. slice_index_or cs y None) (get_or-set_other d.times a x (map Some row) [] n)
