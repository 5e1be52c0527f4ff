-- numbers as a whole and a part
use Rattle.std.proofs.Common.{◌≡◌, ℕ, ◌*◌, ◌+◌, ap, arith}
use Rattle.std.specs.Prelude.{ℤ, pos, ◌+ℤ◌, ◌-ℤ◌, ◌*ℤ◌}
use Rattle.std.proofs.lemmas.Int.{ints}
use Rattle.crew_num.specs.Ring.{sum_times, difference_times}
use Rattle.crew_num.proofs.Products.{times_swap}

-- a difference whose part needs no unit of the whole
pub plain : (w x y : ℤ) (q a b r : ℕ) → w ≡ x -ℤ y → r + b ≡ a
    → (w *ℤ pos q) +ℤ pos r ≡ ((x *ℤ pos q) +ℤ pos a) -ℤ ((y *ℤ pos q) +ℤ pos b)
plain w x y q a b r e f =
    let g = ap (λ z. z *ℤ pos q) e in
    let h = difference_times x y (pos q) in
    omega (arith, ints)

-- a difference whose part takes a unit of the whole
pub borrowed : (w x y : ℤ) (q a b r : ℕ) → w ≡ (x -ℤ y) -ℤ pos 1 → r + b ≡ a + q
    → (w *ℤ pos q) +ℤ pos r ≡ ((x *ℤ pos q) +ℤ pos a) -ℤ ((y *ℤ pos q) +ℤ pos b)
borrowed w x y q a b r e f =
    let g = ap (λ z. z *ℤ pos q) e in
    let h = difference_times (x -ℤ y) (pos 1) (pos q) in
    let i = difference_times x y (pos q) in
    omega (arith, ints)

-- a product, where the part's product is carried into the whole
pub carried : (w x : ℤ) (q a by k p : ℕ) → w ≡ (x *ℤ pos by) +ℤ pos k → k * q + p ≡ a * by
    → (w *ℤ pos q) +ℤ pos p ≡ ((x *ℤ pos q) +ℤ pos a) *ℤ pos by
carried w x q a by k p e f =
    let g = ap (λ z. z *ℤ pos q) e in
    let h = sum_times (x *ℤ pos by) (pos k) (pos q) in
    let i = times_swap x (pos by) (pos q) in
    let j = sum_times (x *ℤ pos q) (pos a) (pos by) in
    omega (arith, ints)
