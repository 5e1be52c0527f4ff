-- steps that lie in i128
use Rattle.std.proofs.Common.{◌≡◌, ◌<◌, ◌≤◌, ◌*◌, ◌^◌, ◌∙◌, ℕ, zero, suc, ap, sym, subst, arith}
use Rattle.std.specs.Prelude.{ℤ, pos, negsuc, ◌-ℤ◌, ◌*ℤ◌, unsigned_abs}
use Rattle.std.specs.Int.{w128}
use Rattle.std.proofs.lemmas.Int.{ints, unsigned_abs-mul, fits_signed_from_abs}
use Rattle.crew_num.specs.Exact.{FitsI128, StepsFit}
use Rattle.crew_num.specs.Ring.{assoc, scale_diff}

more_times : (g n : ℕ) → n ≤ suc g * n
more_times g n = omega arith

-- where a multiple lies in i128, so does the number
pub fits_part : (g : ℕ) (y : ℤ) → 0 < g → FitsI128 (pos g *ℤ y) → FitsI128 y
fits_part zero y some fits = absurd (omega arith)
fits_part (suc g) (pos n) some fits = let h = more_times g n in omega (arith, ints)
fits_part (suc g) (negsuc n) some fits = let h = more_times g (suc n) in omega (arith, ints)

-- and so do the steps of parts
pub steps_part : (g : ℕ) (p a e b x y : ℤ) → 0 < g → pos g *ℤ x ≡ p → pos g *ℤ y ≡ e → StepsFit p a e b → StepsFit x a y b
steps_part g p a e b x y some ep ee s =
    let u : p *ℤ a ≡ pos g *ℤ (x *ℤ a) = ap (λ z. z *ℤ a) (sym ep) ∙ assoc (pos g) x a in
    let v : e *ℤ b ≡ pos g *ℤ (y *ℤ b) = ap (λ z. z *ℤ b) (sym ee) ∙ assoc (pos g) y b in
    let w : (p *ℤ a) -ℤ (e *ℤ b) ≡ pos g *ℤ ((x *ℤ a) -ℤ (y *ℤ b)) =
    ap (λ z. z -ℤ (e *ℤ b)) u ∙ ap (λ z. (pos g *ℤ (x *ℤ a)) -ℤ z) v ∙ sym (scale_diff (pos g) (x *ℤ a) (y *ℤ b)) in
    record {
      raised = fits_part g (x *ℤ a) some (subst FitsI128 u s.raised);
      taken = fits_part g (y *ℤ b) some (subst FitsI128 v s.taken);
      rest = fits_part g ((x *ℤ a) -ℤ (y *ℤ b)) some (subst FitsI128 w s.rest);
    }

mul_le_right : (a b m : ℕ) → b ≤ m → a * b ≤ a * m
mul_le_right a b m h = grind arith

small_product : (p a : ℤ) (m : ℕ) → unsigned_abs a ≤ m → unsigned_abs p * m < 2 ^ 126 → unsigned_abs (p *ℤ a) < 2 ^ 126
small_product p a m h k =
    let e = unsigned_abs-mul p a in
    let f = mul_le_right (unsigned_abs p) (unsigned_abs a) m h in
    omega (arith, e, f)

small_fits : (x : ℤ) → unsigned_abs x < 2 ^ 126 → FitsI128 x
small_fits x h = fits_signed_from_abs w128 x (omega arith)

small_difference : (x y : ℤ) → unsigned_abs x < 2 ^ 126 → unsigned_abs y < 2 ^ 126 → FitsI128 (x -ℤ y)
small_difference x y h k = omega (arith, ints)

pub small_steps : (p a e b : ℤ) (m n : ℕ) → unsigned_abs a ≤ m → unsigned_abs b ≤ n → unsigned_abs p * m < 2 ^ 126 → unsigned_abs e * n < 2 ^ 126 → StepsFit p a e b
small_steps p a e b m n ha hb hp he =
    let x = small_product p a m ha hp in
    let y = small_product e b n hb he in
    record {
      raised = small_fits (p *ℤ a) x;
      taken = small_fits (e *ℤ b) y;
      rest = small_difference (p *ℤ a) (e *ℤ b) x y;
    }
