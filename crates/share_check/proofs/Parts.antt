-- numbers of parts and of wholes
use Rattle.std.proofs.Common.{◌≡◌, ◌≤◌, ◌<◌, ◌+◌, ◌*◌, ℕ, suc, ℤ, pos, negsuc, ap, sym, ◌∙◌, arith, ◌⊎◌, inl, inr}
use Rattle.std.proofs.Math.Nat.{mul-le-mul_right, suc-mul, mul_comm}
use Rattle.std.proofs.lemmas.Int.{ints}
use Rattle.std.specs.Prelude.{◌+ℤ◌, ◌-ℤ◌, ◌*ℤ◌, ◌≤ℤ◌, ◌<ℤ◌, unsigned_abs}
use Rattle.std.proofs.lemmas.Bool.{cases_lt}
use Rattle.crew_terms.specs.Total.{total}
use Rattle.share_terms.specs.Shares.{distance}

-- fewer wholes than `most`
pub below_most : (w : ℤ) (part whole most n : ℕ) → pos 0 ≤ℤ w → part < whole → (w *ℤ pos whole) +ℤ pos part ≡ pos n → w <ℤ pos most → n ≤ most * whole
below_most (negsuc a) part whole most n low below e less = absurd (omega (arith, ints))
below_most (pos a) part whole most n low below e less =
    let is : a * whole + part ≡ n = cc in
    let up : suc a * whole ≤ most * whole = mul-le-mul_right whole (omega (arith, ints)) in
    omega (arith, suc-mul a whole)

-- as many and no more
pub at_most : (w : ℤ) (part whole most n : ℕ) → (w *ℤ pos whole) +ℤ pos part ≡ pos n → w ≡ pos most → part ≡ 0 → n ≤ most * whole
at_most w part whole most n e same none =
    let is : pos (most * whole + part) ≡ pos n = ap (λ z. (z *ℤ pos whole) +ℤ pos part) (sym same) ∙ e in
    let f : most * whole + part ≡ n = cc in
    omega arith

-- more than that
pub above_most : (w : ℤ) (part whole most n : ℕ) → pos most ≤ℤ w → (w *ℤ pos whole) +ℤ pos part ≡ pos n → (w ≡ pos most → part ≡ 0 → ⊥) → 1 ≤ whole → n ≤ most * whole → ⊥
above_most (negsuc a) part whole most n low e more some h = absurd (omega (arith, ints))
above_most (pos a) part whole most n low e more some h = at (cases_lt most a)
  where
    at : (most < a) ⊎ (a ≤ most) → ⊥
    at (inl l) =
        let is : a * whole + part ≡ n = cc in
        let up : suc most * whole ≤ a * whole = mul-le-mul_right whole (omega arith) in
        omega (arith, suc-mul most whole)
    at (inr l) =
        let same : a ≡ most = omega (arith, ints) in
        let is : a * whole + part ≡ n = cc in
        let f : most * whole + part ≡ n = ap (λ b. b * whole + part) (sym same) ∙ is in
        more (ap pos same) (omega arith)

-- the distance of two numbers
pub distance_is : (a b : ℕ) → unsigned_abs (pos a -ℤ pos b) ≡ distance a b
distance_is a b = omega (arith, ints)

-- so many times a share
pub times_is : (share needed : ℕ) → (pos share *ℤ pos needed) ≡ pos (needed * share)
times_is share needed = ap pos (mul_comm share needed)

-- a sum with its next number
pub next_total : (j : ℕ) (f : ℕ → ℤ) (all so_far one : ℤ) → all ≡ so_far +ℤ one → so_far ≡ total j f → one ≡ f j → all ≡ total (j + 1) f
next_total j f all so_far one e s o = e ∙ ap (λ z. z +ℤ one) s ∙ ap (λ z. total j f +ℤ z) o ∙ ap (λ i. total i f) (let k : suc j ≡ j + 1 = omega arith in k)
