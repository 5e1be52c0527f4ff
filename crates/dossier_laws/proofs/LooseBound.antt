-- a loose choice bounds all prices
use Rattle.std.proofs.Common.{◌≡◌, ◌≤◌, ◌+◌, ℕ, ap, sym, ◌∙◌, arith}
use Rattle.std.specs.Prelude.{ℤ, pos, ◌+ℤ◌, ◌*ℤ◌, ◌≤ℤ◌, ◌*◌, ◌-◌}
use Rattle.std.proofs.Math.IntN.{pos-*ℤ-pos}
use Rattle.std.proofs.lemmas.Int.{ints, by_lt_z}
use Rattle.crew_terms.specs.Limits.{Limits}
use Rattle.crew_terms.specs.declared.TheConstants.{D}
use Rattle.crew_terms.specs.Leaf.{}
use Rattle.share_terms.specs.declared.TheConstants.{MARGIN}
use Rattle.share_terms.specs.Shares.{FractionalChoice, IsLoose, choice_value}
use Rattle.crew_num.specs.Scales.{times, times-plus, times-le, times-times}

-- what holds so often holds once
once : (q : ℕ) (y z : ℤ) → 1 ≤ q → times q y ≤ℤ times q z → y ≤ℤ z
once q y z some le = by_lt_z z y (λ lt.
    let a = times-le q (z +ℤ pos 1) y (omega (arith, ints)) in
    let b = times-plus q z (pos 1) in
    let c = pos-*ℤ-pos q 1 in
    absurd (omega (arith, ints))) (λ h. h)

pub loose_bound : (n : Limits) (c : FractionalChoice) (now : ℕ) (bound : ℤ) → 1 ≤ c.whole → 1 ≤ now → IsLoose n c (1000 * (now - 1) + 1) 1000
    → (pos c.whole *ℤ bound) ≤ℤ (pos D *ℤ choice_value n c) → bound ≤ℤ pos ((now - 1) * D + MARGIN)
loose_bound n c now bound whole some loose weak =
    once c.whole bound (pos ((now - 1) * D + MARGIN)) whole (once 1000 (times c.whole bound) (times c.whole (pos ((now - 1) * D + MARGIN))) (omega arith) (
    let value = choice_value n c in
    let a = times-le 1000 (times c.whole bound) (times D value) weak in
    let b : times 1000 (times D value) ≡ times D (times 1000 value) = sym (times-times 1000 D value) ∙ times-times D 1000 value in
    let d = times-le D (times 1000 value) (pos (1000 * (now - 1) + 1) *ℤ pos c.whole) loose in
    let e = pos-*ℤ-pos (1000 * (now - 1) + 1) c.whole in
    let f = ap (times D) e ∙ pos-*ℤ-pos D ((1000 * (now - 1) + 1) * c.whole) in
    let g = ap (times 1000) (pos-*ℤ-pos c.whole ((now - 1) * D + MARGIN)) ∙ pos-*ℤ-pos 1000 (c.whole * ((now - 1) * D + MARGIN)) in
    let h : D * ((1000 * (now - 1) + 1) * c.whole) ≡ 1000 * (c.whole * ((now - 1) * D + MARGIN)) = same (now - 1) c.whole in
    let i = ap pos h in
    omega (arith, ints)))
  where
    same : (m q : ℕ) → D * ((1000 * m + 1) * q) ≡ 1000 * (q * (m * D + MARGIN))
    same m q = grind arith
