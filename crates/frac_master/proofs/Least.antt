-- the row of least ratio among the first rows
use Rattle.std.proofs.Common.{◌≤◌, ◌<◌, ◌+◌, inl, inr, ℕ, ℤ, pos, ◌*ℤ◌, ◌<ℤ◌, ◌≤ℤ◌, length, sym, ap, ◌∙◌, arith, below_more, Option, None, Some}
use Rattle.std.proofs.lemmas.Int.{ints}
use Rattle.std.proofs.Math.IntN.{*ℤ_comm}
use Rattle.search_terms.specs.Rows.{Rows, number, row_of, basic_of, last}
use Rattle.search_terms.specs.declared.TheConstants.{RIGHT}
use Rattle.search_terms.specs.Overflows.{OfBest, OfNext}
use Rattle.search_terms.specs.Pivot.{IsBounding, IsLeast, IsLeaving, IsRatioUpTo}
use Rattle.frac_master.specs.Choosing.{IsBefore, IsBehind, IsBest, IsRatioFault}
use Rattle.crew_num.specs.declared.Overflow.{Overflow}
use Rattle.crew_num.specs.Ratios.{IsFirstProduct}
use Rattle.crew_num.specs.Ratios.IsFirstProduct.{Left, Right}
use Rattle.crew_num.specs.Ring.{assoc, times_up_to, cancel_up_to}

-- a/b <= c/d and c/d <= e/f give a/e <= e/f
pub ratio_trans : (a b c d e f : ℤ) → pos 0 <ℤ b → pos 0 <ℤ d → pos 0 <ℤ f
    → (a *ℤ d) ≤ℤ (c *ℤ b) → (c *ℤ f) ≤ℤ (e *ℤ d) → (a *ℤ f) ≤ℤ (e *ℤ b)
ratio_trans a b c d e f pb pd pf one two =
    let g = times_up_to f (a *ℤ d) (c *ℤ b) pf one in
    let h = times_up_to b (c *ℤ f) (e *ℤ d) pb two in
    let i = *ℤ_comm f (a *ℤ d) ∙ assoc a d f ∙ ap (λ z. a *ℤ z) (*ℤ_comm d f) ∙ sym (assoc a f d) ∙ *ℤ_comm (a *ℤ f) d in
    let j = *ℤ_comm f (c *ℤ b) ∙ assoc c b f ∙ ap (λ z. c *ℤ z) (*ℤ_comm b f) ∙ sym (assoc c f b) ∙ *ℤ_comm (c *ℤ f) b in
    let k = *ℤ_comm b (e *ℤ d) ∙ assoc e d b ∙ ap (λ z. e *ℤ z) (*ℤ_comm d b) ∙ sym (assoc e b d) ∙ *ℤ_comm (e *ℤ b) d in
    cancel_up_to d (a *ℤ f) (e *ℤ b) pd (omega (arith, ints))

abbrev pub right : Rows → ℕ → ℤ
right t h = number (row_of t h) RIGHT

abbrev pub entry : Rows → ℕ → ℕ → ℤ
entry t v h = number (row_of t h) v

pub least_first : (t : Rows) (v i : ℕ) → ((k : ℕ) → k < i → IsBounding t v k → ⊥) → IsBounding t v i → IsLeast t v (i + 1) i
least_first t v i none b = record {
  below = omega arith;
  bounds = b;
  least = below_more (λ k. IsBounding t v k → IsRatioUpTo t v i k) i (λ k lt c. absurd (none k lt c)) (λ c. omega (arith, ints));
  lowest = below_more (λ k. IsBounding t v k → IsRatioUpTo t v k i → basic_of t i ≤ basic_of t k) i (λ k lt c. absurd (none k lt c)) (λ c r. omega arith);
}

pub least_better : (t : Rows) (v i g : ℕ) → IsLeast t v i g → IsBounding t v i
    → IsBefore (right t i) (entry t v i) (basic_of t i) (right t g) (entry t v g) (basic_of t g) → IsLeast t v (i + 1) i
least_better t v i g h b before =
    let upto : (k : ℕ) → k < i → IsBounding t v k → IsRatioUpTo t v i k = λ k lt c.
    ratio_trans (right t i) (entry t v i) (right t g) (entry t v g) (right t k) (entry t v k) b.positive h.bounds.positive c.positive
    (at_most before) (h.least k lt c) in
    record {
      below = omega arith;
      bounds = b;
      least = below_more (λ k. IsBounding t v k → IsRatioUpTo t v i k) i upto (λ c. omega (arith, ints));
      lowest = below_more (λ k. IsBounding t v k → IsRatioUpTo t v k i → basic_of t i ≤ basic_of t k) i
          (λ k lt c r. low before k lt c r) (λ c r. omega arith);
    }
  where
    at_most : IsBefore (right t i) (entry t v i) (basic_of t i) (right t g) (entry t v g) (basic_of t g) → IsRatioUpTo t v i g
    at_most (inl e) = omega (arith, ints)
    at_most (inr e) = omega (arith, ints)

    low : IsBefore (right t i) (entry t v i) (basic_of t i) (right t g) (entry t v g) (basic_of t g)
        → (k : ℕ) → k < i → IsBounding t v k → IsRatioUpTo t v k i → basic_of t i ≤ basic_of t k
    low (inl e) k lt c r =
        let s = ratio_trans (right t g) (entry t v g) (right t k) (entry t v k) (right t i) (entry t v i) h.bounds.positive c.positive b.positive (h.least k lt c) r in
        absurd (omega (arith, ints))
    low (inr e) k lt c r =
        let q : IsRatioUpTo t v i g = omega (arith, ints) in
        let s = ratio_trans (right t k) (entry t v k) (right t i) (entry t v i) (right t g) (entry t v g) c.positive b.positive h.bounds.positive r q in
        let w = h.lowest k lt c s in
        omega arith

pub least_kept : (t : Rows) (v i g : ℕ) → IsLeast t v i g → IsBounding t v i
    → IsBehind (right t i) (entry t v i) (basic_of t i) (right t g) (entry t v g) (basic_of t g) → IsLeast t v (i + 1) g
least_kept t v i g h b behind = record {
  below = omega (arith, h.below);
  bounds = h.bounds;
  least = below_more (λ k. IsBounding t v k → IsRatioUpTo t v g k) i h.least (λ c. at_most behind);
  lowest = below_more (λ k. IsBounding t v k → IsRatioUpTo t v k g → basic_of t g ≤ basic_of t k) i h.lowest (λ c r. low behind r);
}
  where
    at_most : IsBehind (right t i) (entry t v i) (basic_of t i) (right t g) (entry t v g) (basic_of t g) → IsRatioUpTo t v g i
    at_most (inl e) = omega (arith, ints)
    at_most (inr e) = omega (arith, ints)

    low : IsBehind (right t i) (entry t v i) (basic_of t i) (right t g) (entry t v g) (basic_of t g) → IsRatioUpTo t v i g → basic_of t g ≤ basic_of t i
    low (inl e) r = absurd (omega (arith, ints))
    low (inr e) r = e.1

pub least_skip : (t : Rows) (v i g : ℕ) → IsLeast t v i g → (IsBounding t v i → ⊥) → IsLeast t v (i + 1) g
least_skip t v i g h idle = record {
  below = omega (arith, h.below);
  bounds = h.bounds;
  least = below_more (λ k. IsBounding t v k → IsRatioUpTo t v g k) i h.least (λ c. absurd (idle c));
  lowest = below_more (λ k. IsBounding t v k → IsRatioUpTo t v k g → basic_of t g ≤ basic_of t k) i h.lowest (λ c r. absurd (idle c));
}

pub least_all : (t : Rows) (v g : ℕ) → IsLeast t v (last t) g → IsLeaving t v g
least_all t v g h = record {
  bounds = h.bounds;
  least = λ k c. h.least k c.known c;
  lowest = λ k c r. h.lowest k c.known c r;
}

pub bounding : (t : Rows) (v h : ℕ) → h + 1 < length t.rows → pos 0 <ℤ number (row_of t h) v → IsBounding t v h
bounding t v h below p = record { known = omega arith; positive = p }

pub best_skip : (t : Rows) (v i : ℕ) (best : Option ℕ) → IsBest t v i best → (IsBounding t v i → ⊥) → IsBest t v (i + 1) best
best_skip t v i None b idle = below_more (λ k. IsBounding t v k → ⊥) i b idle
best_skip t v i (Some g) b idle = least_skip t v i g b idle

pub ratio_fault : (t : Rows) (v h g : ℕ) (f : Overflow) → IsBounding t v h → IsLeast t v h g
    → IsFirstProduct (right t h) (entry t v h) (right t g) (entry t v g) f → IsRatioFault t v f
ratio_fault t v h g f b c (Left is leaves) = record { leaves = leaves; how = OfNext g h (record { best = c; next = b }) is }
ratio_fault t v h g f b c (Right left is leaves) = record { leaves = leaves; how = OfBest g h (record { best = c; next = b }) is }
