-- the basic solution, over whole numbers
use Rattle.std.proofs.Common.{◌≡◌, ◌≢◌, ◌<◌, ℕ, length, ap, sym, arith, ◌∙◌, ◌⊎◌, inl, inr}
use Rattle.std.proofs.lemmas.Bool.{cases_eq}
use Rattle.std.specs.Prelude.{ℤ, pos, ◌+ℤ◌, ◌-ℤ◌, ◌*ℤ◌, ◌≤ℤ◌, ◌<ℤ◌}
use Rattle.std.proofs.lemmas.Int.{ints}
use Rattle.std.proofs.Math.IntN.{*ℤ_comm, zero-*ℤ}
use Rattle.crew_terms.specs.Limits.{Limits}
use Rattle.search_terms.specs.Rows.{Rows, number, row_of, basic_of, last, value_row, IsSolution, AreBasic, AreFeasible}
use Rattle.crew_num.specs.Ring.{minus_times, swap, not_negative, cancel_not_negative}
use Rattle.crew_terms.specs.Totals.{total-one, total-zero}
use Rattle.master_laws.proofs.Entering.{spread_at, spike, spike-same, spike-other, product_plus, product_spread, product_spike}
use Rattle.master_laws.proofs.Costs.{IsCosted}
use Rattle.master_laws.proofs.Bounded.{times_all, Cofactors, all_positive, cofactors, total-not_negative, value_not_negative, spike_up, before_last}
use Rattle.search_terms.specs.declared.TheConstants.{RIGHT, VALUE}

-- the basic solution, times whole
pub record IsBasicSolution (t : Rows) (whole : ℤ) (x : ℕ → ℤ) : Type 0 where
  pub up : pos 0 <ℤ whole
  pub solves : IsSolution t x
  pub right : x RIGHT ≡ pos 0 -ℤ whole
  pub low : (j : ℕ) → VALUE < j → pos 0 ≤ℤ x j
  pub idle : (j : ℕ) → VALUE < j → ((h : ℕ) → h < last t → basic_of t h ≡ j → ⊥) → x j ≡ pos 0
  pub is : (h : ℕ) → h < length t.rows → number (row_of t h) (basic_of t h) *ℤ x (basic_of t h) ≡ number (row_of t h) RIGHT *ℤ whole

basic_apart : (t : Rows) (h i : ℕ) → AreBasic t → h < length t.rows → i < length t.rows → i ≢ h → basic_of t h ≢ basic_of t i
basic_apart t h i b in_h in_i ne e =
    let z = b.alone i h in_i in_h ne in
    let p = b.positive h in_h in
    let f = ap (number (row_of t h)) e in
    absurd (omega (arith, ints))

basic_low : (t : Rows) (h : ℕ) → AreBasic t → h < length t.rows → 0 < basic_of t h
basic_low t h b below = by_case (cases_eq h (last t))
  where
    by_case : (h ≡ last t) ⊎ (h ≢ last t) → 0 < basic_of t h
    by_case (inl q) = let f = ap (basic_of t) q in omega (arith, b.value, f)
    by_case (inr q) = let lt : h < last t = omega arith in let g = b.others h lt in omega arith

abbrev pub row_numbers : Rows → ℕ → ℤ
row_numbers t h = number (row_of t h) (basic_of t h)

abbrev pub whole_of : Rows → ℤ
whole_of t = times_all (length t.rows) (row_numbers t)

abbrev pub parts_by : (t : Rows) → Cofactors (length t.rows) (row_numbers t) → ℕ → ℤ
parts_by t c j = spread_at (length t.rows) (basic_of t) (λ h. number (row_of t h) RIGHT *ℤ c.others h) j +ℤ spike RIGHT (pos 0 -ℤ whole_of t) j

pub basic_solution : (t : Rows) → AreFeasible t → (c : Cofactors (length t.rows) (row_numbers t)) → IsBasicSolution t (whole_of t) (parts_by t c)
basic_solution t f c =
    let b = f.basic in
    let m = length t.rows in
    let e : ℕ → ℤ = row_numbers t in
    let p = whole_of t in
    let up = all_positive m e b.positive in
    let y : ℕ → ℤ = λ h. number (row_of t h) RIGHT *ℤ c.others h in
    let s : ℕ → ℤ = spread_at m (basic_of t) y in
    let q = pos 0 -ℤ p in
    let end : last t < m = omega (arith, b.some) in
    record {
      up = up;
      solves = λ h below.
          let row = row_of t h in
          let low : RIGHT < length row = omega (arith, b.known h below, b.widths h below) in
          let d = product_plus row s (spike RIGHT q) in
          let g = product_spread row m (basic_of t) y (λ k lt. omega (arith, b.known k lt, b.widths h below)) in
          let i = total-one m (λ k. number row (basic_of t k) *ℤ y k) h below
          (λ k lt ne. ap (λ z. z *ℤ y k) (b.alone k h lt below ne) ∙ zero-*ℤ (y k)) in
          let j = product_spike row RIGHT q low in
          let r = swap (e h) (number row RIGHT) (c.others h) in
          let u = ap (λ z. number row RIGHT *ℤ z) (c.whole h below) in
          let w = minus_times p (number row RIGHT) in
          let v = *ℤ_comm (number row RIGHT) q in
          let z = *ℤ_comm (number row RIGHT) p in
          omega (arith, ints);
      right =
          let g = total-zero m (λ h. spike (basic_of t h) (y h) RIGHT) (λ h below. spike-other (basic_of t h) (y h) RIGHT (let low = basic_low t h b below in omega arith)) in
          let i = spike-same RIGHT q in
          omega (arith, ints);
      low = λ j above.
          let g = total-not_negative m (λ h. spike (basic_of t h) (y h) j) (λ h below.
          spike_up (basic_of t h) (y h) j (λ same.
          let lt = before_last t b h j below same above in
          let z : pos 0 ≤ℤ c.others h = omega (arith, ints, c.up h below) in
          not_negative (number (row_of t h) RIGHT) (c.others h) (f.rights h lt) z)) in
          let i = spike-other RIGHT q j (omega arith) in
          omega (arith, ints);
      idle = λ j above none.
          let g = total-zero m (λ h. spike (basic_of t h) (y h) j) (λ h below. spike-other (basic_of t h) (y h) j
          (λ same. none h (before_last t b h j below (sym same) above) (sym same))) in
          let i = spike-other RIGHT q j (omega arith) in
          omega (arith, ints);
      is = λ h below.
          let k = basic_of t h in
          let low = basic_low t h b below in
          let g = total-one m (λ i. spike (basic_of t i) (y i) k) h below (λ i lt ne. spike-other (basic_of t i) (y i) k (basic_apart t h i b below lt ne)) in
          let i = spike-same k (y h) in
          let j = spike-other RIGHT q k (omega arith) in
          let at : parts_by t c k ≡ y h = omega (arith, ints) in
          ap (λ z. e h *ℤ z) at ∙ swap (e h) (number (row_of t h) RIGHT) (c.others h) ∙ ap (λ z. number (row_of t h) RIGHT *ℤ z) (c.whole h below);
    }

-- the right side of the value's row isn't negative
pub value_right : (n : Limits) (t : Rows) → AreFeasible t → IsCosted n t → pos 0 ≤ℤ number (value_row t) RIGHT
value_right n t f costed =
    let b = f.basic in
    let c = cofactors (length t.rows) (row_numbers t) b.positive in
    let s = basic_solution t f c in
    let end : last t < length t.rows = omega (arith, b.some) in
    let x = parts_by t c in
    let up_value = value_not_negative n t x costed s.solves s.low in
    let i = s.is (last t) end in
    let e = ap (λ k. number (value_row t) k *ℤ x k) b.value in
    let pu = b.positive (last t) end in
    let pe = ap (number (value_row t)) b.value in
    let q : pos 0 ≤ℤ number (value_row t) VALUE = omega (arith, ints) in
    let k = *ℤ_comm (number (value_row t) RIGHT) (whole_of t) in
    let g = not_negative (number (value_row t) VALUE) (x VALUE) q up_value in
    let final : pos 0 ≤ℤ (whole_of t *ℤ number (value_row t) RIGHT) = omega (arith, ints) in
    cancel_not_negative (whole_of t) (number (value_row t) RIGHT) s.up final
