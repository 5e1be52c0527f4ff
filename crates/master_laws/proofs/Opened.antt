-- the opening rows are feasible
use Rattle.std.proofs.Common.{◌≡◌, ◌≤◌, ◌<◌, ◌-◌, ℕ, suc, length, get_or, ap, sym, arith, ◌∙◌, ◌⊎◌, inl, inr}
use Rattle.std.specs.Prelude.{ℤ, pos, ◌-ℤ◌, ◌*ℤ◌, ◌<ℤ◌}
use Rattle.std.proofs.lemmas.Int.{ints}
use Rattle.std.proofs.Math.IntN.{*ℤ-zero, *ℤ_comm}
use Rattle.crew_terms.specs.Limits.{Limits}
use Rattle.search_terms.specs.declared.Place.TheVariants.{Value}
use Rattle.search_terms.specs.Rows.{number, row_of, basic_of, last, width, AreBasic, AreFeasible}
use Rattle.search_terms.specs.Opening.{places, basic_at, opening, opening_basis, basic_number, cost, cost_sum}
use Rattle.crew_terms.specs.Totals.{total-zero, total-one, lt_or_last}
use Rattle.master_laws.specs.Opening.{wide_opening}
use Rattle.master_laws.proofs.Positions.{count, basic_position, last_position, rows_count, basis_count, opening_width, basic_at_number, last_number}
use Rattle.master_laws.proofs.Apart.{basics_apart, basic_one, basic_value, basic_right}

last_is : (n : Limits) → last (opening n) ≡ count n
last_is n = ap (λ k. k - 1) (rows_count n) ∙ omega arith

at : Limits → ℕ → ℕ
at n h = get_or (opening_basis (places n)) h 0

-- the number of a row at the basic variable of another
between : (n : Limits) (i h : ℕ) → i < count n → h < count n → number (row_of (opening n) i) (at n h) ≡ basic_number n (basic_at (places n) i) (basic_at (places n) h)
unfolding at
between n i h in_i in_h =
    let p = basic_position n h in_h in
    basic_at_number n i (at n h) in_i p.known ∙ ap (basic_number n (basic_at (places n) i)) p.is

own : (n : Limits) (h : ℕ) → h < count n → number (row_of (opening n) h) (at n h) ≡ pos 1
own n h below = between n h h below below ∙ basic_one n (basic_at (places n) h) (basic_position n h below).passes

times_one : (z : ℤ) → z *ℤ pos 1 ≡ z
times_one z = *ℤ_comm z (pos 1) ∙ omega (arith, ints)

-- the value's row
value_at_basic : (n : Limits) (h : ℕ) → h < count n → number (row_of (opening n) (count n)) (at n h) ≡ pos 0
unfolding at
value_at_basic n h below =
    let p = basic_position n h below in
    let b = basic_at (places n) h in
    let f : ℕ → ℤ = λ i. cost (basic_at (places n) i) *ℤ basic_number n (basic_at (places n) i) b in
    let e = total-one (count n) f h below (λ i in_i ne. ap (λ z. cost (basic_at (places n) i) *ℤ z) (basics_apart n i h in_i below ne) ∙ *ℤ-zero (cost (basic_at (places n) i))) in
    let g = ap (λ z. cost b *ℤ z) (basic_one n b p.passes) ∙ times_one (cost b) in
    let k = last_number n (at n h) p.known in
    let l = ap (λ q. cost_sum (places n) (λ b. basic_number n b q) -ℤ cost q) p.is in
    k ∙ l ∙ omega (arith, ints)

value_at_value : (n : Limits) → number (row_of (opening n) (count n)) 1 ≡ pos 1
value_at_value n =
    let two : 1 < length (places n) = omega arith in
    let k = last_number n 1 two in
    let z = total-zero (count n) (λ i. cost (basic_at (places n) i) *ℤ basic_number n (basic_at (places n) i) Value)
    (λ i _. ap (λ z. cost (basic_at (places n) i) *ℤ z) (basic_value n (basic_at (places n) i)) ∙ *ℤ-zero (cost (basic_at (places n) i))) in
    k ∙ omega (arith, ints)

basic_at_value : (n : Limits) (i : ℕ) → i < count n → number (row_of (opening n) i) 1 ≡ pos 0
basic_at_value n i below =
    let two : 1 < length (places n) = omega arith in
    basic_at_number n i 1 below two ∙ basic_value n (basic_at (places n) i)

pub basic_opening : (n : Limits) → AreBasic (opening n)
unfolding at
basic_opening n =
    let rows = rows_count n in
    let wide = wide_opening n in
    let end = last_is n in
    let two : 2 ≤ length (places n) = omega arith in
    let final = last_position n in
    record {
      some = omega (arith, rows);
      count = basis_count n ∙ sym rows;
      widths = λ h below. opening_width n h (omega (arith, rows)) ∙ sym wide;
      known = λ h below. split h (omega (arith, rows)) (basic_of (opening n) h < width (opening n))
          (λ lt. omega (arith, (basic_position n h lt).known, wide))
          (λ e. let f : basic_of (opening n) h ≡ 1 = ap (basic_of (opening n)) e ∙ final in omega (arith, wide));
      value = ap (basic_of (opening n)) end ∙ final;
      others = λ h below. (basic_position n h (omega (arith, end))).above;
      positive = λ h below. split h (omega (arith, rows)) (pos 0 <ℤ number (row_of (opening n) h) (basic_of (opening n) h))
          (λ lt. rw (own n h lt) (omega (arith, ints)))
          (λ e.
          let f : number (row_of (opening n) h) (basic_of (opening n) h) ≡ pos 1 =
          ap (λ k. number (row_of (opening n) k) (basic_of (opening n) k)) e ∙ ap (number (row_of (opening n) (count n))) final ∙ value_at_value n in
          omega (arith, ints));
      alone = λ h i in_h in_i ne.
          split h (omega (arith, rows)) (number (row_of (opening n) i) (basic_of (opening n) h) ≡ pos 0)
          (λ lt. split i (omega (arith, rows)) (number (row_of (opening n) i) (basic_of (opening n) h) ≡ pos 0)
          (λ less. between n i h less lt ∙ basics_apart n i h less lt (λ e. ne (sym e)))
          (λ e. ap (λ k. number (row_of (opening n) k) (at n h)) e ∙ value_at_basic n h lt))
          (λ e. split i (omega (arith, rows)) (number (row_of (opening n) i) (basic_of (opening n) h) ≡ pos 0)
          (λ less. ap (λ k. number (row_of (opening n) i) (basic_of (opening n) k)) e ∙ ap (number (row_of (opening n) i)) final ∙ basic_at_value n i less)
          (λ q. absurd (ne (e ∙ sym q))));
    }
  where
    split : (h : ℕ) → h < suc (count n) → (P : Type 0) → (h < count n → P) → (h ≡ count n → P) → P
    split h below P before here = by_case (lt_or_last (count n) h below)
      where
        by_case : (h < count n) ⊎ (h ≡ count n) → P
        by_case (inl lt) = before lt
        by_case (inr e) = here e

-- each opening row has 1 at its basic variable
pub own_one : (n : Limits) (h : ℕ) → h < suc (count n) → number (row_of (opening n) h) (get_or (opening_basis (places n)) h 0) ≡ pos 1
unfolding at
own_one n h below = by_case (lt_or_last (count n) h below)
  where
    by_case : (h < count n) ⊎ (h ≡ count n) → number (row_of (opening n) h) (get_or (opening_basis (places n)) h 0) ≡ pos 1
    by_case (inl lt) = own n h lt
    by_case (inr e) =
        ap (λ k. number (row_of (opening n) k) (get_or (opening_basis (places n)) k 0)) e
        ∙ ap (number (row_of (opening n) (count n))) (last_position n) ∙ value_at_value n

pub feasible_opening : (n : Limits) → AreFeasible (opening n)
feasible_opening n = record {
  basic = basic_opening n;
  rights = λ h below.
      let lt : h < count n = omega (arith, last_is n) in
      let low : 0 < length (places n) = omega arith in
      rw (basic_at_number n h 0 lt low) (basic_right n (basic_at (places n) h));
}
