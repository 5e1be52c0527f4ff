-- a pivot keeps the basic solution, and its feasibility
use Rattle.std.proofs.Common.{◌≡◌, ◌≢◌, ◌<◌, ◌-◌, ℕ, length, get_or, ap, sym, arith, ◌⊎◌, inl, inr, ◌∙◌, get_or-set_same, get_or-set_other}
use Rattle.std.specs.Prelude.{pos, ◌-ℤ◌, ◌*ℤ◌, ◌≤ℤ◌, ◌<ℤ◌}
use Rattle.std.proofs.Math.ListN.{length-set}
use Rattle.std.proofs.lemmas.Int.{ints, by_lt_z}
use Rattle.std.proofs.lemmas.Bool.{cases_eq}
use Rattle.std.proofs.Math.IntN.{*ℤ_comm}
use Rattle.search_terms.specs.Rows.{Row, Rows, number, row_of, basic_of, last, width, AreBasic, AreFeasible}
use Rattle.search_terms.specs.Pivot.{IsPivot, IsPivotAt, IsReplaced}
use Rattle.crew_num.specs.Ring.{minus_times, positive, not_negative, cancel_zero, cancel_positive, cancel_not_negative}
use Rattle.master_laws.proofs.Solutions.{by_row}
use Rattle.search_terms.specs.declared.TheConstants.{RIGHT, VALUE}

same_length : (t next : Rows) (v h i : ℕ) → IsPivotAt t v h next → i < length t.rows → length (row_of next i) ≡ length (row_of t i)
same_length t next v h i p below = by_row t next v h i (length (row_of next i) ≡ length (row_of t i)) p below (λ e same. ap (λ r. length r) e) (λ r ne. r.width)

pub same_width : (t next : Rows) (v h : ℕ) → IsPivotAt t v h next → 0 < length t.rows → width next ≡ width t
same_width t next v h p some =
    let e : last next ≡ last t = ap (λ k. k - 1) p.count in
    let below : last t < length t.rows = omega arith in
    ap (λ k. length (row_of next k)) e ∙ same_length t next v h (last t) p below

basic_same : (t next : Rows) (v h : ℕ) → IsPivotAt t v h next → h < length t.basis → basic_of next h ≡ v
basic_same t next v h p below = ap (λ b. get_or b h 0) p.basis ∙ get_or-set_same t.basis h v 0 below

basic_other : (t next : Rows) (v h i : ℕ) → IsPivotAt t v h next → i ≢ h → basic_of next i ≡ basic_of t i
basic_other t next v h i p ne = ap (λ b. get_or b i 0) p.basis ∙ get_or-set_other t.basis h i v 0 ne

-- where the pivot row has 0, a replaced row has 0 or is positive as before
clear_zero : (pivot : Row) (v : ℕ) (row new : Row) (j : ℕ) (r : IsReplaced pivot v row new) → j < length row
    → number pivot j ≡ pos 0 → number row j ≡ pos 0 → number new j ≡ pos 0
clear_zero pivot v row new j r below e f =
    let g = r.each j below in
    let h = ap (λ z. number pivot v *ℤ z) f in
    let i = ap (λ z. number row v *ℤ z) e in
    let k : pos r.factor *ℤ number new j ≡ pos 0 = omega (arith, ints) in
    let l : pos 0 <ℤ pos r.factor = omega (arith, ints, r.some) in
    cancel_zero (pos r.factor) (number new j) l k

clear_entering : (pivot : Row) (v : ℕ) (row new : Row) (r : IsReplaced pivot v row new) → v < length row → number new v ≡ pos 0
clear_entering pivot v row new r below =
    let g = r.each v below in
    let h = *ℤ_comm (number pivot v) (number row v) in
    let k : pos r.factor *ℤ number new v ≡ pos 0 = omega (arith, ints) in
    let l : pos 0 <ℤ pos r.factor = omega (arith, ints, r.some) in
    cancel_zero (pos r.factor) (number new v) l k

clear_positive : (pivot : Row) (v : ℕ) (row new : Row) (j : ℕ) (r : IsReplaced pivot v row new) → j < length row
    → pos 0 <ℤ number pivot v → number pivot j ≡ pos 0 → pos 0 <ℤ number row j → pos 0 <ℤ number new j
clear_positive pivot v row new j r below p e f =
    let g = r.each j below in
    let h = positive (number pivot v) (number row j) p f in
    let i = ap (λ z. number row v *ℤ z) e in
    let k : pos 0 <ℤ (pos r.factor *ℤ number new j) = omega (arith, ints) in
    let l : pos 0 <ℤ pos r.factor = omega (arith, ints, r.some) in
    cancel_positive (pos r.factor) (number new j) l k

-- the right side of a replaced row
clear_right : (pivot : Row) (v : ℕ) (row new : Row) (r : IsReplaced pivot v row new) → RIGHT < length row
    → pos 0 <ℤ number pivot v → pos 0 ≤ℤ number pivot RIGHT → pos 0 ≤ℤ number row RIGHT
    → (pos 0 <ℤ number row v → (number pivot RIGHT *ℤ number row v) ≤ℤ (number row RIGHT *ℤ number pivot v)) → pos 0 ≤ℤ number new RIGHT
clear_right pivot v row new r below p a b least =
    let g = r.each RIGHT below in
    let l : pos 0 <ℤ pos r.factor = omega (arith, ints, r.some) in
    let m = *ℤ_comm (number pivot v) (number row RIGHT) in
    let n = *ℤ_comm (number row v) (number pivot RIGHT) in
    let k : pos 0 ≤ℤ (pos r.factor *ℤ number new RIGHT) = by_lt_z (pos 0) (number row v)
    (λ h. let q = least h in omega (arith, ints))
    (λ h. let s : pos 0 ≤ℤ number pivot v = omega (arith, ints) in
    let q = not_negative (number pivot v) (number row RIGHT) s b in
    let z : pos 0 ≤ℤ (pos 0 -ℤ number row v) = omega (arith, ints) in
    let u = not_negative (pos 0 -ℤ number row v) (number pivot RIGHT) z a in
    let w = minus_times (number row v) (number pivot RIGHT) in
    omega (arith, ints)) in
    cancel_not_negative (pos r.factor) (number new RIGHT) l k

by_equal : (i h : ℕ) (P : Type 0) → (i ≡ h → P) → (i ≢ h → P) → P
by_equal i h P same other = by_case (cases_eq i h)
  where
    by_case : (i ≡ h) ⊎ (i ≢ h) → P
    by_case (inl e) = same e
    by_case (inr ne) = other ne

pub basic_next : (t next : Rows) → AreBasic t → IsPivot t next → AreBasic next
basic_next t next b p =
    let at = p.pivot in
    let v = p.v in
    let h = p.h in
    let known : h < length t.rows = omega (arith, p.leaves.bounds.known) in
    let there : h < length t.basis = omega (arith, b.count) in
    let same = same_width t next v h at b.some in
    let end : last next ≡ last t = ap (λ k. k - 1) at.count in
    let pivot = row_of t h in
    record {
      some = omega (arith, at.count, b.some);
      count = ap length at.basis ∙ length-set t.basis h v ∙ b.count ∙ sym at.count;
      widths = λ i below.
          let in' : i < length t.rows = omega (arith, at.count) in
          same_length t next v h i at in' ∙ b.widths i in' ∙ sym same;
      known = λ i below.
          let in' : i < length t.rows = omega (arith, at.count) in
          by_equal i h (basic_of next i < width next)
          (λ e. let f = ap (basic_of next) e ∙ basic_same t next v h at there in omega (arith, p.enters.improves.known))
          (λ ne. let f = basic_other t next v h i at ne in omega (arith, b.known i in'));
      value =
          let ne : last t ≢ h = omega (arith, p.leaves.bounds.known) in
          ap (basic_of next) end ∙ basic_other t next v h (last t) at ne ∙ b.value;
      others = λ i below.
          by_equal i h (VALUE < basic_of next i)
          (λ e. let f = ap (basic_of next) e ∙ basic_same t next v h at there in omega (arith, p.enters.improves.variable))
          (λ ne. let f = basic_other t next v h i at ne in let in' : i < last t = omega arith in omega (arith, b.others i in'));
      positive = λ i below.
          let in' : i < length t.rows = omega (arith, at.count) in
          by_equal i h (pos 0 <ℤ number (row_of next i) (basic_of next i))
          (λ e. let f = ap (basic_of next) e ∙ basic_same t next v h at there in
          let g : row_of next i ≡ pivot = ap (row_of next) e ∙ at.kept in
          rw (f, g) p.leaves.bounds.positive)
          (λ ne. let f = basic_other t next v h i at ne in
          let e : h ≢ i = λ q. ne (sym q) in
          let low : basic_of t i < length (row_of t i) = omega (arith, b.known i in', b.widths i in') in
          rw f (clear_positive pivot v (row_of t i) (row_of next i) (basic_of t i) (at.replaced i in' ne) low p.leaves.bounds.positive
          (b.alone i h in' known ne) (b.positive i in')));
      alone = λ a i one below ne.
          let in' : i < length t.rows = omega (arith, at.count) in
          let in_a : a < length t.rows = omega (arith, at.count) in
          by_equal a h (number (row_of next i) (basic_of next a) ≡ pos 0)
          (λ e. let f = ap (basic_of next) e ∙ basic_same t next v h at there in
          let other : i ≢ h = λ q. ne (e ∙ sym q) in
          let low : v < length (row_of t i) = omega (arith, p.enters.improves.known, b.widths i in') in
          rw f (clear_entering pivot v (row_of t i) (row_of next i) (at.replaced i in' other) low))
          (λ apart. let f = basic_other t next v h a at apart in
          by_equal i h (number (row_of next i) (basic_of next a) ≡ pos 0)
          (λ e. let g : row_of next i ≡ pivot = ap (row_of next) e ∙ at.kept in
          rw (f, g) (b.alone a h in_a known apart))
          (λ other.
          let low : basic_of t a < length (row_of t i) = omega (arith, b.known a in_a, b.widths i in') in
          rw f (clear_zero pivot v (row_of t i) (row_of next i) (basic_of t a) (at.replaced i in' other) low
          (b.alone a h in_a known apart) (b.alone a i in_a in' ne))));
    }

pub feasible_next : (t next : Rows) → AreFeasible t → IsPivot t next → AreFeasible next
feasible_next t next f p =
    let b = f.basic in
    let at = p.pivot in
    let v = p.v in
    let h = p.h in
    let bound = p.leaves.bounds in
    record {
      basic = basic_next t next b p;
      rights = λ i below.
          let end : last next ≡ last t = ap (λ k. k - 1) at.count in
          let before : i < last t = omega arith in
          let in' : i < length t.rows = omega arith in
          by_row t next v h i (pos 0 ≤ℤ number (row_of next i) RIGHT) at in'
          (λ e same. rw e (f.rights i before))
          (λ r ne.
          let low : RIGHT < length (row_of t i) = omega (arith, b.widths i in', b.known (last t) (omega (arith, b.some)), b.value) in
          clear_right (row_of t h) v (row_of t i) (row_of next i) r low bound.positive (f.rights h bound.known) (f.rights i before)
          (λ q. p.leaves.least i (record { known = before; positive = q })));
    }
