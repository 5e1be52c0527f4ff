-- what is kept of a replaced row
use Rattle.std.proofs.Common.{◌≡◌, ◌<◌, ◌*◌, ◌^◌, ◌∙◌, ℕ, List, length, get_or, ap, sym, subst, arith, All}
use Rattle.std.specs.Prelude.{ℤ, pos, ◌-ℤ◌, ◌*ℤ◌, ◌<ℤ◌, unsigned_abs}
use Rattle.std.specs.Int.{◌∣◌}
use Rattle.std.proofs.lemmas.Int.{ints, unsigned_abs-mul}
use Rattle.std.proofs.Math.Nat.{mul-dvd-mul_left}
use Rattle.std.proofs.lemmas.Nat.Gcd.{dvd_trans}
use Rattle.std.proofs.Math.IntN.{*ℤ-zero}
use Rattle.crew_num.specs.Exact.{FitsI128, StepsFit}
use Rattle.crew_num.specs.Ring.{assoc, cancel_positive, positive, scale_diff}
use Rattle.crew_num.specs.Scales.{times-times}
use Rattle.search_terms.specs.Rows.{Row, number}
use Rattle.search_terms.specs.Pivot.{cleared}
use Rattle.kept_rows.specs.Columns.{AreColumns, IsKnownIn, entry_in, full}
use Rattle.kept_rows.specs.Factor.{IsCovered}
use Rattle.kept_rows.specs.Replaced.{AllFit, AreLowered, CanReplace, IsCombined, IsNewRow}
use Rattle.kept_rows.specs.Replacement.{IsDivided, IsFactor}
use Rattle.kept_rows.specs.declared.columns.Column.{Column}
use Rattle.kept_rows.specs.declared.replacing.Lowered.{Lowered}
use Rattle.kept_rows.proofs.Alone.{scaled_to}
use Rattle.kept_rows.proofs.Entries.{combined_full, covered, full_length}
use Rattle.kept_rows.proofs.Steps.{fits_part, steps_part}

-- the kept numbers are among the row's, so their steps lie in i128
pub kept_steps : (w : ℕ) (columns : List Column) (pivot row : Row) (p e : ℤ) (l : Lowered) → AreColumns w columns → AllFit columns pivot row p e → AreLowered p e l
    → (i : ℕ) → i < w → StepsFit l.p (number row i) l.e (number pivot i)
kept_steps w columns pivot row p e l cs fit low i lt =
    let h = cs.home i lt in
    let s = fit h.0 h.1 in
    let t = subst (λ b. StepsFit p (number row i) e b) (h.2 pivot) (subst (λ a. StepsFit p a e (number (full columns pivot) h.0)) (h.2 row) s) in
    steps_part low.factor p (number row i) e (number pivot i) l.p l.e low.some low.raised low.taken t

-- the factor times a combined number
raised_kept : (g : ℕ) (p e x y a b z : ℤ) → pos g *ℤ x ≡ p → pos g *ℤ y ≡ e → z ≡ (x *ℤ a) -ℤ (y *ℤ b) → pos g *ℤ z ≡ (p *ℤ a) -ℤ (e *ℤ b)
raised_kept g p e x y a b z ep ee ez =
    ap (λ q. pos g *ℤ q) ez ∙ scale_diff (pos g) (x *ℤ a) (y *ℤ b)
    ∙ ap (λ q. q -ℤ (pos g *ℤ (y *ℤ b))) (sym (assoc (pos g) x a) ∙ ap (λ q. q *ℤ a) ep)
    ∙ ap (λ q. (p *ℤ a) -ℤ q) (sym (assoc (pos g) y b) ∙ ap (λ q. q *ℤ b) ee)

pub mid_kept : (w : ℕ) (pivot row mid : Row) (p e : ℤ) (l : Lowered) (low : AreLowered p e l) → length row ≡ w → IsCombined l.p l.e pivot row mid
    → (i : ℕ) → i < w → pos low.factor *ℤ number mid i ≡ (p *ℤ number row i) -ℤ (e *ℤ number pivot i)
mid_kept w pivot row mid p e l low wide c i lt =
    raised_kept low.factor p e l.p l.e (number row i) (number pivot i) (number mid i) low.raised low.taken (c.each i (omega (arith, wide)))

-- the factor times the combined row's number at a variable
pub mid_full : (w : ℕ) (columns : List Column) (pivot row mid : Row) (p e : ℤ) (l : Lowered) (low : AreLowered p e l) → length row ≡ w → AreColumns w columns
    → IsCombined l.p l.e pivot row mid → (j : ℕ) → j < length columns
    → pos low.factor *ℤ number (full columns mid) j ≡ (p *ℤ number (full columns row) j) -ℤ (e *ℤ number (full columns pivot) j)
mid_full w columns pivot row mid p e l low wide cs c = combined_full w columns (pos low.factor) p e row pivot mid cs.known (mid_kept w pivot row mid p e l low wide c)

pub mid_fits : (w : ℕ) (columns : List Column) (pivot row mid : Row) (p e : ℤ) (l : Lowered) (low : AreLowered p e l) → length row ≡ w → AreColumns w columns
    → AllFit columns pivot row p e → IsCombined l.p l.e pivot row mid → (j : ℕ) → j < length columns → FitsI128 (number (full columns mid) j)
mid_fits w columns pivot row mid p e l low wide cs fit c j lt =
    fits_part low.factor (number (full columns mid) j) low.some (subst FitsI128 (sym (mid_full w columns pivot row mid p e l low wide cs c j lt)) (fit j lt).rest)

-- at the place of the basic variable the combined row is positive
pub mid_positive : (w : ℕ) (columns : List Column) (pivot row mid : Row) (v basic : ℕ) (p e : ℤ) (l : Lowered) (low : AreLowered p e l) → CanReplace w columns pivot row v basic
    → p ≡ number (full columns pivot) v → IsCombined l.p l.e pivot row mid → pos 0 <ℤ number (full columns mid) basic
mid_positive w columns pivot row mid v basic p e l low can is c =
    let f = mid_full w columns pivot row mid p e l low can.row_kept.wide can.combine c basic can.known in
    let up = positive p (number (full columns row) basic) (subst (λ z. pos 0 <ℤ z) (sym is) can.entry) can.positive in
    let z = ap (λ q. e *ℤ q) can.idle ∙ *ℤ-zero e in
    let some = low.some in
    let g : pos 0 <ℤ pos low.factor = omega (arith, ints) in
    cancel_positive (pos low.factor) (number (full columns mid) basic) g (omega (arith, ints))

pub start_some : (z : ℤ) → pos 0 <ℤ z → 0 < unsigned_abs z
start_some z up = omega (arith, ints)

pub start_fits : (z : ℤ) → pos 0 <ℤ z → FitsI128 z → unsigned_abs z < 2 ^ 127
start_fits z up fits = omega (arith, ints)

pub start_covered : (w : ℕ) (columns : List Column) (mid : Row) (j : ℕ) (d : Column) → length mid ≡ w → All (IsKnownIn w) columns → j < length columns
    → IsCovered mid (unsigned_abs (entry_in mid (get_or columns j d)))
start_covered w columns mid j d wide known lt = λ k all. covered w k (get_or columns j d) mid (known j d lt) (λ i in'. all i (omega (arith, wide)))

-- what divides all numbers of the replaced row divides its factor
greatest_of : (mid : Row) (g f d : ℕ) → IsFactor mid f → ((i : ℕ) → i < length mid → d ∣ unsigned_abs (number mid i) * g) → d ∣ g * f
greatest_of mid g f d is all =
    let s = scaled_to mid (length mid) in
    let a = s.1.scaled g d all in
    let b = is.greatest s.0 s.1.is.divides in
    let e : s.0 * g ≡ g * s.0 = omega arith in
    dvd_trans d (subst (λ x. d ∣ x) e a) (mul-dvd-mul_left s.0 g b)

both_factors : (g f : ℕ) (x y z : ℤ) → pos f *ℤ x ≡ y → pos g *ℤ y ≡ z → pos (g * f) *ℤ x ≡ z
both_factors g f x y z ex ey = times-times g f x ∙ ap (λ q. pos g *ℤ q) ex ∙ ey

some_product : (g f : ℕ) → 0 < g → 0 < f → 0 < g * f
some_product g f a b = grind arith

pub new_row : (w : ℕ) (columns : List Column) (pivot row mid new : Row) (v basic : ℕ) (p e : ℤ) (l : Lowered) → CanReplace w columns pivot row v basic
    → p ≡ number (full columns pivot) v → e ≡ number (full columns row) v → AllFit columns pivot row p e → AreLowered p e l → IsCombined l.p l.e pivot row mid → IsDivided mid new
    → IsNewRow w columns pivot row new v
new_row w columns pivot row mid new v basic p e l can is_p is_e fit low c d = record {
  kept = record {
    wide = wide;
    fits = λ j lt. fits_part (low.factor * d.factor) (number (full columns new) j) some (subst FitsI128 (sym (each j lt)) (fit j lt).rest);
  };
  replaced = record {
    factor = low.factor * d.factor;
    some = some;
    width = full_length columns new ∙ sym (full_length columns row);
    each = λ j lt. each j (omega (arith, full_length columns row)) ∙ is_cleared j;
    greatest = λ k all. greatest_of mid low.factor d.factor k d.is (λ i lt. of_kept k all i (omega (arith, c.width, can.row_kept.wide)));
  };
}
  where
    wide : length new ≡ w
    wide = d.width ∙ c.width ∙ can.row_kept.wide

    some : 0 < low.factor * d.factor
    some = some_product low.factor d.factor low.some d.some

    each_kept : (i : ℕ) → i < w → pos (low.factor * d.factor) *ℤ number new i ≡ (p *ℤ number row i) -ℤ (e *ℤ number pivot i)
    each_kept i lt = both_factors low.factor d.factor (number new i) (number mid i) _ (d.each i (omega (arith, c.width, can.row_kept.wide)))
        (mid_kept w pivot row mid p e l low can.row_kept.wide c i lt)

    each : (j : ℕ) → j < length columns
        → pos (low.factor * d.factor) *ℤ number (full columns new) j ≡ (p *ℤ number (full columns row) j) -ℤ (e *ℤ number (full columns pivot) j)
    each = combined_full w columns (pos (low.factor * d.factor)) p e row pivot new can.combine.known each_kept

    is_cleared : (j : ℕ) → (p *ℤ number (full columns row) j) -ℤ (e *ℤ number (full columns pivot) j) ≡ cleared (full columns pivot) v (full columns row) j
    is_cleared j = ap (λ q. (q *ℤ number (full columns row) j) -ℤ (e *ℤ number (full columns pivot) j)) is_p
        ∙ ap (λ q. (number (full columns pivot) v *ℤ number (full columns row) j) -ℤ (q *ℤ number (full columns pivot) j)) is_e

    of_kept : (k : ℕ) → ((j : ℕ) → j < length (full columns row) → k ∣ unsigned_abs (cleared (full columns pivot) v (full columns row) j))
        → (i : ℕ) → i < w → k ∣ unsigned_abs (number mid i) * low.factor
    of_kept k all i lt =
        let h = can.combine.home i lt in
        let a = all h.0 (omega (arith, h.1, full_length columns row)) in
        let b = mid_full w columns pivot row mid p e l low can.row_kept.wide can.combine c h.0 h.1 ∙ is_cleared h.0 in
        let m = ap (λ q. pos low.factor *ℤ q) (sym (h.2 mid)) ∙ b in
        let n : unsigned_abs (cleared (full columns pivot) v (full columns row) h.0) ≡ unsigned_abs (number mid i) * low.factor =
        ap unsigned_abs (sym m) ∙ unsigned_abs-mul (pos low.factor) (number mid i) ∙ (let q : low.factor * unsigned_abs (number mid i) ≡ unsigned_abs (number mid i) * low.factor = omega arith in q) in
        subst (λ x. k ∣ x) n a
