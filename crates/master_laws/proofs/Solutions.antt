-- a pivot keeps the solutions of the rows
use Rattle.std.proofs.Common.{◌≡◌, ◌≢◌, ◌<◌, ℕ, length, ap, sym, arith, ◌⊎◌, inl, inr, ◌∙◌, subst}
use Rattle.std.specs.Prelude.{ℤ, pos, ◌-ℤ◌, ◌*ℤ◌, ◌<ℤ◌}
use Rattle.std.proofs.lemmas.Int.{ints}
use Rattle.std.proofs.lemmas.Bool.{cases_eq}
use Rattle.std.proofs.Math.IntN.{*ℤ_comm}
use Rattle.crew_terms.specs.Total.{total}
use Rattle.search_terms.specs.Rows.{Row, Rows, number, row_of, product, IsSolution, AreBasic}
use Rattle.search_terms.specs.Pivot.{IsPivot, IsPivotAt, IsReplaced}
use Rattle.crew_num.specs.Ring.{assoc, scale_diff, cancel_zero}
use Rattle.crew_terms.specs.Totals.{total-same}
use Rattle.master_laws.proofs.Totals.{total-scale, total-minus}

pub spread : (g z p a e b x : ℤ) → g *ℤ z ≡ (p *ℤ a) -ℤ (e *ℤ b) → g *ℤ (z *ℤ x) ≡ (p *ℤ (a *ℤ x)) -ℤ (e *ℤ (b *ℤ x))
spread g z p a e b x h =
    let i = assoc g z x in
    let j = ap (λ k. k *ℤ x) h in
    let k = scale_diff x (p *ℤ a) (e *ℤ b) in
    let l = *ℤ_comm ((p *ℤ a) -ℤ (e *ℤ b)) x in
    let m = *ℤ_comm (p *ℤ a) x in
    let n = *ℤ_comm (e *ℤ b) x in
    let q = assoc p a x in
    let r = assoc e b x in
    omega (arith, ints)

-- the products of a replaced row with a vector are those of the row and of the pivot row
pub product_replaced : (pivot : Row) (v : ℕ) (row new : Row) (x : ℕ → ℤ) (r : IsReplaced pivot v row new) → length pivot ≡ length row
    → pos r.factor *ℤ product new x ≡ (number pivot v *ℤ product row x) -ℤ (number row v *ℤ product pivot x)
product_replaced pivot v row new x r e =
    let n = length row in
    let f : ℕ → ℤ = λ j. number new j *ℤ x j in
    let g : ℕ → ℤ = λ j. number row j *ℤ x j in
    let h : ℕ → ℤ = λ j. number pivot j *ℤ x j in
    let p = number pivot v in
    let q = number row v in
    let a = ap (λ k. total k f) r.width in
    let b = ap (λ k. total k h) e in
    let c = total-scale n (pos r.factor) f in
    let d = total-same n (λ j. pos r.factor *ℤ f j) (λ j. (p *ℤ g j) -ℤ (q *ℤ h j))
    (λ j below. spread (pos r.factor) (number new j) p (number row j) q (number pivot j) (x j) (r.each j below)) in
    let i = total-minus n (λ j. p *ℤ g j) (λ j. q *ℤ h j) in
    let j = total-scale n p g in
    let k = total-scale n q h in
    let l = ap (λ z. pos r.factor *ℤ z) a in
    let m = ap (λ z. q *ℤ z) b in
    omega (arith, ints)

-- a pivot row h is kept; each other row is replaced
pub by_row : (t next : Rows) (v h i : ℕ) (P : Type 0) → IsPivotAt t v h next → i < length t.rows
    → (row_of next i ≡ row_of t i → i ≡ h → P) → (IsReplaced (row_of t h) v (row_of t i) (row_of next i) → i ≢ h → P) → P
by_row t next v h i P p below same other = by_case (cases_eq i h)
  where
    by_case : (i ≡ h) ⊎ (i ≢ h) → P
    by_case (inl e) = same (ap (row_of next) e ∙ p.kept ∙ ap (row_of t) (sym e)) e
    by_case (inr ne) = other (p.replaced i below ne) ne

pub solves_next : (t next : Rows) (x : ℕ → ℤ) → AreBasic t → IsPivot t next → IsSolution t x → IsSolution next x
solves_next t next x b p s i below =
    let at : i < length t.rows = subst (λ k. i < k) p.pivot.count below in
    let known : p.h < length t.rows = omega (arith, p.leaves.bounds.known) in
    by_row t next p.v p.h i (product (row_of next i) x ≡ pos 0) p.pivot at
    (λ e same. ap (λ r. product r x) e ∙ s i at)
    (λ r ne.
    let e = product_replaced (row_of t p.h) p.v (row_of t i) (row_of next i) x r (b.widths p.h known ∙ sym (b.widths i at)) in
    let f = ap (λ z. number (row_of t p.h) p.v *ℤ z) (s i at) in
    let g = ap (λ z. number (row_of t i) p.v *ℤ z) (s p.h known) in
    let h : pos r.factor *ℤ product (row_of next i) x ≡ pos 0 = omega (arith, ints) in
    let k : pos 0 <ℤ pos r.factor = omega (arith, ints, r.some) in
    cancel_zero (pos r.factor) (product (row_of next i) x) k h)

pub solves_before : (t next : Rows) (x : ℕ → ℤ) → AreBasic t → IsPivot t next → IsSolution next x → IsSolution t x
solves_before t next x b p s i below =
    let at : i < length next.rows = subst (λ k. i < k) (sym p.pivot.count) below in
    let known : p.h < length t.rows = omega (arith, p.leaves.bounds.known) in
    let there : p.h < length next.rows = subst (λ k. p.h < k) (sym p.pivot.count) known in
    by_row t next p.v p.h i (product (row_of t i) x ≡ pos 0) p.pivot below
    (λ e same. ap (λ r. product r x) (sym e) ∙ s i at)
    (λ r ne.
    let e = product_replaced (row_of t p.h) p.v (row_of t i) (row_of next i) x r (b.widths p.h known ∙ sym (b.widths i below)) in
    let f = ap (λ z. pos r.factor *ℤ z) (s i at) in
    let g = ap (λ z. number (row_of t i) p.v *ℤ z) (ap (λ r. product r x) (sym p.pivot.kept) ∙ s p.h there) in
    let h : number (row_of t p.h) p.v *ℤ product (row_of t i) x ≡ pos 0 = omega (arith, ints) in
    cancel_zero (number (row_of t p.h) p.v) (product (row_of t i) x) p.leaves.bounds.positive h)
