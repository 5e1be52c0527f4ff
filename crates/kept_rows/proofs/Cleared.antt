-- a step of the replacement of all rows but one
use Rattle.std.proofs.Common.{refl, length-set, ◌≡◌, ◌≢◌, ◌<◌, ◌≤◌, ◌+◌, ℕ, ℤ, List, [], length, set, get_or, arith, sym, ◌∙◌, subst, unsigned_abs, below_more, get_or-set_same, get_or-set_other}
use Rattle.std.specs.Int.{◌∣◌}
use Rattle.search_terms.specs.Rows.{Row}
use Rattle.search_terms.specs.Pivot.{IsReplaced}
use Rattle.kept_rows.specs.Replacement.{IsCleared, IsDivided}
use Rattle.std.proofs.lemmas.List.{map-set, get_or-map}
use Rattle.std.specs.Global.{Vec}
use Rattle.kept_rows.specs.Table.{rows_of}
use Rattle.kept_rows.specs.Clearing.{at_row, AreCleared}

pub replaced_from : (pivot : Row) (v : ℕ) (row mid new : Row) → IsCleared pivot v row mid → IsDivided mid new → IsReplaced pivot v row new
replaced_from pivot v row mid new c d = record {
  factor = d.factor;
  some = d.some;
  width = d.width ∙ c.width;
  each = λ j below. d.each j (omega (arith, c.width)) ∙ c.each j below;
  greatest = λ k all. d.is.greatest k (λ j below.
      let in' : j < length row = omega (arith, c.width) in
      subst (λ z. k ∣ unsigned_abs z) (sym (c.each j in')) (all j in'));
}

pub record IsClearedTo (pivot : Row) (h v : ℕ) (old rows : List Row) (i : ℕ) : Type 0 where
  pub count : length rows ≡ length old
  pub kept : (k : ℕ) → i ≤ k → at_row rows k ≡ at_row old k
  pub row : at_row rows h ≡ at_row old h
  pub done : (k : ℕ) → k < i → k ≢ h → IsReplaced pivot v (at_row old k) (at_row rows k)

pub cleared_more : (pivot : Row) (h v : ℕ) (old rows : List Row) (i : ℕ) (new : Row) → i < length rows → i ≢ h → IsClearedTo pivot h v old rows i
    → IsReplaced pivot v (at_row rows i) new → IsClearedTo pivot h v old (set rows i new) (i + 1)
cleared_more pivot h v old rows i new below ne c r = record {
  count = length-set rows i new ∙ c.count;
  kept = λ k le. let apart : k ≢ i = omega arith in get_or-set_other rows i k new [] apart ∙ c.kept k (omega arith);
  row = let apart : h ≢ i = λ e. ne (sym e) in get_or-set_other rows i h new [] apart ∙ c.row;
  done = below_more (λ k. k ≢ h → IsReplaced pivot v (at_row old k) (at_row (set rows i new) k)) i
      (λ k lt other. let apart : k ≢ i = omega arith in rw (get_or-set_other rows i k new [] apart) (c.done k lt other))
      (λ other. rw (get_or-set_same rows i new [] below) (subst (λ row. IsReplaced pivot v row new) (c.kept i (omega arith)) r));
}

pub cleared_skip : (pivot : Row) (h v : ℕ) (old rows : List Row) (i : ℕ) → i ≡ h → IsClearedTo pivot h v old rows i → IsClearedTo pivot h v old rows (i + 1)
cleared_skip pivot h v old rows i e c = record {
  count = c.count;
  kept = λ k le. c.kept k (omega arith);
  row = c.row;
  done = below_more (λ k. k ≢ h → IsReplaced pivot v (at_row old k) (at_row rows k)) i c.done (λ other. absurd (other e));
}

pub cleared_none : (pivot : Row) (h v : ℕ) (old : List Row) → IsClearedTo pivot h v old old 0
cleared_none pivot h v old = record { count = refl; kept = λ k le. refl; row = refl; done = λ k lt. absurd (omega arith) }

pub cleared_all : (pivot : Row) (h v : ℕ) (old rows : List Row) (i : ℕ) → length old ≤ i → IsClearedTo pivot h v old rows i → AreCleared pivot h v old rows
cleared_all pivot h v old rows i le c = record { count = c.count; kept = c.row; replaced = λ k below other. c.done k (omega arith) other }

pub written : (rows : List (Vec ℤ)) (i : ℕ) (r : Vec ℤ) → rows_of (set rows i r) ≡ set (rows_of rows) i r.items
written rows i r = map-set (λ (row : Vec ℤ). row.items) rows i r

pub read : (rows : List (Vec ℤ)) (i : ℕ) (d : Vec ℤ) → i < length rows → at_row (rows_of rows) i ≡ (get_or rows i d).items
read rows i d below = get_or-map (λ (row : Vec ℤ). row.items) rows i d [] below
