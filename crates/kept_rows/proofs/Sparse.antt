-- sums without the terms that are 0
use Rattle.std.proofs.Common.{◌≡◌, ◌<◌, ◌≤◌, ◌+◌, ◌++◌, ◌∷◌, ◌∙◌, ◌⊎◌, inl, inr, ℕ, ℤ, suc, List, [], length, refl, ap, sym, arith, slice_index, length-append}
use Rattle.std.specs.Prelude.{pos, ◌+ℤ◌, ◌*ℤ◌}
use Rattle.std.proofs.Math.Seq.{get_or-append_seam}
use Rattle.std.proofs.Math.IntN.{*ℤ-zero}
use Rattle.std.proofs.lemmas.Bool.{cases_lt}
use Rattle.std.proofs.lemmas.Int.{ints}
use Rattle.std.proofs.lemmas.List.{get_or_append_left}
use Rattle.crew_terms.specs.Total.{total}
use Rattle.crew_terms.specs.Totals.{total-same}
use Rattle.search_terms.specs.Rows.{Row, number}
use Rattle.kept_rows.specs.Columns.{Combines}
use Rattle.kept_rows.specs.Sums.{sum_to}
use Rattle.kept_rows.specs.declared.columns.Column.{Column}

-- the places and numbers are those of the first h numbers
pub record CombinesTo (numbers : List ℤ) (h : ℕ) (at : List ℕ) (times : List ℤ) : Type 0 where
  pub count : length times ≡ length at
  pub known : (k : ℕ) → k < length at → slice_index at k < h
  pub sum : (row : Row) → sum_to (length at) row at times ≡ total h (λ k. number row k *ℤ number numbers k)

pub sparse_none : (numbers : List ℤ) → CombinesTo numbers 0 [] []
sparse_none numbers = record { count = refl; known = λ k lt. absurd (omega arith); sum = λ row. refl }

pub sparse_skip : (numbers : List ℤ) (h : ℕ) (at : List ℕ) (times : List ℤ) → number numbers h ≡ pos 0 → CombinesTo numbers h at times → CombinesTo numbers (h + 1) at times
sparse_skip numbers h at times z c = record {
  count = c.count;
  known = λ k lt. let a = c.known k lt in omega arith;
  sum = λ row.
      let s : suc h ≡ h + 1 = omega arith in
      let a = ap (λ y. number row h *ℤ y) z ∙ *ℤ-zero (number row h) in
      let e : total h (λ k. number row k *ℤ number numbers k) ≡ total (suc h) (λ k. number row k *ℤ number numbers k) = omega (arith, ints) in
      c.sum row ∙ e ∙ ap (λ m. total m (λ k. number row k *ℤ number numbers k)) s;
}

pub sparse_more : (numbers : List ℤ) (h : ℕ) (at : List ℕ) (times : List ℤ) (z : ℤ) → z ≡ number numbers h → CombinesTo numbers h at times
    → CombinesTo numbers (h + 1) (at ++ h ∷ []) (times ++ z ∷ [])
sparse_more numbers h at times z is c = record {
  count = length-append times (z ∷ []) ∙ ap (λ m. m + 1) c.count ∙ sym (length-append at (h ∷ []));
  known = λ k lt. by_case k (omega (arith, length-append at (h ∷ []))) (cases_lt k (length at));
  sum = λ row.
      let s : suc h ≡ h + 1 = omega arith in
      let l : length (at ++ h ∷ []) ≡ suc (length at) = length-append at (h ∷ []) ∙ omega arith in
      let a = total-same (length at) (λ k. number row (slice_index (at ++ h ∷ []) k) *ℤ number (times ++ z ∷ []) k) (λ k. number row (slice_index at k) *ℤ number times k)
      (λ k lt. ap (λ i. number row i *ℤ number (times ++ z ∷ []) k) (get_or_append_left at (h ∷ []) 0 k lt)
      ∙ ap (λ y. number row (slice_index at k) *ℤ y) (get_or_append_left times (z ∷ []) (pos 0) k (omega (arith, c.count)))) in
      let b = ap (λ i. number row i *ℤ number (times ++ z ∷ []) (length at)) (get_or-append_seam at h [] 0)
      ∙ ap (λ k. number row h *ℤ number (times ++ z ∷ []) k) (sym c.count)
      ∙ ap (λ y. number row h *ℤ y) (get_or-append_seam times z [] (pos 0) ∙ is) in
      ap (λ m. sum_to m row (at ++ h ∷ []) (times ++ z ∷ [])) l
      ∙ ap (λ y. y +ℤ (number row (slice_index (at ++ h ∷ []) (length at)) *ℤ number (times ++ z ∷ []) (length at))) (a ∙ c.sum row)
      ∙ ap (λ y. total h (λ k. number row k *ℤ number numbers k) +ℤ y) b
      ∙ ap (λ m. total m (λ k. number row k *ℤ number numbers k)) s;
}
  where
    by_case : (k : ℕ) → k ≤ length at → (k < length at) ⊎ (length at ≤ k) → slice_index (at ++ h ∷ []) k < h + 1
    by_case k le (inl lt) =
        let a = get_or_append_left at (h ∷ []) 0 k lt in
        let b = c.known k lt in
        omega arith
    by_case k le (inr ge) =
        let e : length at ≡ k = omega arith in
        let a : slice_index (at ++ h ∷ []) k ≡ h = ap (λ i. slice_index (at ++ h ∷ []) i) (sym e) ∙ get_or-append_seam at h [] 0 in
        omega arith

pub sparse_all : (numbers : List ℤ) (h : ℕ) (c : Column) → h ≡ length numbers → CombinesTo numbers h c.at.items c.numbers.items → Combines numbers c
sparse_all numbers h c e s = record {
  known = record { count = s.count; known = λ k lt. let a = s.known k lt in omega arith };
  sum = λ row. s.sum row ∙ ap (λ m. total m (λ k. number row k *ℤ number numbers k)) e;
}
