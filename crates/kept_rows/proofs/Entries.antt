-- entries of rows as combinations of the kept numbers
use Rattle.std.proofs.Common.{◌≡◌, ◌<◌, ◌≤◌, ◌∙◌, ℕ, zero, suc, List, [], ◌∷◌, length, get_or, ap, sym, subst, arith, All, slice_index}
use Rattle.std.specs.Prelude.{ℤ, pos, ◌+ℤ◌, ◌-ℤ◌, ◌*ℤ◌, unsigned_abs}
use Rattle.std.specs.Int.{◌∣◌}
use Rattle.std.proofs.lemmas.Int.{ints, unsigned_abs-mul}
use Rattle.std.proofs.lemmas.List.{get_or-map, length-map}
use Rattle.std.proofs.lemmas.Nat.Gcd.{dvd-zero}
use Rattle.std.proofs.Math.Nat.{dvd-mul_right, dvd-mul_right_of_dvd}
use Rattle.std.proofs.Math.IntN.{*ℤ-zero}
use Rattle.crew_num.specs.Ring.{assoc, difference_times, scale_sum}
use Rattle.search_terms.specs.Rows.{Row, number}
use Rattle.kept_rows.specs.Columns.{IsKnownIn, entry_in, full}
use Rattle.kept_rows.specs.Sums.{sum_to}
use Rattle.kept_rows.specs.declared.columns.Column.{Column}
use Rattle.kept_rows.proofs.CommonFactor.{exact_quotient}

-- some column, where there is one
pub some_column : (columns : List Column) (j : ℕ) → j < length columns → Column
some_column [] j lt = absurd (omega arith)
some_column (c ∷ cs) j lt = c

pub full_at : (columns : List Column) (row : Row) (j : ℕ) (d : Column) → j < length columns → number (full columns row) j ≡ entry_in row (get_or columns j d)
full_at columns row j d lt = get_or-map (λ c. entry_in row c) columns j d (pos 0) lt

pub full_length : (columns : List Column) (row : Row) → length (full columns row) ≡ length columns
full_length columns row = length-map columns (λ c. entry_in row c)

-- combinations of rows
combined_to : (n w : ℕ) (c : Column) (k p e : ℤ) (row pivot new : Row) → n ≤ length c.at.items → IsKnownIn w c
    → ((i : ℕ) → i < w → k *ℤ number new i ≡ (p *ℤ number row i) -ℤ (e *ℤ number pivot i))
    → k *ℤ sum_to n new c.at.items c.numbers.items ≡ (p *ℤ sum_to n row c.at.items c.numbers.items) -ℤ (e *ℤ sum_to n pivot c.at.items c.numbers.items)
combined_to zero w c k p e row pivot new le known each =
    let a = *ℤ-zero k in
    let b = *ℤ-zero p in
    let d = *ℤ-zero e in
    omega (arith, ints)
combined_to (suc n) w c k p e row pivot new le known each =
    let again = combined_to n w c k p e row pivot new (omega arith) known each in
    let i = slice_index c.at.items n in
    let y = number c.numbers.items n in
    let h = each i (known.known n (omega arith)) in
    let t = sum_to n new c.at.items c.numbers.items in
    let u = sum_to n row c.at.items c.numbers.items in
    let v = sum_to n pivot c.at.items c.numbers.items in
    let a = scale_sum k t (number new i *ℤ y) in
    let b = scale_sum p u (number row i *ℤ y) in
    let d = scale_sum e v (number pivot i *ℤ y) in
    let f = assoc k (number new i) y in
    let g = ap (λ z. z *ℤ y) h in
    let m = difference_times (p *ℤ number row i) (e *ℤ number pivot i) y in
    let q = assoc p (number row i) y in
    let r = assoc e (number pivot i) y in
    omega (arith, ints)

pub combined : (w : ℕ) (c : Column) (k p e : ℤ) (row pivot new : Row) → IsKnownIn w c
    → ((i : ℕ) → i < w → k *ℤ number new i ≡ (p *ℤ number row i) -ℤ (e *ℤ number pivot i))
    → k *ℤ entry_in new c ≡ (p *ℤ entry_in row c) -ℤ (e *ℤ entry_in pivot c)
combined w c k p e row pivot new known each = combined_to (length c.at.items) w c k p e row pivot new (omega arith) known each

pub combined_full : (w : ℕ) (columns : List Column) (k p e : ℤ) (row pivot new : Row) → All (IsKnownIn w) columns
    → ((i : ℕ) → i < w → k *ℤ number new i ≡ (p *ℤ number row i) -ℤ (e *ℤ number pivot i))
    → (j : ℕ) → j < length columns → k *ℤ number (full columns new) j ≡ (p *ℤ number (full columns row) j) -ℤ (e *ℤ number (full columns pivot) j)
combined_full w columns k p e row pivot new known each j lt =
    let d = some_column columns j lt in
    rw (full_at columns new j d lt, full_at columns row j d lt, full_at columns pivot j d lt)
    (combined w (get_or columns j d) k p e row pivot new (known j d lt) each)

-- what divides two numbers divides their sum
pub divides_sum : (d : ℕ) (x y : ℤ) → d ∣ unsigned_abs x → d ∣ unsigned_abs y → d ∣ unsigned_abs (x +ℤ y)
divides_sum d x y p q =
    let a = exact_quotient x d p in
    let b = exact_quotient y d q in
    by_parts _ _ a b
  where
    by_parts : (u v : ℤ) → pos d *ℤ u ≡ x → pos d *ℤ v ≡ y → d ∣ unsigned_abs (x +ℤ y)
    by_parts u v a b =
        let e : pos d *ℤ (u +ℤ v) ≡ x +ℤ y = scale_sum (pos d) u v ∙ ap (λ z. z +ℤ (pos d *ℤ v)) a ∙ ap (λ z. x +ℤ z) b in
        let f = sym (unsigned_abs-mul (pos d) (u +ℤ v)) ∙ ap unsigned_abs e in
        subst (λ z. d ∣ z) f (dvd-mul_right d (unsigned_abs (u +ℤ v)))

covered_to : (n w d : ℕ) (c : Column) (row : Row) → n ≤ length c.at.items → IsKnownIn w c → ((i : ℕ) → i < w → d ∣ unsigned_abs (number row i))
    → d ∣ unsigned_abs (sum_to n row c.at.items c.numbers.items)
covered_to zero w d c row le known all = dvd-zero d
covered_to (suc n) w d c row le known all =
    let again = covered_to n w d c row (omega arith) known all in
    let i = slice_index c.at.items n in
    let y = number c.numbers.items n in
    let p = dvd-mul_right_of_dvd d (all i (known.known n (omega arith))) (unsigned_abs y) in
    let q = subst (λ z. d ∣ z) (sym (unsigned_abs-mul (number row i) y)) p in
    divides_sum d (sum_to n row c.at.items c.numbers.items) (number row i *ℤ y) again q

-- what divides the kept numbers divides each entry
pub covered : (w d : ℕ) (c : Column) (row : Row) → IsKnownIn w c → ((i : ℕ) → i < w → d ∣ unsigned_abs (number row i)) → d ∣ unsigned_abs (entry_in row c)
covered w d c row known all = covered_to (length c.at.items) w d c row (omega arith) known all
