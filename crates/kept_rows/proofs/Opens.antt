-- what is kept of opening rows gives them again
use Rattle.std.proofs.Common.{◌≡◌, ◌≢◌, ◌<◌, ◌≤◌, ◌+◌, ◌-◌, ◌∷◌, ◌∙◌, ◌⊎◌, inl, inr, ℕ, ℤ, zero, suc, List, [], length, get_or, map, refl, ap, sym, subst, arith, All, slice_index, length-append}
use Rattle.std.specs.Prelude.{pos, ◌+ℤ◌, ◌*ℤ◌}
use Rattle.std.specs.Global.{Vec}
use Rattle.std.proofs.Math.Seq.{get_or-append_seam}
use Rattle.std.proofs.Math.IntN.{zero-*ℤ, *ℤ-zero}
use Rattle.std.proofs.lemmas.Bool.{cases_eq, cases_lt}
use Rattle.std.proofs.lemmas.Int.{ints}
use Rattle.std.proofs.lemmas.List.{get_or-map, get_or_append_left, get_or_default, get_or_past, length-map, same_lists}
use Rattle.crew_num.specs.Exact.{FitsI128}
use Rattle.crew_terms.specs.Total.{total}
use Rattle.crew_terms.specs.Totals.{total-same, total-one}
use Rattle.search_terms.specs.Rows.{Row, Rows, number, row_of, basic_of, width, last}
use Rattle.search_terms.specs.declared.TheConstants.{RIGHT, VALUE}
use Rattle.kept_rows.specs.Columns.{IsKeptRow, IsKnownIn, IsOnly, entry_in, full}
use Rattle.kept_rows.specs.Kept.{HaveHomes}
use Rattle.kept_rows.specs.Opening.{AreOpeningColumns, IsOpeningColumn, column_numbers, kept_of}
use Rattle.kept_rows.specs.State.{AreOpening}
use Rattle.kept_rows.specs.Table.{rows_of, table}
use Rattle.kept_rows.specs.declared.columns.Column.{Column}
use Rattle.kept_rows.proofs.Entries.{full_at, full_length, some_column}

pub kept_length : (openers : List ℕ) (row : Row) → length (kept_of openers row) ≡ suc (length openers)
kept_length openers row = length-append (map (number row) openers) (number row RIGHT ∷ []) ∙ ap (λ k. k + 1) (length-map openers (number row)) ∙ omega arith

kept_at_opener : (openers : List ℕ) (row : Row) (h : ℕ) → h < length openers → number (kept_of openers row) h ≡ number row (get_or openers h 0)
kept_at_opener openers row h lt =
    let in' : h < length (map (number row) openers) = omega (arith, length-map openers (number row)) in
    get_or_append_left (map (number row) openers) (number row RIGHT ∷ []) (pos 0) h in' ∙ get_or-map (number row) openers h 0 (pos 0) lt

kept_at_end : (openers : List ℕ) (row : Row) → number (kept_of openers row) (length openers) ≡ number row RIGHT
kept_at_end openers row =
    ap (number (kept_of openers row)) (sym (length-map openers (number row))) ∙ get_or-append_seam (map (number row) openers) (number row RIGHT) [] (pos 0)

one_times : (x z : ℤ) → x ≡ pos 1 → x *ℤ z ≡ z
one_times x z e = ap (λ y. y *ℤ z) e ∙ omega (arith, ints)

times_one : (x z : ℤ) → z ≡ pos 1 → x *ℤ z ≡ x
times_one x z e = ap (λ y. x *ℤ y) e ∙ omega (arith, ints)

-- the column of the right side
only_entry : (place : ℕ) (c : Column) (row : Row) → IsOnly place c → entry_in row c ≡ number row place
only_entry place c row o =
    ap (λ l. total (length l) (λ h. number row (slice_index l h) *ℤ number c.numbers.items h)) o.at
    ∙ ap (λ l. pos 0 +ℤ (number row place *ℤ number l 0)) o.numbers ∙ (let e = times_one (number row place) (pos 1) refl in omega (arith, ints))

only_known : (place w : ℕ) (c : Column) → IsOnly place c → place < w → IsKnownIn w c
only_known place w c o lt = record {
  count = ap length o.numbers ∙ sym (ap length o.at);
  known = λ h below. by_zero h (omega (arith, ap length o.at));
}
  where
    by_zero : (h : ℕ) → h < 1 → slice_index c.at.items h < w
    by_zero zero l = subst (λ k. k < w) (sym (ap (λ l. slice_index l 0) o.at)) lt
    by_zero (suc h) l = absurd (omega arith)

-- the facts of opening rows, with their columns
pub record Opens (t : Rows) (columns : List Column) : Type 0 where
  pub opening : AreOpening t
  pub columns_are : AreOpeningColumns t.rows (width t) columns

height_is : (t : Rows) (columns : List Column) → Opens t columns → length t.basis ≡ length t.rows
height_is t columns o = o.opening.basic.count

column_at : (t : Rows) (columns : List Column) (j : ℕ) (d : Column) → Opens t columns → j < width t → IsOpeningColumn t.rows j (get_or columns j d)
column_at t columns j d o lt = o.columns_are.each j d lt

pub all_known : (t : Rows) (columns : List Column) → Opens t columns → All (IsKnownIn (suc (length t.basis))) columns
all_known t columns o = λ j d lt. by_place j d (omega (arith, lt, o.columns_are.count)) (cases_eq j RIGHT)
  where
    by_place : (j : ℕ) (d : Column) → j < width t → (j ≡ RIGHT) ⊎ (j ≢ RIGHT) → IsKnownIn (suc (length t.basis)) (get_or columns j d)
    by_place j d lt (inl e) = only_known (length t.rows) (suc (length t.basis)) (get_or columns j d) ((column_at t columns j d o lt).right e) (omega (arith, height_is t columns o))
    by_place j d lt (inr ne) =
        let k = ((column_at t columns j d o lt).other ne).known in
        record { count = k.count; known = λ h below. let b = k.known h below in omega (arith, b, length-map t.rows (λ row. number row j), height_is t columns o) }

number_of : (t : Rows) (j h : ℕ) → h < length t.rows → number (column_numbers t.rows j) h ≡ number (row_of t h) j
number_of t j h lt = get_or-map (λ row. number row j) t.rows h [] (pos 0) lt

-- another column's number in a row
other_entry : (t : Rows) (columns : List Column) (row : Row) (j : ℕ) (d : Column) → Opens t columns → j < width t → j ≢ RIGHT
    → number (full columns row) j ≡ total (length t.rows) (λ h. number row h *ℤ number (row_of t h) j)
other_entry t columns row j d o lt ne =
    let in' : j < length columns = omega (arith, lt, o.columns_are.count) in
    full_at columns row j d in' ∙ ((column_at t columns j d o lt).other ne).sum row
    ∙ ap (λ m. total m (λ h. number row h *ℤ number (column_numbers t.rows j) h)) (length-map t.rows (λ row. number row j))
    ∙ total-same (length t.rows) (λ h. number row h *ℤ number (column_numbers t.rows j) h) (λ h. number row h *ℤ number (row_of t h) j)
    (λ h below. ap (λ z. number row h *ℤ z) (number_of t j h below))

right_entry : (t : Rows) (columns : List Column) (row : Row) (d : Column) → Opens t columns → RIGHT < width t → number (full columns row) RIGHT ≡ number row (length t.rows)
right_entry t columns row d o lt =
    let in' : RIGHT < length columns = omega (arith, lt, o.columns_are.count) in
    full_at columns row RIGHT d in' ∙ only_entry (length t.rows) (get_or columns RIGHT d) row ((column_at t columns RIGHT d o lt).right refl)

wide_enough : (t : Rows) → AreOpening t → VALUE < width t
wide_enough t o =
    let end : last t < length t.rows = let s = o.basic.some in omega arith in
    let k = o.basic.known (last t) end in
    omega (arith, k, o.basic.value)

pub right_known : (t : Rows) → AreOpening t → RIGHT < width t
right_known t o = let w = wide_enough t o in omega arith

-- the kept numbers of an opening row give it again
kept_number : (t : Rows) (columns : List Column) (g j : ℕ) → Opens t columns → g < length t.rows → j < width t
    → number (full columns (kept_of t.basis (row_of t g))) j ≡ number (row_of t g) j
kept_number t columns g j o below lt = by_place (cases_eq j RIGHT)
  where
    d : Column
    d = some_column columns j (omega (arith, lt, o.columns_are.count))

    by_place : (j ≡ RIGHT) ⊎ (j ≢ RIGHT) → number (full columns (kept_of t.basis (row_of t g))) j ≡ number (row_of t g) j
    by_place (inl e) =
        ap (number (full columns (kept_of t.basis (row_of t g)))) e ∙ right_entry t columns (kept_of t.basis (row_of t g)) d o (right_known t o.opening)
        ∙ ap (number (kept_of t.basis (row_of t g))) (sym (height_is t columns o)) ∙ kept_at_end t.basis (row_of t g) ∙ ap (number (row_of t g)) (sym e)
    by_place (inr ne) =
        let f = λ (h : ℕ). number (kept_of t.basis (row_of t g)) h *ℤ number (row_of t h) j in
        other_entry t columns (kept_of t.basis (row_of t g)) j d o lt ne
        ∙ total-one (length t.rows) f g below
        (λ h in' apart. ap (λ z. z *ℤ number (row_of t h) j)
        (kept_at_opener t.basis (row_of t g) h (omega (arith, in', height_is t columns o)) ∙ o.opening.basic.alone h g in' below apart) ∙ zero-*ℤ (number (row_of t h) j))
        ∙ one_times (number (kept_of t.basis (row_of t g)) g) (number (row_of t g) j)
        (kept_at_opener t.basis (row_of t g) g (omega (arith, below, height_is t columns o)) ∙ o.opening.ones g below)

kept_full : (t : Rows) (columns : List Column) (g : ℕ) → Opens t columns → g < length t.rows → full columns (kept_of t.basis (row_of t g)) ≡ row_of t g
kept_full t columns g o below =
    let wide = o.opening.basic.widths g below in
    let long = full_length columns (kept_of t.basis (row_of t g)) ∙ o.columns_are.count in
    same_lists (full columns (kept_of t.basis (row_of t g))) (row_of t g) (long ∙ sym wide) (λ k d lt.
    let in_row : k < length (row_of t g) = omega (arith, lt, long, wide) in
    get_or_default (full columns (kept_of t.basis (row_of t g))) k d (pos 0) lt ∙ kept_number t columns g k o below (omega (arith, lt, long)) ∙ sym (get_or_default (row_of t g) k d (pos 0) in_row))

pub rows_again : (t : Rows) (columns : List Column) → Opens t columns → map (full columns) (map (kept_of t.basis) t.rows) ≡ t.rows
rows_again t columns o =
    let a = length-map t.rows (kept_of t.basis) in
    let b = length-map (map (kept_of t.basis) t.rows) (full columns) in
    same_lists (map (full columns) (map (kept_of t.basis) t.rows)) t.rows (b ∙ a) (λ k d lt.
    let in' : k < length t.rows = omega (arith, lt, a, b) in
    let in_kept : k < length (map (kept_of t.basis) t.rows) = omega (arith, lt, b) in
    get_or_default (map (full columns) (map (kept_of t.basis) t.rows)) k d [] lt ∙ get_or-map (full columns) (map (kept_of t.basis) t.rows) k [] [] in_kept
    ∙ ap (full columns) (get_or-map (kept_of t.basis) t.rows k [] [] in') ∙ kept_full t columns k o in' ∙ sym (get_or_default t.rows k d [] in'))

pub all_kept : (t : Rows) (columns : List Column) → Opens t columns → ((g j : ℕ) → g < length t.rows → FitsI128 (number (row_of t g) j))
    → All (IsKeptRow (suc (length t.basis)) columns) (map (kept_of t.basis) t.rows)
all_kept t columns o fits = λ k d lt.
    let in' : k < length t.rows = omega (arith, lt, length-map t.rows (kept_of t.basis)) in
    let e : get_or (map (kept_of t.basis) t.rows) k d ≡ kept_of t.basis (row_of t k) = get_or_default (map (kept_of t.basis) t.rows) k d [] lt ∙ get_or-map (kept_of t.basis) t.rows k [] [] in' in
    subst (IsKeptRow (suc (length t.basis)) columns) (sym e) (record {
      wide = kept_length t.basis (row_of t k);
      fits = λ j below. subst FitsI128 (sym (kept_number t columns k j o in' (omega (arith, below, o.columns_are.count)))) (fits k j in');
    })

not_right : (t : Rows) (h : ℕ) → AreOpening t → h < length t.rows → basic_of t h ≢ RIGHT
not_right t h o below = λ e. by_last e (cases_lt h (last t))
  where
    by_last : basic_of t h ≡ RIGHT → (h < last t) ⊎ (last t ≤ h) → ⊥
    by_last e (inl lt) = let a = o.basic.others h lt in absurd (omega (arith, a, e))
    by_last e (inr le) =
        let same : h ≡ last t = omega arith in
        let a = ap (λ k. get_or t.basis k 0) same in
        absurd (omega (arith, a, e, o.basic.value))

pub homes_of : (t : Rows) (columns : List Column) → Opens t columns → HaveHomes columns t.basis
homes_of t columns o = record {
  known = λ h lt. by_known h lt (cases_lt h (length t.basis));
  each = λ h row lt. by_each h row lt (cases_lt h (length t.basis));
}
  where
    by_known : (h : ℕ) → h < suc (length t.basis) → (h < length t.basis) ⊎ (length t.basis ≤ h) → get_or t.basis h 0 < length columns
    by_known h lt (inl below) = let k = o.opening.basic.known h (omega (arith, below, height_is t columns o)) in omega (arith, k, o.columns_are.count)
    by_known h lt (inr le) = let e = get_or_past t.basis h 0 le in let r = right_known t o.opening in omega (arith, e, r, o.columns_are.count)

    by_each : (h : ℕ) (row : Row) → h < suc (length t.basis) → (h < length t.basis) ⊎ (length t.basis ≤ h) → number (full columns row) (get_or t.basis h 0) ≡ number row h
    by_each h row lt (inl below) =
        let in' : h < length t.rows = omega (arith, below, height_is t columns o) in
        let k = o.opening.basic.known h in' in
        let d = some_column columns (basic_of t h) (omega (arith, k, o.columns_are.count)) in
        let f = λ (i : ℕ). number row i *ℤ number (row_of t i) (basic_of t h) in
        other_entry t columns row (basic_of t h) d o k (not_right t h o.opening in')
        ∙ total-one (length t.rows) f h in'
        (λ i below' apart. ap (λ z. number row i *ℤ z) (o.opening.basic.alone h i in' below' (λ e. apart (sym e))) ∙ *ℤ-zero (number row i))
        ∙ times_one (number row h) (number (row_of t h) (basic_of t h)) (o.opening.ones h in')
    by_each h row lt (inr le) =
        let e = get_or_past t.basis h 0 le in
        let same : length t.rows ≡ h = omega (arith, le, lt, height_is t columns o) in
        let r = right_known t o.opening in
        let d = some_column columns RIGHT (omega (arith, r, o.columns_are.count)) in
        ap (number (full columns row)) e ∙ right_entry t columns row d o r ∙ ap (number row) same

pub last_wide : (rows : List (Vec ℤ)) (basis : List ℕ) (r : Vec ℤ) (k n : ℕ) → 0 < length rows → r ≡ get_or rows k r → k ≡ length rows - 1 → n ≡ r.len → n ≡ width (table rows basis)
last_wide rows basis r k n some is e en =
    let f : Vec ℤ → List ℤ = λ row. row.items in
    let l = length-map rows f in
    let lt : k < length rows = omega arith in
    let same : length (rows_of rows) - 1 ≡ k = omega arith in
    let a = ap (λ i. length (get_or (rows_of rows) i [])) same ∙ ap length (get_or-map f rows k r [] lt ∙ ap f (sym is)) in
    en ∙ r.ok.0 ∙ sym a
