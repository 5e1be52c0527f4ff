-- a further variable
use Rattle.std.proofs.Common.{◌≡◌, ◌<◌, ◌≤◌, ◌++◌, ◌∷◌, ◌∙◌, ◌⊎◌, inl, inr, ℕ, ℤ, List, [], length, get_or, map, refl, ap, sym, subst, arith, All, slice_index, length-append}
use Rattle.std.specs.Prelude.{pos, ◌*ℤ◌, Option, None, Some, IfSome}
use Rattle.std.specs.Global.{Vec}
use Rattle.std.proofs.Math.Seq.{get_or-append_seam}
use Rattle.std.proofs.lemmas.Bool.{cases_lt}
use Rattle.std.proofs.lemmas.List.{map-append, get_or-map, length-map, get_or_append_left}
use Rattle.std.proofs.lemmas.List.Elements.{All-push}
use Rattle.crew_num.specs.declared.Overflow.{Overflow}
use Rattle.crew_num.specs.Exact.{FitsI128}
use Rattle.crew_terms.specs.Totals.{total-same}
use Rattle.search_terms.specs.Rows.{Row, number}
use Rattle.kept_rows.specs.Bounds.{IsReachWith}
use Rattle.kept_rows.specs.Clearing.{at_row}
use Rattle.kept_rows.specs.Columns.{Combines, IsKeptRow, IsKnownIn, entry_in, full, full_rows}
use Rattle.kept_rows.specs.Forming.{IsFormingFault, IsRowFault, IsRunningFault, entry_of, sum_of}
use Rattle.kept_rows.specs.Kept.{HaveHomes}
use Rattle.kept_rows.specs.Replaced.{AreWithin, IsWithin}
use Rattle.kept_rows.specs.Sums.{IsAddFault, IsSumFault, sum_to}
use Rattle.kept_rows.specs.Table.{rows_of}
use Rattle.kept_rows.specs.declared.columns.Column.{Column}
use Rattle.kept_rows.specs.declared.bounds.Reach.{Reach}
use Rattle.kept_rows.proofs.Entries.{full_length}
use Rattle.kept_rows.proofs.Reached.{within_greater}

-- the row's sum over the openers is that over what is kept of it
pub sum_is : (columns : List Column) (openers : List ℕ) (row : Row) (numbers : List ℤ) (m : ℕ) → HaveHomes columns openers → m ≤ length openers
    → sum_to m (full columns row) openers numbers ≡ sum_of m row numbers
sum_is columns openers row numbers m homes le =
    total-same m (λ h. number (full columns row) (slice_index openers h) *ℤ number numbers h) (λ h. number row h *ℤ number numbers h)
    (λ h lt. ap (λ z. z *ℤ number numbers h) (homes.each h row (omega arith)))

fault_is : (columns : List Column) (openers : List ℕ) (row : Row) (numbers : List ℤ) (f : Overflow) → HaveHomes columns openers → length numbers ≡ length openers
    → IsRunningFault row numbers f → IsSumFault (full columns row) openers numbers f
fault_is columns openers row numbers f homes count r =
    let known = r.known in
    record {
      h = r.h;
      known = omega arith;
      first = subst (λ x. IsAddFault x (number (full columns row) (slice_index openers r.h)) (number numbers r.h) f) (sym (sum_is columns openers row numbers r.h homes (omega arith)))
          (subst (λ y. IsAddFault (sum_of r.h row numbers) y (number numbers r.h) f) (sym (homes.each r.h row (omega arith))) r.first);
    }

pub forming_fault : (columns : List Column) (openers : List ℕ) (rows : List (Vec ℤ)) (numbers : List ℤ) (f : Overflow) → HaveHomes columns openers → length numbers ≡ length openers
    → IsFormingFault (rows_of rows) numbers f → IsRowFault (full_rows columns rows) openers numbers f
forming_fault columns openers rows numbers f homes count r =
    let known = r.known in
    record {
      h = r.i;
      known = omega (arith, length-map (rows_of rows) (full columns));
      sum = subst (λ row. IsSumFault row openers numbers f) (sym (get_or-map (full columns) (rows_of rows) r.i [] [] r.known))
          (fault_is columns openers (at_row (rows_of rows) r.i) numbers f homes count r.sum);
    }

full_push : (columns : List Column) (c : Column) (row : Row) → full (columns ++ c ∷ []) row ≡ full columns row ++ entry_in row c ∷ []
full_push columns c row = map-append (λ c. entry_in row c) columns (c ∷ [])

entry_is : (columns : List Column) (openers : List ℕ) (c : Column) (row : Row) (numbers : List ℤ) → HaveHomes columns openers → length numbers ≡ length openers → Combines numbers c
    → entry_in row c ≡ entry_of openers numbers (full columns row)
entry_is columns openers c row numbers homes count is =
    is.sum row ∙ ap (λ m. sum_of m row numbers) count ∙ sym (sum_is columns openers row numbers (length openers) homes (omega arith))

pub rows_push : (columns : List Column) (openers : List ℕ) (c : Column) (rows : List Row) (numbers : List ℤ) → HaveHomes columns openers → length numbers ≡ length openers → Combines numbers c
    → map (full (columns ++ c ∷ [])) rows ≡ map (λ row. row ++ entry_of openers numbers row ∷ []) (map (full columns) rows)
rows_push columns openers c [] numbers homes count is = refl
rows_push columns openers c (row ∷ rows) numbers homes count is =
    let a = full_push columns c row ∙ ap (λ z. full columns row ++ z ∷ []) (entry_is columns openers c row numbers homes count is) in
    ap (λ r. r ∷ map (full (columns ++ c ∷ [])) rows) a
    ∙ ap (λ l. (full columns row ++ entry_of openers numbers (full columns row) ∷ []) ∷ l) (rows_push columns openers c rows numbers homes count is)

pub known_push : (w : ℕ) (columns : List Column) (c : Column) (numbers : List ℤ) → length numbers ≤ w → Combines numbers c → All (IsKnownIn w) columns → All (IsKnownIn w) (columns ++ c ∷ [])
known_push w columns c numbers le is all = All-push (IsKnownIn w) columns c all (record { count = is.known.count; known = λ h lt. let k = is.known.known h lt in omega arith })

at_push : (columns : List Column) (c : Column) (row : Row) (j : ℕ) → j < length columns → number (full (columns ++ c ∷ []) row) j ≡ number (full columns row) j
at_push columns c row j lt =
    let in' : j < length (full columns row) = omega (arith, full_length columns row) in
    ap (λ l. number l j) (full_push columns c row) ∙ get_or_append_left (full columns row) (entry_in row c ∷ []) (pos 0) j in'

at_end : (columns : List Column) (c : Column) (row : Row) → number (full (columns ++ c ∷ []) row) (length columns) ≡ entry_in row c
at_end columns c row =
    ap (λ l. number l (length columns)) (full_push columns c row) ∙ ap (number (full columns row ++ entry_in row c ∷ [])) (sym (full_length columns row))
    ∙ get_or-append_seam (full columns row) (entry_in row c) [] (pos 0)

pub homes_push : (columns : List Column) (openers : List ℕ) (c : Column) → HaveHomes columns openers → HaveHomes (columns ++ c ∷ []) openers
homes_push columns openers c homes = record {
  known = λ h lt. let k = homes.known h lt in omega (arith, length-append columns (c ∷ []));
  each = λ h row lt. at_push columns c row (get_or openers h 0) (homes.known h lt) ∙ homes.each h row lt;
}

row_push : (w : ℕ) (columns : List Column) (c : Column) (row : Row) → FitsI128 (entry_in row c) → IsKeptRow w columns row → IsKeptRow w (columns ++ c ∷ []) row
row_push w columns c row fits k = record { wide = k.wide; fits = λ j lt. by_case j (omega (arith, length-append columns (c ∷ []))) (cases_lt j (length columns)) }
  where
    by_case : (j : ℕ) → j ≤ length columns → (j < length columns) ⊎ (length columns ≤ j) → FitsI128 (number (full (columns ++ c ∷ []) row) j)
    by_case j le (inl lt) = subst FitsI128 (sym (at_push columns c row j lt)) (k.fits j lt)
    by_case j le (inr ge) =
        let e : length columns ≡ j = omega arith in
        subst (λ i. FitsI128 (number (full (columns ++ c ∷ []) row) i)) e (subst FitsI128 (sym (at_end columns c row)) fits)

pub kept_push : (w : ℕ) (columns : List Column) (c : Column) (rows : List Row) (numbers : List ℤ) → Combines numbers c → All (λ row. FitsI128 (sum_of (length numbers) row numbers)) rows
    → All (IsKeptRow w columns) rows → All (IsKeptRow w (columns ++ c ∷ [])) rows
kept_push w columns c rows numbers is fits all = λ k d lt. row_push w columns c (get_or rows k d) (subst FitsI128 (sym (is.sum (get_or rows k d))) (fits k d lt)) (all k d lt)

pub within_push : (last : ℕ) (columns : List Column) (c : Column) (before after : Option Reach) → AreWithin last before columns → IfSome after (IsReachWith before last c)
    → AreWithin last after (columns ++ c ∷ [])
within_push last columns c before None all is = tt
within_push last columns c before (Some r) all is =
    let a = subst (λ o. IfSome o (λ s. All (IsWithin last s) columns)) is.is all in
    All-push (IsWithin last r) columns c (λ k d lt. within_greater last is.was r (get_or columns k d) is.others is.ending (a k d lt)) is.within
