-- steps along rows
use Rattle.std.proofs.Common.{◌≡◌, ◌<◌, ◌≤◌, ◌+◌, ◌++◌, ◌∷◌, ◌∙◌, ℕ, ℤ, List, [], length, take, get_or, map, ap, sym, subst, arith, All, below_more}
use Rattle.std.specs.Prelude.{Option, None, Some, IfSome}
use Rattle.std.specs.Global.{Vec}
use Rattle.std.proofs.lemmas.List.{map-append, map_more, get_or-map, length-map, get_or_default}
use Rattle.crew_num.specs.declared.Overflow.{Overflow}
use Rattle.search_terms.specs.Rows.{Row, number}
use Rattle.kept_rows.specs.Bounds.{IsReachWith}
use Rattle.kept_rows.specs.Forming.{IsFormingFault, IsRunningFault}
use Rattle.kept_rows.specs.Opening.{column_numbers, kept_of}
use Rattle.kept_rows.specs.Clearing.{at_row}
use Rattle.crew_num.specs.Exact.{FitsI128}
use Rattle.kept_rows.specs.Replaced.{AreWithin, IsWithin}
use Rattle.kept_rows.specs.Table.{rows_of}
use Rattle.kept_rows.specs.declared.columns.Column.{Column}
use Rattle.kept_rows.specs.declared.bounds.Reach.{Reach}
use Rattle.kept_rows.proofs.Reached.{within_greater}

pub all_at : (P : Row → Type 0) (rows : List (Vec ℤ)) (i : ℕ) (row : Vec ℤ) → i < length rows → row ≡ get_or rows i row → All P (rows_of rows) → P row.items
all_at P rows i row lt is all =
    let f : Vec ℤ → List ℤ = λ row. row.items in
    let in' : i < length (rows_of rows) = omega (arith, length-map rows f) in
    subst P (get_or-map f rows i row [] lt ∙ ap f (sym is)) (all i [] in')

pub numbers_more : (rows : List (Vec ℤ)) (j i : ℕ) (row : Vec ℤ) (numbers : List ℤ) (z : ℤ) → i < length rows → row ≡ get_or rows i row
    → numbers ≡ column_numbers (rows_of (take i rows)) j → z ≡ number row.items j → numbers ++ z ∷ [] ≡ column_numbers (rows_of (take (i + 1) rows)) j
numbers_more rows j i row numbers z lt is h e =
    let g : Vec ℤ → Row = λ w. w.items in
    ap (λ l. l ++ z ∷ []) h ∙ ap (λ y. column_numbers (rows_of (take i rows)) j ++ y ∷ []) e
    ∙ ap (λ w. column_numbers (rows_of (take i rows)) j ++ number (g w) j ∷ []) is
    ∙ sym (map-append (λ row. number row j) (rows_of (take i rows)) (g (get_or rows i row) ∷ []))
    ∙ ap (map (λ row. number row j)) (sym (map_more g rows i row lt))

pub forming_at : (rows : List (Vec ℤ)) (numbers : List ℤ) (i : ℕ) (row : Vec ℤ) (f : Overflow) → i < length rows → row ≡ get_or rows i row → IsRunningFault row.items numbers f
    → IsFormingFault (rows_of rows) numbers f
forming_at rows numbers i row f lt is r =
    let g : Vec ℤ → List ℤ = λ row. row.items in
    record {
      i = i;
      known = omega (arith, length-map rows g);
      sum = subst (λ row. IsRunningFault row numbers f) (sym (get_or-map g rows i row [] lt ∙ ap g (sym is))) r;
    }

-- the first i columns are within the reach
abbrev pub AreWithinTo : ℕ → Option Reach → List Column → ℕ → Type 0
AreWithinTo last reach columns i = IfSome reach (λ r. (k : ℕ) (d : Column) → k < i → k < length columns → IsWithin last r (get_or columns k d))

pub within_step : (last : ℕ) (columns : List Column) (i : ℕ) (c : Column) (before after : Option Reach) → i < length columns → c ≡ get_or columns i c
    → AreWithinTo last before columns i → IfSome after (IsReachWith before last c) → AreWithinTo last after columns (i + 1)
within_step last columns i c before None lt is all w = tt
within_step last columns i c before (Some r) lt is all w =
    let a = subst (λ o. IfSome o (λ r. (k : ℕ) (d : Column) → k < i → k < length columns → IsWithin last r (get_or columns k d))) w.is all in
    λ k d below in'. below_more (λ k. k < length columns → IsWithin last r (get_or columns k d)) i
    (λ k lt' in''. within_greater last w.was r (get_or columns k d) w.others w.ending (a k d lt' in''))
    (λ in''. subst (IsWithin last r) (is ∙ get_or_default columns i c d in'') w.within) k below in'

pub within_all : (last : ℕ) (columns : List Column) (i : ℕ) (reach : Option Reach) → length columns ≤ i → AreWithinTo last reach columns i → AreWithin last reach columns
within_all last columns i None le all = tt
within_all last columns i (Some r) le all = λ k d lt. all k d (omega arith) lt

-- of the first i rows these are kept
pub record AreKeptTo (rows : List (Vec ℤ)) (openers : List ℕ) (i : ℕ) (all : List (Vec ℤ)) : Type 0 where
  pub kept : rows_of all ≡ map (kept_of openers) (rows_of (take i rows))
  pub fits : (k j : ℕ) → k < i → FitsI128 (number (at_row (rows_of rows) k) j)

pub kept_more : (rows : List (Vec ℤ)) (openers : List ℕ) (i : ℕ) (all new : List (Vec ℤ)) (row v : Vec ℤ) → i < length rows → row ≡ get_or rows i row → AreKeptTo rows openers i all
    → v.items ≡ kept_of openers row.items → ((j : ℕ) → FitsI128 (number row.items j)) → new ≡ all ++ v ∷ [] → AreKeptTo rows openers (i + 1) new
kept_more rows openers i all new row v lt is a e fits n =
    let g : Vec ℤ → Row = λ w. w.items in
    record {
      kept = ap rows_of n ∙ map-append g all (v ∷ []) ∙ ap (λ l. l ++ v.items ∷ []) a.kept ∙ ap (λ r. map (kept_of openers) (rows_of (take i rows)) ++ r ∷ []) (e ∙ ap (λ w. kept_of openers (g w)) is)
          ∙ sym (map-append (kept_of openers) (rows_of (take i rows)) (g (get_or rows i row) ∷ []))
          ∙ ap (map (kept_of openers)) (sym (map_more g rows i row lt));
      fits = λ k j below. below_more (λ k. (j : ℕ) → FitsI128 (number (at_row (rows_of rows) k) j)) i (λ k lt' j. a.fits k j lt')
          (λ j. subst (λ r. FitsI128 (number r j)) (ap g is ∙ sym (get_or-map g rows i row [] lt)) (fits j)) k below j;
    }
