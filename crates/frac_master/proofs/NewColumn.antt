-- the widened rows are those that the route enters
use Rattle.std.proofs.Common.{◌≡◌, ◌≤◌, ◌<◌, ◌+◌, ◌-◌, ◌++◌, ◌∷◌, [], ℕ, ℤ, pos, ◌*ℤ◌, suc, List, Bool, true, false, cond, length, get_or, map, filter, refl, ap, sym, subst, arith, ◌∙◌, length-append, inl, inr, ◌⊎◌, slice_index}
use Rattle.std.proofs.lemmas.List.{map-append, get_or-map, length-map, same_lists, get_or_default}
use Rattle.crew_num.specs.declared.Op.TheVariants.{Add, Mul}
use Rattle.crew_num.specs.declared.Overflow.{Overflow}
use Rattle.crew_num.specs.Exact.{FitsI128, fault}
use Rattle.crew_terms.specs.Limits.{Limits}
use Rattle.crew_terms.specs.Total.{total}
use Rattle.search_terms.specs.declared.Place.{Place}
use Rattle.search_terms.specs.declared.Place.TheVariants.{Right, Value, Unused, Unassigned, Shortage, Excess, Missed, Repeated}
use Rattle.search_terms.specs.Rows.{Row, Rows, number, row_of, value_row, width}
use Rattle.search_terms.specs.Opening.{basics, cost_sum, entered, entry, openers, opener, opening_basis, opens, places, places_where, route_number, times, visit_number}
use Rattle.crew_terms.specs.Limits.{Route}
use Rattle.crew_terms.specs.Totals.{total-same}
use Rattle.search_terms.specs.Overflows.{IsOfSum}
use Rattle.search_terms.specs.Overflows.IsOfSum.{Product, Sum}
use Rattle.frac_master.specs.State.{MasterState}
use Rattle.frac_master.specs.Adding.{Adds, AddsOn, IsColumnFault}
use Rattle.frac_master.specs.declared.solved.Added.{Added}
use Rattle.frac_master.specs.declared.solved.Added.TheVariants.{Overflow as OverflowedAdd}
use Rattle.std.specs.Prelude.{None, MatchOption}
use Rattle.kept_rows.specs.Sums.{sum_to}
use Rattle.frac_master.specs.Columns.{IsColumn}
use Rattle.kept_rows.specs.Forming.{IsRowFault, entry_of, with_variable}
use Rattle.kept_rows.specs.State.{State}

list_ext : {A : Type 0} (xs ys : List A) (d : A) → length xs ≡ length ys → ((k : ℕ) → k < length xs → get_or xs k d ≡ get_or ys k d) → xs ≡ ys
list_ext xs ys d e h = same_lists xs ys e (λ k b lt.
    let in' : k < length ys = omega arith in
    get_or_default xs k b d lt ∙ h k lt ∙ sym (get_or_default ys k b d in'))

visits_same : (all : List Place) (r : Route) (ps : List Place) → map (visit_number r) (filter opens ps) ≡ map (route_number all r) (filter opens ps)
visits_same all r [] = refl
visits_same all r (Right ∷ ps) = visits_same all r ps
visits_same all r (Value ∷ ps) = visits_same all r ps
visits_same all r (Unused k ∷ ps) = ap (λ l. visit_number r (Unused k) ∷ l) (visits_same all r ps)
visits_same all r (Unassigned j ∷ ps) = visits_same all r ps
visits_same all r (Shortage j ∷ ps) = ap (λ l. visit_number r (Shortage j) ∷ l) (visits_same all r ps)
visits_same all r (Excess j ∷ ps) = visits_same all r ps
visits_same all r (Missed k j ∷ ps) = ap (λ l. visit_number r (Missed k j) ∷ l) (visits_same all r ps)
visits_same all r (Repeated k j ∷ ps) = visits_same all r ps

numbers_are : (ps : List Place) (r : Route) (at : List ℕ) (numbers : List ℤ) → IsColumn ps r at numbers → numbers ≡ map (route_number ps r) (openers ps)
numbers_are ps r at numbers c =
    c.each ∙ ap (λ l. l ++ cost_sum ps (visit_number r) ∷ []) (visits_same ps r ps) ∙ sym (map-append (route_number ps r) (basics ps) (Value ∷ []))

pub where_count : (at : ℕ) (ps : List Place) → length (places_where opens at ps) ≡ length (filter opens ps)
where_count at [] = refl
where_count at (p ∷ ps) = by_test (opens p) (where_count (suc at) ps)
  where
    by_test : (b : Bool) → length (places_where opens (suc at) ps) ≡ length (filter opens ps)
        → length (cond b (at ∷ places_where opens (suc at) ps) (places_where opens (suc at) ps)) ≡ length (cond b (p ∷ filter opens ps) (filter opens ps))
    by_test true e = ap suc e
    by_test false e = e

pub at_count : (ps : List Place) (r : Route) (at : List ℕ) (numbers : List ℤ) → IsColumn ps r at numbers → length at ≡ length (openers ps)
at_count ps r at numbers c =
    ap length c.basis ∙ length-append (places_where opens 0 ps) (1 ∷ []) ∙ ap (λ k. k + 1) (where_count 0 ps) ∙ sym (length-append (basics ps) (Value ∷ []))

pub numbers_count : (ps : List Place) (r : Route) (at : List ℕ) (numbers : List ℤ) → IsColumn ps r at numbers → length numbers ≡ length (openers ps)
numbers_count ps r at numbers c = ap length (numbers_are ps r at numbers c) ∙ length-map (openers ps) (route_number ps r)

at_is : (ps : List Place) (r : Route) (at : List ℕ) (numbers : List ℤ) (row : Row) (h : ℕ) → IsColumn ps r at numbers → number row (slice_index at h) ≡ times ps row h
at_is ps r at numbers row h c = ap (λ l. number row (slice_index l h)) c.basis

number_is : (ps : List Place) (r : Route) (at : List ℕ) (numbers : List ℤ) (h : ℕ) → IsColumn ps r at numbers → h < length (openers ps) → number numbers h ≡ route_number ps r (opener ps h)
number_is ps r at numbers h c lt = ap (λ l. number l h) (numbers_are ps r at numbers c) ∙ get_or-map (route_number ps r) (openers ps) h Value (pos 0) lt

sum_is : (ps : List Place) (r : Route) (at : List ℕ) (numbers : List ℤ) (row : Row) (m : ℕ) → IsColumn ps r at numbers → m ≤ length (openers ps)
    → sum_to m row at numbers ≡ total m (λ h. times ps row h *ℤ route_number ps r (opener ps h))
sum_is ps r at numbers row m c le = total-same m (λ h. number row (slice_index at h) *ℤ number numbers h) (λ h. times ps row h *ℤ route_number ps r (opener ps h))
    (λ h lt. ap (λ z. z *ℤ number numbers h) (at_is ps r at numbers row h c) ∙ ap (λ z. times ps row h *ℤ z) (number_is ps r at numbers h c (omega arith)))

entry_is : (ps : List Place) (r : Route) (at : List ℕ) (numbers : List ℤ) (row : Row) → IsColumn ps r at numbers → sum_to (length at) row at numbers ≡ entry ps r row
entry_is ps r at numbers row c =
    ap (λ m. sum_to m row at numbers) (at_count ps r at numbers c) ∙ sum_is ps r at numbers row (length (openers ps)) c (omega arith)

same_push : (ps : List Place) (r : Route) (at : List ℕ) (numbers : List ℤ) (rows : List Row) → IsColumn ps r at numbers
    → map (λ row. row ++ entry_of at numbers row ∷ []) rows ≡ map (λ row. row ++ entry ps r row ∷ []) rows
same_push ps r at numbers [] c = refl
same_push ps r at numbers (row ∷ rows) c =
    ap (λ z. (row ++ z ∷ []) ∷ map (λ row. row ++ entry_of at numbers row ∷ []) rows) (entry_is ps r at numbers row c)
    ∙ ap (λ l. (row ++ entry ps r row ∷ []) ∷ l) (same_push ps r at numbers rows c)

-- a variable with the route's numbers is the route's
pub entered_is : (ps : List Place) (r : Route) (at : List ℕ) (numbers : List ℤ) (s : State) → IsColumn ps r at numbers → s.openers ≡ opening_basis ps
    → (with_variable numbers s).rows ≡ entered ps r s.rows
entered_is ps r at numbers s c e =
    let f = ap (λ b. map (λ row. row ++ entry_of b numbers row ∷ []) s.rows.rows) (e ∙ sym c.basis) in
    ap (λ l. let t : Rows = record { rows = l; basis = s.rows.basis } in t) (f ∙ same_push ps r at numbers s.rows.rows c)

pub column_fault : (m : MasterState) (r : Route) (at : List ℕ) (numbers : List ℤ) (f : Overflow) → IsColumn m.places r at numbers → IsRowFault m.rows.rows at numbers f → IsColumnFault m r f
column_fault m r at numbers f c w = record {
  leaves = w.sum.first.leaves;
  how = λ n e. (w.h, w.known, of_sum n (subst (λ ps. IsColumn ps r at numbers) e c));
}
  where
    of_sum : (n : Limits) → IsColumn (places n) r at numbers → IsOfSum n (route_number (places n) r) (row_of m.rows w.h) f
    of_sum n d = by_how w.sum.first.how
      where
        by_how : (f ≡ fault Mul (number (row_of m.rows w.h) (slice_index at w.sum.h)) (number numbers w.sum.h))
            ⊎ ((f ≡ fault Add (sum_to w.sum.h (row_of m.rows w.h) at numbers) (number (row_of m.rows w.h) (slice_index at w.sum.h) *ℤ number numbers w.sum.h))
            × FitsI128 (number (row_of m.rows w.h) (slice_index at w.sum.h) *ℤ number numbers w.sum.h))
            → IsOfSum n (route_number (places n) r) (row_of m.rows w.h) f
        by_how (inl e) =
            let k = w.sum.known in
            let lt : w.sum.h < length (openers (places n)) = omega (arith, at_count (places n) r at numbers d) in
            Product w.sum.h lt (e ∙ ap (λ z. fault Mul z (number numbers w.sum.h)) (at_is (places n) r at numbers (row_of m.rows w.h) w.sum.h d)
            ∙ ap (fault Mul (times (places n) (row_of m.rows w.h) w.sum.h)) (number_is (places n) r at numbers w.sum.h d lt))
        by_how (inr e) =
            let k = w.sum.known in
            let lt : w.sum.h < length (openers (places n)) = omega (arith, at_count (places n) r at numbers d) in
            let le : w.sum.h ≤ length (openers (places n)) = omega arith in
            let p = ap (λ z. z *ℤ number numbers w.sum.h) (at_is (places n) r at numbers (row_of m.rows w.h) w.sum.h d)
            ∙ ap (λ z. times (places n) (row_of m.rows w.h) w.sum.h *ℤ z) (number_is (places n) r at numbers w.sum.h d lt) in
            Sum w.sum.h lt (e.0 ∙ ap (λ z. fault Add z (number (row_of m.rows w.h) (slice_index at w.sum.h) *ℤ number numbers w.sum.h)) (sum_is (places n) r at numbers (row_of m.rows w.h) w.sum.h d le)
            ∙ ap (fault Add (total w.sum.h (λ h. times (places n) (row_of m.rows w.h) h *ℤ route_number (places n) r (opener (places n) h)))) p)

pub known_in : (ps : List Place) (r : Route) (at : List ℕ) (numbers : List ℤ) (t : Rows) (h i : ℕ) → IsColumn ps r at numbers → get_or (opening_basis ps) h 0 < width t
    → length (row_of t i) ≡ width t → slice_index at h < length (row_of t i)
known_in ps r at numbers t h i c lt e = let f : slice_index at h ≡ get_or (opening_basis ps) h 0 = ap (λ l. slice_index l h) c.basis in omega arith

pub adds_on : (old : MasterState) (column : ℕ) (r : Route) (added : Added) (new : MasterState) → old.ended ≡ None → AddsOn old column r added new → Adds old column r added new
adds_on old column r added new e a = subst (λ o. MatchOption o (AddsOn old column r added new) (λ f. (added ≡ OverflowedAdd f) × (new ≡ old))) (sym e) a

pub wider : (ps : List Place) (r : Route) (t : Rows) → 0 < length t.rows → width (entered ps r t) ≡ suc (width t)
wider ps r t some =
    let f : Row → Row = λ row. row ++ entry ps r row ∷ [] in
    let m = length-map t.rows f in
    let e = ap (λ k. length (get_or (map f t.rows) (k - 1) [])) m in
    let g = ap length (get_or-map f t.rows (length t.rows - 1) [] [] (omega arith)) in
    let h = length-append (value_row t) (entry ps r (value_row t) ∷ []) in
    e ∙ g ∙ h ∙ omega arith
