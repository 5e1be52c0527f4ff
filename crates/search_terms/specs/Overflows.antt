-- the overflows that belong to rows
use Rattle.std.specs.Prelude.{◌≡◌, ◌≢◌, ◌<◌, ◌*◌, ◌-◌, Bool, true, false, ℕ, ℤ, pos, ◌*ℤ◌, List, ◌∷◌, ◌++◌, length, unsigned_abs, Contains}
use Rattle.std.specs.Int.{IsGcd, ◌∣◌}
use Rattle.std.specs.List.{AllZip, range_with_len}
use Rattle.crew_num.specs.declared.Op.TheVariants.{Add, Sub, Mul}
use Rattle.crew_num.specs.declared.Overflow.{Overflow}
use Rattle.crew_num.specs.Exact.{IsOverflow, fault}
use Rattle.crew_terms.specs.Limits.{Limits, Route}
use Rattle.crew_terms.specs.Total.{total}
use Rattle.search_terms.specs.declared.Place.{Place}
use Rattle.search_terms.specs.declared.Place.TheVariants.{Right, Unassigned}
use Rattle.share_terms.specs.declared.TheConstants.{BIG_M}
use Rattle.search_terms.specs.declared.TheConstants.{RIGHT, VALUE}
use Rattle.search_terms.specs.Rows.{Row, Rows, number, row_of, basic_of, value_row, width}
use Rattle.search_terms.specs.Opening.{cost, places, openers, opener, opening_number, places_where, route_number, times}
use Rattle.search_terms.specs.Pivot.{IsEntering, IsBounding, IsLeast, IsLeaving, IsOptimal}

-- the next pivot enters the variable at place v at row h, and replaces the number at place j of row i
pub record IsNumberOfPivot (t : Rows) (v h i j : ℕ) : Type 0 where
  pub enters : IsEntering t v
  pub leaves : IsLeaving t v h
  pub row : i < length t.rows
  pub other : i ≢ h
  pub place : j < width t

-- the choice of the row goes through the rows that bound the variable, and compares each, h, with the best before it, g
pub record AreCompared (t : Rows) (v g h : ℕ) : Type 0 where
  pub best : IsLeast t v h g
  pub next : IsBounding t v h

-- the two products of a comparison: the right side of each row, and the other's number at place v
pub data IsOfChoice (t : Rows) (v : ℕ) (f : Overflow) : Type 0 where
  OfNext : (g h : ℕ) (compared : AreCompared t v g h)
      (is : f ≡ fault Mul (number (row_of t h) RIGHT) (number (row_of t g) v)) → IsOfChoice t v f
  OfBest : (g h : ℕ) (compared : AreCompared t v g h)
      (is : f ≡ fault Mul (number (row_of t g) RIGHT) (number (row_of t h) v)) → IsOfChoice t v f

-- the operations of the next pivot: those of the choice of its row, and the products and the difference of a number
pub data IsOfPivot (t : Rows) (f : Overflow) : Type 0 where
  Ratio : (v : ℕ) (enters : IsEntering t v) (how : IsOfChoice t v f) → IsOfPivot t f
  OfRow : (v h i j : ℕ) (at : IsNumberOfPivot t v h i j)
      (is : f ≡ fault Mul (number (row_of t h) v) (number (row_of t i) j)) → IsOfPivot t f
  OfPivotRow : (v h i j : ℕ) (at : IsNumberOfPivot t v h i j)
      (is : f ≡ fault Mul (number (row_of t i) v) (number (row_of t h) j)) → IsOfPivot t f
  OfBoth : (v h i j : ℕ) (at : IsNumberOfPivot t v h i j)
      (is : f ≡ fault Sub (number (row_of t h) v *ℤ number (row_of t i) j) (number (row_of t i) v *ℤ number (row_of t h) j))
      → IsOfPivot t f

-- how many times the row has the opening row h, times the number that a gives what that row opens with
abbrev pub product_at : Limits → (Place → ℤ) → Row → ℕ → ℤ
product_at n a row h = times (places n) row h *ℤ a (opener (places n) h)

-- the operations of the running sum of these products, in the order of the opening rows
pub data IsOfSum (n : Limits) (a : Place → ℤ) (row : Row) (f : Overflow) : Type 0 where
  Product : (h : ℕ) (below : h < length (openers (places n)))
      (is : f ≡ fault Mul (times (places n) row h) (a (opener (places n) h))) → IsOfSum n a row f
  Sum : (h : ℕ) (below : h < length (openers (places n)))
      (is : f ≡ fault Add (total h (product_at n a row)) (product_at n a row h)) → IsOfSum n a row f

-- the operations that form the column of the route that is entered next, or the value
pub data IsOfColumn (n : Limits) (t : Rows) (coming : List Route) (f : Overflow) : Type 0 where
  Column : (r : Route) (rest : List Route) (next : coming ≡ r ∷ rest) (h : ℕ) (row : h < length t.rows)
      (sum : IsOfSum n (route_number (places n) r) (row_of t h) f) → IsOfColumn n t coming f
  OfValue : (sum : IsOfSum n (λ b. opening_number n b Right) (value_row t) f) → IsOfColumn n t coming f

-- d is the denominator in lowest terms of the share of the variable at place j
pub data IsDenominator (t : Rows) (j d : ℕ) : Type 0 where
  Basic : (h g : ℕ) (row : h < length t.rows) (basic : basic_of t h ≡ j)
      (gcd : IsGcd (unsigned_abs (number (row_of t h) RIGHT)) (unsigned_abs (number (row_of t h) j)) g)
      (is : pos (d * g) ≡ number (row_of t h) j) → IsDenominator t j d
  Idle : (idle : (h : ℕ) → h < length t.rows → basic_of t h ≢ j) (is : d ≡ 1) → IsDenominator t j d

-- the place is an unassigned share
abbrev pub is_unassigned : Place → Bool
is_unassigned (Unassigned j) = true
is_unassigned _ = false

-- the places of the routes' shares, by column, and then of the unassigned shares, by task
abbrev pub share_places : Limits → Rows → List ℕ
share_places n t = range_with_len (length (places n)) (width t - length (places n)) ++ places_where is_unassigned 0 (places n)

-- the least common multiple
pub record IsLeastMultiple (ds : List ℕ) (m : ℕ) : Type 0 where
  pub multiple : (d : ℕ) → Contains ds d → d ∣ m
  pub least : (k : ℕ) → ((d : ℕ) → Contains ds d → d ∣ k) → m ∣ k

-- the product of the least common multiple so far and what the next denominator adds to it
pub data IsOfMultiple (ds : List ℕ) (f : Overflow) : Type 0 where
  Next : (front : List ℕ) (d : ℕ) (back : List ℕ) (all : ds ≡ front ++ d ∷ back) (m g c : ℕ) (so_far : IsLeastMultiple front m)
      (gcd : IsGcd m d g) (adds : c * g ≡ d) (is : f ≡ fault Mul (pos m) (pos c)) → IsOfMultiple ds f

-- the operations of a price or an extra: those of a row that opens with a shortage or a missed part
pub data IsOfPrice (n : Limits) (t : Rows) (f : Overflow) : Type 0 where
  Scaled : (is : f ≡ fault Mul (pos BIG_M) (number (value_row t) VALUE)) → IsOfPrice n t f
  Raised : (h : ℕ) (below : h < length (openers (places n))) (priced : cost (opener (places n) h) ≡ pos BIG_M)
      (is : f ≡ fault Add (pos BIG_M *ℤ number (value_row t) VALUE) (times (places n) (value_row t) h)) → IsOfPrice n t f

-- the overflow belongs to the rows t, of which the routes that are to be entered are coming
pub data OverflowAt (n : Limits) (t : Rows) (coming : List Route) (f : Overflow) : Type 0 where
  InPivot : (leaves : IsOverflow f) (how : IsOfPivot t f) → OverflowAt n t coming f
  InColumn : (leaves : IsOverflow f) (done : IsOptimal t) (how : IsOfColumn n t coming f) → OverflowAt n t coming f
  InShares : (leaves : IsOverflow f) (done : IsOptimal t) (ds : List ℕ)
      (each : AllZip (λ j d. IsDenominator t j d) (share_places n t) ds) (how : IsOfMultiple ds f) → OverflowAt n t coming f
  InPrice : (leaves : IsOverflow f) (done : IsOptimal t) (how : IsOfPrice n t f) → OverflowAt n t coming f
