-- shares in lowest terms, and the common multiple of their denominators
use Rattle.std.proofs.Common.{◌≡◌, ◌≢◌, ◌<◌, ◌+◌, ◌*◌, ◌/◌, ◌^◌, ◌++◌, ◌∷◌, [], ◌∙◌, ◌⊎◌, inl, inr, ℕ, zero, suc, List, Bool, true, false, cond, refl, ap, sym, subst, arith, length, get_or, take, drop, drop-cons, to_z, of_z}
use Rattle.std.specs.Prelude.{ℤ, pos, negsuc, ◌*ℤ◌, ◌<ℤ◌, ◌≤ℤ◌, unsigned_abs, FitsSigned, Option, None, Some}
use Rattle.std.specs.Int.{IsGcd, ◌∣◌, w128}
use Rattle.std.specs.List.{AllZip, position, position_from}
use Rattle.std.proofs.Math.Dec.{eqb}
use Rattle.std.proofs.lemmas.Bool.{cases_eq, eqb-true, eqb-false}
use Rattle.std.proofs.lemmas.Int.{ints, to_z-of_z, to_z_pos}
use Rattle.std.proofs.lemmas.Iterator.Adapters.{position_from-zero}
use Rattle.std.proofs.lemmas.List.{get_or_default, take-append-drop}
use Rattle.std.proofs.lemmas.List.Quantifiers.{position-Some}
use Rattle.std.proofs.lemmas.List.Elements.{all_zip_more}
use Rattle.std.proofs.lemmas.Nat.Gcd.{same_from_IsGcd}
use Rattle.std.proofs.Math.Nat.{div-mul_cancel, mul-div_cancel, mul-div_cancel', pos_of_dvd_of_pos}
use Rattle.crew_num.specs.declared.Op.TheVariants.{Mul}
use Rattle.crew_num.specs.declared.Overflow.{Overflow}
use Rattle.crew_num.specs.Exact.{IsOverflow, fault}
use Rattle.search_terms.specs.Rows.{Rows, number, row_of, basic_of, last, AreBasic, AreFeasible}
use Rattle.search_terms.specs.declared.TheConstants.{RIGHT, VALUE}
use Rattle.search_terms.specs.BasicChoice.{HasParts}
use Rattle.search_terms.specs.Overflows.{IsDenominator, IsLeastMultiple}
use Rattle.search_terms.specs.Overflows.IsDenominator.{Basic, Idle}
use Rattle.search_terms.specs.Overflows.IsOfMultiple.{Next}
use Rattle.frac_master.specs.Shares.{IsCommonOf, IsCommonFault, parts_at, parts_by}
use Rattle.frac_master.specs.Fractions.{IsLowestShare, IsNextMultiple, IsMultipleFault, IsWholeAt}
use Rattle.kept_rows.specs.Multiples.{some_gcd, multiple_none, multiple_more}

-- ---- the row whose basic variable stands at a place
none_from : (test : ℕ → Bool) (i : ℕ) (xs : List ℕ) → position_from test i xs ≡ None → (h : ℕ) → h < length xs → test (get_or xs h 0) ≡ false
none_from test i [] e h lt = absurd (omega arith)
none_from test i (x ∷ xs) e h lt = by_test (test x) refl e (λ f k l. none_from test (i + 1) xs f k l) h lt
  where
    by_test : (b : Bool) → test x ≡ b → cond b (Some i) (position_from test (i + 1) xs) ≡ None
        → (position_from test (i + 1) xs ≡ None → (k : ℕ) → k < length xs → test (get_or xs k 0) ≡ false)
        → (h : ℕ) → h < suc (length xs) → test (get_or (x ∷ xs) h 0) ≡ false
    by_test true t e again h lt = absurd (let f : Some i ≡ None = e in cc)
    by_test false t e again zero lt = t
    by_test false t e again (suc h) lt = again e h (omega arith)

pub no_row : (xs : List ℕ) (j : ℕ) → position (λ b. eqb b j) xs ≡ None → (h : ℕ) → h < length xs → get_or xs h 0 ≢ j
no_row xs j e h lt = eqb-false (get_or xs h 0) j (none_from (λ b. eqb b j) 0 xs (sym (position_from-zero (λ b. eqb b j) xs) ∙ e) h lt)

pub is_row : (xs : List ℕ) (j h : ℕ) → position (λ b. eqb b j) xs ≡ Some h → (h < length xs) × (get_or xs h 0 ≡ j)
is_row xs j h e = let p = position-Some (λ b. eqb b j) xs h 0 e in (p.0, eqb-true (get_or xs h 0) j p.1)

-- the place is in that row
pub row_bound : (t : Rows) (j h : ℕ) → AreBasic t → position (λ b. eqb b j) t.basis ≡ Some h → j < length (row_of t h)
row_bound t j h a e =
    let p = is_row t.basis j h e in
    let lt : h < length t.rows = omega (arith, p.0, a.count) in
    let k = a.known h lt in
    let w = a.widths h lt in
    omega (arith, p.1)

-- one row alone has it
one_row : (t : Rows) (j h i : ℕ) → AreBasic t → h < length t.rows → i < length t.rows → basic_of t h ≡ j → basic_of t i ≡ j → h ≡ i
one_row t j h i b in_h in_i e f = by_case (cases_eq h i)
  where
    by_case : (h ≡ i) ⊎ (h ≡ i → ⊥) → h ≡ i
    by_case (inl q) = q
    by_case (inr ne) =
        let z = b.alone h i in_h in_i ne in
        let p = b.positive i in_i in
        let g = ap (number (row_of t i)) (f ∙ sym e) in
        absurd (omega (arith, ints))

-- ---- shares in lowest terms
pub lowest_idle : (t : Rows) (j : ℕ) → AreBasic t → position (λ b. eqb b j) t.basis ≡ None → IsLowestShare t j 0 1
lowest_idle t j b e = record {
  some = omega arith;
  fits = lit;
  is = Idle (λ h lt. no_row t.basis j e h (omega (arith, b.count))) refl;
  times = λ k. ap (parts_by t (1 * k) j) e ∙ omega arith;
}
  where
    lit : 1 < 2 ^ 127
    lit = omega arith

abs_of : (z : ℤ) → pos 0 <ℤ z → pos (unsigned_abs z) ≡ z
abs_of (pos n) h = refl
abs_of (negsuc n) h = absurd (omega (arith, ints))

-- the numbers of the row, over their greatest common divisor
record IsOver (t : Rows) (j h r b g : ℕ) : Type 0 where
  row : h < length t.rows
  basic : basic_of t h ≡ j
  right : r ≡ unsigned_abs (number (row_of t h) RIGHT)
  number' : b ≡ unsigned_abs (number (row_of t h) j)
  up : pos b ≡ number (row_of t h) j
  some : 0 < b
  factor : 0 < g
  gcd : IsGcd r b g
  over_right : r / g * g ≡ r
  over : b / g * g ≡ b
  positive : 0 < b / g

is_over : (t : Rows) (j h r b g : ℕ) → AreBasic t → position (λ k. eqb k j) t.basis ≡ Some h → r ≡ unsigned_abs (number (row_of t h) RIGHT)
    → b ≡ unsigned_abs (number (row_of t h) j) → IsGcd r b g → IsOver t j h r b g
is_over t j h r b g a e er eb d =
    let p = is_row t.basis j h e in
    let lt : h < length t.rows = omega (arith, p.0, a.count) in
    let up = subst (λ k. pos 0 <ℤ number (row_of t h) k) p.1 (a.positive h lt) in
    let is = ap pos eb ∙ abs_of (number (row_of t h) j) up in
    let some : 0 < b = omega (arith, ints) in
    let over = div-mul_cancel g d.1 in
    record {
      row = lt;
      basic = p.1;
      right = er;
      number' = eb;
      up = is;
      some = some;
      factor = pos_of_dvd_of_pos d.1 some;
      gcd = d;
      over_right = div-mul_cancel g d.0;
      over = over;
      positive = quotient_some (b / g) g b over some;
    }
  where
    quotient_some : (q g b : ℕ) → q * g ≡ b → 0 < b → 0 < q
    quotient_some zero g b e some = absurd (omega arith)
    quotient_some (suc q) g b e some = omega arith

over_denominator : (t : Rows) (j h r b g : ℕ) → IsOver t j h r b g → IsDenominator t j (b / g)
over_denominator t j h r b g o =
    Basic h g o.row o.basic (subst (λ x. IsGcd x (unsigned_abs (number (row_of t h) j)) g) o.right (subst (λ x. IsGcd r x g) o.number' o.gcd))
    (ap pos o.over ∙ o.up)

over_times : (t : Rows) (j h r b g k : ℕ) → IsOver t j h r b g → position (λ k. eqb k j) t.basis ≡ Some h → parts_at t (b / g * k) j ≡ r / g * k
over_times t j h r b g k o e =
    ap (parts_by t (b / g * k) j) e
    ∙ ap (λ x. x * (b / g * k) / unsigned_abs (number (row_of t h) j)) (sym o.right)
    ∙ ap (λ x. r * (b / g * k) / x) (sym o.number')
    ∙ ap (λ x. x / b) (products (r / g) (b / g) g r b k o.over_right o.over)
    ∙ mul-div_cancel (r / g * k) o.some
  where
    products : (p q g r b k : ℕ) → p * g ≡ r → q * g ≡ b → r * (q * k) ≡ p * k * b
    products p q g r b k e f = ap (λ x. x * (q * k)) (sym e) ∙ regroup p q g k ∙ ap (λ x. p * k * x) f
      where
        regroup : (p q g k : ℕ) → p * g * (q * k) ≡ p * k * (q * g)
        regroup p q g k = omega arith

quotient_fits : (q g b : ℕ) → 0 < g → q * g ≡ b → b < 2 ^ 127 → q < 2 ^ 127
quotient_fits q zero b some e lt = absurd (omega arith)
quotient_fits q (suc g) b some e lt = omega arith

pub lowest_basic : (t : Rows) (j h r b g : ℕ) → AreBasic t → position (λ k. eqb k j) t.basis ≡ Some h → r ≡ unsigned_abs (number (row_of t h) RIGHT)
    → b ≡ unsigned_abs (number (row_of t h) j) → IsGcd r b g → FitsSigned w128 (number (row_of t h) j) → IsLowestShare t j (r / g) (b / g)
lowest_basic t j h r b g a e er eb d f =
    let o = is_over t j h r b g a e er eb d in
    record {
      some = o.positive;
      fits = quotient_fits (b / g) g b o.factor o.over (small b (subst (FitsSigned w128) (sym o.up) f));
      is = over_denominator t j h r b g o;
      times = λ k. over_times t j h r b g k o e;
    }
  where
    small : (b : ℕ) → FitsSigned w128 (pos b) → b < 2 ^ 127
    small b f = omega (arith, ints)

pub factor_positive : (t : Rows) (j h r b g : ℕ) → AreBasic t → position (λ k. eqb k j) t.basis ≡ Some h → r ≡ unsigned_abs (number (row_of t h) RIGHT)
    → b ≡ unsigned_abs (number (row_of t h) j) → IsGcd r b g → 0 < g
factor_positive t j h r b g a e er eb d = (is_over t j h r b g a e er eb d).factor

-- each share has a denominator in lowest terms, and only one
some_denominator : (t : Rows) (j : ℕ) → AreBasic t → (d : ℕ) × IsDenominator t j d
some_denominator t j a = by_row (position (λ k. eqb k j) t.basis) refl
  where
    by_row : (o : Option ℕ) → position (λ k. eqb k j) t.basis ≡ o → (d : ℕ) × IsDenominator t j d
    by_row None e = (1, (lowest_idle t j a e).is)
    by_row (Some h) e =
        let r = unsigned_abs (number (row_of t h) RIGHT) in
        let b = unsigned_abs (number (row_of t h) j) in
        let g = some_gcd r b in
        (b / g.0, over_denominator t j h r b g.0 (is_over t j h r b g.0 a e refl refl g.1))

pub one_denominator : (t : Rows) (j d e : ℕ) → AreBasic t → IsDenominator t j d → IsDenominator t j e → d ≡ e
one_denominator t j d e a (Basic h g row basic gcd is) (Basic h' g' row' basic' gcd' is') =
    let q = one_row t j h h' a row row' basic basic' in
    let k = subst (λ i. IsGcd (unsigned_abs (number (row_of t i) RIGHT)) (unsigned_abs (number (row_of t i) j)) g) q gcd in
    let f = same_from_IsGcd (unsigned_abs (number (row_of t h') RIGHT)) (unsigned_abs (number (row_of t h') j)) g g' k gcd' in
    let m = is ∙ ap (λ i. number (row_of t i) j) q ∙ sym is' in
    let up = subst (λ k. pos 0 <ℤ number (row_of t h) k) basic (a.positive h row) in
    let u : pos 0 <ℤ pos (d * g) = subst (λ z. pos 0 <ℤ z) (sym is) up in
    let some : 0 < d * g = omega (arith, ints) in
    let n : d * g ≡ e * g' = omega (arith, ints) in
    cancel d e g some (n ∙ ap (λ x. e * x) (sym f))
  where
    cancel : (d e g : ℕ) → 0 < d * g → d * g ≡ e * g → d ≡ e
    cancel d e zero some m = absurd (omega arith)
    cancel d e (suc g) some m = sym (mul-div_cancel d {n = suc g} (omega arith)) ∙ ap (λ x. x / suc g) m ∙ mul-div_cancel e {n = suc g} (omega arith)
one_denominator t j d e a (Basic h g row basic gcd is) (Idle idle is') = absurd (idle h row basic)
one_denominator t j d e a (Idle idle is) (Basic h g row basic gcd is') = absurd (idle h row basic)
one_denominator t j d e a (Idle idle is) (Idle idle' is') = is ∙ sym is'

-- ---- the common multiple
all_denominators : (t : Rows) (at : List ℕ) → AreBasic t → (ds : List ℕ) × AllZip (λ j d. IsDenominator t j d) at ds
all_denominators t [] a = ([], tt)
all_denominators t (j ∷ at) a =
    let d = some_denominator t j a in
    let ds = all_denominators t at a in
    (d.0 ∷ ds.0, (d.1, ds.1))

zip_append : (R : ℕ → ℕ → Type 0) (xs ys us vs : List ℕ) → AllZip R xs us → AllZip R ys vs → AllZip R (xs ++ ys) (us ++ vs)
zip_append R [] ys [] vs a b = b
zip_append R [] ys (u ∷ us) vs a b = absurd a
zip_append R (x ∷ xs) ys [] vs a b = absurd a
zip_append R (x ∷ xs) ys (u ∷ us) vs a b = (a.0, zip_append R xs ys us vs a.1 b)

pub common_none : (t : Rows) → IsCommonOf t [] 1
common_none t = record { denominators = []; each = tt; least = multiple_none; some = omega arith; fits = lit }
  where
    lit : 1 < 2 ^ 127
    lit = omega arith

pub common_more : (t : Rows) (at : List ℕ) (i j whole num den next : ℕ) → i < length at → j ≡ get_or at i 0 → IsCommonOf t (take i at) whole → IsLowestShare t j num den
    → IsNextMultiple whole den next → IsCommonOf t (take (i + 1) at) next
common_more t at i j whole num den next lt here c s m = record {
  denominators = c.denominators ++ den ∷ [];
  each = all_zip_more (λ j d. IsDenominator t j d) at c.denominators i j den lt (here ∙ get_or_default at i 0 j lt) c.each s.is;
  least = subst (IsLeastMultiple (c.denominators ++ den ∷ [])) (sym m.is)
      (multiple_more c.denominators whole den m.factor m.more (pos_of_dvd_of_pos m.gcd.1 s.some) c.least m.gcd m.adds);
  some = subst (λ x. 0 < x) (sym m.is) (product_some whole m.more m.factor den c.some s.some m.adds);
  fits = m.fits;
}
  where
    product_some : (w c g d : ℕ) → 0 < w → 0 < d → c * g ≡ d → 0 < w * c
    product_some w zero g d a b e = absurd (omega arith)
    product_some zero (suc c) g d a b e = absurd (omega arith)
    product_some (suc w) (suc c) g d a b e = omega arith

pub common_fault : (t : Rows) (at : List ℕ) (i j whole num den : ℕ) (f : Overflow) → AreBasic t → i < length at → j ≡ get_or at i 0 → IsCommonOf t (take i at) whole
    → IsLowestShare t j num den → IsMultipleFault whole den f → IsCommonFault t at f
common_fault t at i j whole num den f a lt here c s m =
    let rest = all_denominators t (drop (suc i) at) a in
    let all = zip_append (λ j d. IsDenominator t j d) (take i at) (j ∷ drop (suc i) at) c.denominators (den ∷ rest.0) c.each (s.is, rest.1) in
    let e = ap (λ l. take i at ++ l) (ap (λ k. k ∷ drop (suc i) at) here ∙ sym (drop-cons at i 0 lt)) ∙ take-append-drop i at in
    record {
      leaves = m.leaves;
      denominators = c.denominators ++ den ∷ rest.0;
      each = subst (λ l. AllZip (λ j d. IsDenominator t j d) l (c.denominators ++ den ∷ rest.0)) e all;
      how = Next c.denominators den rest.0 refl whole m.factor m.more c.least m.gcd m.adds m.is;
    }

-- ---- what has a denominator that divides the whole is a whole number of parts
pub has_parts : (t : Rows) (whole j : ℕ) → AreFeasible t → VALUE < j → ((d : ℕ) → IsDenominator t j d → d ∣ whole) → HasParts t whole j (parts_at t whole j)
has_parts t whole j f above each = by_row (position (λ k. eqb k j) t.basis) refl
  where
    some_rows : 0 < length t.rows
    some_rows = f.basic.some

    by_row : (o : Option ℕ) → position (λ k. eqb k j) t.basis ≡ o → HasParts t whole j (parts_at t whole j)
    by_row None e = record {
      basic = λ h lt is.
          let below : h < length t.basis = omega (arith, f.basic.count, lt, f.basic.some) in
          absurd (no_row t.basis j e h below is);
      idle = λ none. ap (parts_by t whole j) e;
    }
    by_row (Some h) e =
        let a = f.basic in
        let r = unsigned_abs (number (row_of t h) RIGHT) in
        let b = unsigned_abs (number (row_of t h) j) in
        let g = some_gcd r b in
        let o = is_over t j h r b g.0 a e refl refl g.1 in
        let d = each (b / g.0) (over_denominator t j h r b g.0 o) in
        let w = mul-div_cancel' (b / g.0) d in
        let p : parts_at t whole j ≡ r / g.0 * (whole / (b / g.0)) = ap (λ x. parts_at t x j) (sym w) ∙ over_times t j h r b g.0 (whole / (b / g.0)) o e in
        record {
          basic = λ i lt is.
              let in_i : i < length t.rows = omega (arith, lt, f.basic.some) in
              let same = one_row t j i h a in_i o.row is o.basic in
              let low = f.rights i lt in
              let n = ap (λ k. number (row_of t k) j) same ∙ sym o.up in
              let right = sym (abs_low (number (row_of t i) RIGHT) low) ∙ ap (λ k. pos (unsigned_abs (number (row_of t k) RIGHT))) same in
              let m = products (r / g.0) (b / g.0) g.0 r b (whole / (b / g.0)) (parts_at t whole j) whole o.over_right o.over p w in
              ap (λ z. z *ℤ pos (parts_at t whole j)) n ∙ times b (parts_at t whole j) ∙ ap pos m ∙ sym (times r whole) ∙ ap (λ z. z *ℤ pos whole) (sym right);
          idle = λ none. absurd (none h (below h e o.row o.basic) o.basic);
        }
      where
        abs_low : (z : ℤ) → pos 0 ≤ℤ z → pos (unsigned_abs z) ≡ z
        abs_low (pos n) h = refl
        abs_low (negsuc n) h = absurd (omega (arith, ints))

        times : (x y : ℕ) → pos x *ℤ pos y ≡ pos (x * y)
        times x y = refl

        below : (h : ℕ) → position (λ k. eqb k j) t.basis ≡ Some h → h < length t.rows → basic_of t h ≡ j → h < last t
        below h e lt is = by_last (cases_eq h (last t))
          where
            by_last : (h ≡ last t) ⊎ (h ≡ last t → ⊥) → h < last t
            by_last (inl q) = let k = ap (basic_of t) q in absurd (omega (arith, f.basic.value, k, is, above))
            by_last (inr ne) = omega (arith, lt, ne)

        products : (p q g r b k parts whole : ℕ) → p * g ≡ r → q * g ≡ b → parts ≡ p * k → q * k ≡ whole → b * parts ≡ r * whole
        products p q g r b k parts whole er eb ep ew =
            ap (λ x. b * x) ep ∙ ap (λ x. x * (p * k)) (sym eb) ∙ regroup p q g k ∙ ap (λ x. x * (q * k)) er ∙ ap (λ x. r * x) ew
          where
            regroup : (p q g k : ℕ) → q * g * (p * k) ≡ p * g * (q * k)
            regroup p q g k = omega arith

-- ---- what the code computes
pub signed : (n : ℕ) → n < 2 ^ 127 → to_z w128 n ≡ pos n
signed n lt = to_z_pos w128 n (let f : FitsSigned w128 (pos n) = omega (arith, ints) in f.sfits)

pub factor_some : (m d g : ℕ) → 0 < d → IsGcd m d g → 0 < g
factor_some m d g some h = pos_of_dvd_of_pos h.1 some

more_fits : (m d g : ℕ) → 0 < d → d < 2 ^ 127 → IsGcd m d g → d / g < 2 ^ 127
more_fits m d g some fits h = quotient_fits (d / g) g d (factor_some m d g some h) (div-mul_cancel g h.1) fits

-- the product, in the code's numbers
pub next_multiple : (m d g next : ℕ) (z : ℤ) → m < 2 ^ 127 → 0 < d → d < 2 ^ 127 → IsGcd m d g → z ≡ to_z w128 m *ℤ to_z w128 (d / g)
    → FitsSigned w128 (to_z w128 m *ℤ to_z w128 (d / g)) → next ≡ unsigned_abs (to_z w128 (of_z w128 z)) → IsNextMultiple m d next
next_multiple m d g next z fm some fd h e fits abs =
    let em = signed m fm in
    let ed = signed (d / g) (more_fits m d g some fd h) in
    let is : z ≡ pos (m * (d / g)) = e ∙ ap (λ x. x *ℤ to_z w128 (d / g)) em ∙ ap (λ x. pos m *ℤ x) ed in
    let fz : FitsSigned w128 z = subst (FitsSigned w128) (sym e) fits in
    let n : next ≡ m * (d / g) = abs ∙ ap unsigned_abs (to_z-of_z w128 z fz ∙ is) in
    let fn : FitsSigned w128 (pos (m * (d / g))) = subst (FitsSigned w128) is fz in
    record { factor = g; more = d / g; gcd = h; adds = div-mul_cancel g h.1; is = n; fits = small next (m * (d / g)) n fn }
  where
    small : (n k : ℕ) → n ≡ k → FitsSigned w128 (pos k) → n < 2 ^ 127
    small n k e f = omega (arith, ints)

pub next_fault : (m d g : ℕ) (f : Overflow) → m < 2 ^ 127 → 0 < d → d < 2 ^ 127 → IsGcd m d g → f ≡ fault Mul (to_z w128 m) (to_z w128 (d / g)) → IsOverflow f
    → IsMultipleFault m d f
next_fault m d g f fm some fd h e leaves = record {
  leaves = leaves;
  factor = g;
  more = d / g;
  gcd = h;
  adds = div-mul_cancel g h.1;
  is = e ∙ ap (λ x. fault Mul x (to_z w128 (d / g))) (signed m fm) ∙ ap (fault Mul (pos m)) (signed (d / g) (more_fits m d g some fd h));
}

-- a number of parts
pub parts_is : (t : Rows) (j num den whole : ℕ) → IsLowestShare t j num den → IsWholeAt t whole j → num * (whole / den) ≡ parts_at t whole j
parts_is t j num den whole s w =
    let e = mul-div_cancel' den (w.multiple den s.is) in
    sym (s.times (whole / den)) ∙ ap (λ k. parts_at t k j) e
