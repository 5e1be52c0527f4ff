-- a route enters: the rows have the same solutions as before, with its share in place of unused shares, shortages and missed parts
use Rattle.std.proofs.Common.{◌≡◌, ◌≢◌, ◌<◌, ◌-◌, ℕ, suc, zero, [], ◌∷◌, ◌++◌, length, get_or, refl, ap, sym, arith, ◌⊎◌, inl, inr, ◌∙◌, subst, length-append, true, false, cond}
use Rattle.std.specs.Prelude.{ℤ, pos, ◌+ℤ◌, ◌*ℤ◌}
use Rattle.std.proofs.Math.Dec.{eqb}
use Rattle.std.proofs.Math.Seq.{get_or-append_seam}
use Rattle.std.proofs.lemmas.List.{get_or_append_left, get_or-map, length-map}
use Rattle.std.proofs.lemmas.Bool.Decides.{eqb_tells}
use Rattle.std.proofs.lemmas.Int.{ints}
use Rattle.std.proofs.Math.IntN.{*ℤ_comm, *ℤ-zero}
use Rattle.crew_terms.specs.Limits.{Limits, Route}
use Rattle.crew_terms.specs.Total.{total}
use Rattle.search_terms.specs.Rows.{Row, Rows, number, row_of, basic_of, last, width, product, IsSolution, AreBasic, AreFeasible}
use Rattle.search_terms.specs.Opening.{places, openers, opener, opening_basis, route_number, entry, entered}
use Rattle.crew_num.specs.Ring.{swap, scale_sum}
use Rattle.crew_terms.specs.Totals.{total-same, total-plus, total-zero, total-one}
use Rattle.master_laws.proofs.Totals.{total-scale}
use Rattle.search_terms.specs.declared.TheConstants.{RIGHT}

abbrev pub spike : ℕ → ℤ → ℕ → ℤ
spike b a j = cond (eqb b j) a (pos 0)

pub spike-same : (b : ℕ) (a : ℤ) → spike b a b ≡ a
spike-same b a = by_case (eqb_tells b b)
  where
    by_case : ((eqb b b ≡ true) × (b ≡ b)) ⊎ ((eqb b b ≡ false) × (b ≢ b)) → spike b a b ≡ a
    by_case (inl e) = rw e.0 refl
    by_case (inr e) = absurd (e.1 refl)

pub spike-other : (b : ℕ) (a : ℤ) (j : ℕ) → j ≢ b → spike b a j ≡ pos 0
spike-other b a j ne = by_case (eqb_tells b j)
  where
    by_case : ((eqb b j ≡ true) × (b ≡ j)) ⊎ ((eqb b j ≡ false) × (b ≢ j)) → spike b a j ≡ pos 0
    by_case (inl e) = absurd (ne (sym e.1))
    by_case (inr e) = rw e.0 refl

pub product_spike : (row : Row) (b : ℕ) (a : ℤ) → b < length row → product row (spike b a) ≡ number row b *ℤ a
product_spike row b a below =
    total-one (length row) (λ j. number row j *ℤ spike b a j) b below
    (λ j _ ne. ap (λ z. number row j *ℤ z) (spike-other b a j ne) ∙ *ℤ-zero (number row j))
    ∙ ap (λ z. number row b *ℤ z) (spike-same b a)

pub product_plus : (row : Row) (x y : ℕ → ℤ) → product row (λ j. x j +ℤ y j) ≡ product row x +ℤ product row y
product_plus row x y =
    total-same (length row) (λ j. number row j *ℤ (x j +ℤ y j)) (λ j. (number row j *ℤ x j) +ℤ (number row j *ℤ y j))
    (λ j _. scale_sum (number row j) (x j) (y j))
    ∙ total-plus (length row) (λ j. number row j *ℤ x j) (λ j. number row j *ℤ y j)

pub product_scaled : (row : Row) (s : ℤ) (x : ℕ → ℤ) → product row (λ j. s *ℤ x j) ≡ s *ℤ product row x
product_scaled row s x =
    total-same (length row) (λ j. number row j *ℤ (s *ℤ x j)) (λ j. s *ℤ (number row j *ℤ x j))
    (λ j _. swap (number row j) s (x j))
    ∙ sym (total-scale (length row) s (λ j. number row j *ℤ x j))

-- the vector that has a h at the place b h
abbrev pub spread_at : ℕ → (ℕ → ℕ) → (ℕ → ℤ) → ℕ → ℤ
spread_at n b a j = total n (λ h. spike (b h) (a h) j)

pub product_spread : (row : Row) (n : ℕ) (b : ℕ → ℕ) (a : ℕ → ℤ) → ((h : ℕ) → h < n → b h < length row)
    → product row (spread_at n b a) ≡ total n (λ h. number row (b h) *ℤ a h)
product_spread row zero b a known = total-zero (length row) (λ j. number row j *ℤ pos 0) (λ j _. *ℤ-zero (number row j))
product_spread row (suc n) b a known =
    let e = product_plus row (spread_at n b a) (spike (b n) (a n)) in
    let f = product_spread row n b a (λ h below. known h (omega arith)) in
    let g = product_spike row (b n) (a n) (known n (omega arith)) in
    omega (arith, ints)

pub product_last : (row : Row) (e : ℤ) (x : ℕ → ℤ) → product (row ++ e ∷ []) x ≡ product row x +ℤ (e *ℤ x (length row))
product_last row e x =
    let f : ℕ → ℤ = λ j. number (row ++ e ∷ []) j *ℤ x j in
    let a : length (row ++ e ∷ []) ≡ suc (length row) = length-append row (e ∷ []) ∙ omega arith in
    let b = ap (λ k. total k f) a in
    let c = total-same (length row) f (λ j. number row j *ℤ x j)
    (λ j below. ap (λ z. z *ℤ x j) (get_or_append_left row (e ∷ []) (pos 0) j below)) in
    let d = ap (λ z. z *ℤ x (length row)) (get_or-append_seam row e [] (pos 0)) in
    omega (arith, ints)

-- the share of the route, as unused shares, shortages, missed parts and value
abbrev pub stand_in : Limits → Route → ℕ → ℤ
stand_in n r = spread_at (length (openers (places n))) (λ h. get_or (opening_basis (places n)) h 0) (λ h. route_number (places n) r (opener (places n) h))

abbrev pub folded : Limits → Route → ℕ → (ℕ → ℤ) → ℕ → ℤ
folded n r w x j = x j +ℤ (x w *ℤ stand_in n r j)

-- the opening rows' variables are among the first w
pub record AreWithin (n : Limits) (w : ℕ) : Type 0 where
  pub each : (h : ℕ) → h < length (openers (places n)) → get_or (opening_basis (places n)) h 0 < w

pub product_entered : (n : Limits) (r : Route) (row : Row) (w : ℕ) (x : ℕ → ℤ) → AreWithin n w → length row ≡ w
    → product (row ++ entry (places n) r row ∷ []) x ≡ product row (folded n r w x)
product_entered n r row w x known e =
    let u = stand_in n r in
    let a = product_last row (entry (places n) r row) x in
    let b = product_plus row x (λ j. x w *ℤ u j) in
    let c = product_scaled row (x w) u in
    let d = product_spread row (length (openers (places n))) (λ h. get_or (opening_basis (places n)) h 0) (λ h. route_number (places n) r (opener (places n) h))
    (λ h below. subst (λ k. get_or (opening_basis (places n)) h 0 < k) (sym e) (known.each h below)) in
    let f = ap (λ z. x w *ℤ z) d in
    let g = *ℤ_comm (x w) (entry (places n) r row) in
    let h = ap (λ k. entry (places n) r row *ℤ x k) e in
    cc

pub count_entered : (n : Limits) (r : Route) (t : Rows) → length (entered (places n) r t).rows ≡ length t.rows
count_entered n r t = length-map t.rows (λ row. row ++ entry (places n) r row ∷ [])

pub row_entered : (n : Limits) (r : Route) (t : Rows) (h : ℕ) → h < length t.rows → row_of (entered (places n) r t) h ≡ row_of t h ++ entry (places n) r (row_of t h) ∷ []
row_entered n r t h below = get_or-map (λ row. row ++ entry (places n) r row ∷ []) t.rows h [] [] below

pub number_entered : (n : Limits) (r : Route) (t : Rows) (h j : ℕ) → h < length t.rows → j < length (row_of t h)
    → number (row_of (entered (places n) r t) h) j ≡ number (row_of t h) j
number_entered n r t h j below known =
    ap (λ row. number row j) (row_entered n r t h below) ∙ get_or_append_left (row_of t h) (entry (places n) r (row_of t h) ∷ []) (pos 0) j known

pub length_entered : (n : Limits) (r : Route) (t : Rows) (h : ℕ) → h < length t.rows → length (row_of (entered (places n) r t) h) ≡ suc (length (row_of t h))
length_entered n r t h below =
    ap length (row_entered n r t h below) ∙ length-append (row_of t h) (entry (places n) r (row_of t h) ∷ []) ∙ omega arith

pub last_entered : (n : Limits) (r : Route) (t : Rows) → last (entered (places n) r t) ≡ last t
last_entered n r t = ap (λ k. k - 1) (count_entered n r t)

pub width_entered : (n : Limits) (r : Route) (t : Rows) → 0 < length t.rows → width (entered (places n) r t) ≡ suc (width t)
width_entered n r t some =
    ap (λ k. length (row_of (entered (places n) r t) k)) (last_entered n r t) ∙ length_entered n r t (last t) (omega arith)

pub basic_entered : (n : Limits) (r : Route) (t : Rows) → AreBasic t → AreBasic (entered (places n) r t)
basic_entered n r t b =
    let count = count_entered n r t in
    let end = last_entered n r t in
    let wide = width_entered n r t b.some in
    record {
      some = omega (arith, b.some);
      count = b.count ∙ sym count;
      widths = λ h below.
          let in' : h < length t.rows = omega arith in
          length_entered n r t h in' ∙ ap suc (b.widths h in') ∙ sym wide;
      known = λ h below. let in' : h < length t.rows = omega arith in omega (arith, b.known h in');
      value = ap (basic_of t) end ∙ b.value;
      others = λ h below. let in' : h < last t = omega arith in b.others h in';
      positive = λ h below.
          let in' : h < length t.rows = omega arith in
          rw (number_entered n r t h (basic_of t h) in' (omega (arith, b.known h in', b.widths h in'))) (b.positive h in');
      alone = λ h i one other ne.
          let in_h : h < length t.rows = omega arith in
          let in_i : i < length t.rows = omega arith in
          number_entered n r t i (basic_of t h) in_i (omega (arith, b.known h in_h, b.widths i in_i)) ∙ b.alone h i in_h in_i ne;
    }

pub feasible_entered : (n : Limits) (r : Route) (t : Rows) → AreFeasible t → AreFeasible (entered (places n) r t)
feasible_entered n r t f =
    let b = f.basic in
    let end = last_entered n r t in
    record {
      basic = basic_entered n r t b;
      rights = λ h below.
          let before : h < last t = omega arith in
          let in' : h < length t.rows = omega arith in
          rw (number_entered n r t h RIGHT in' (omega (arith, b.widths h in', b.known h in'))) (f.rights h before);
    }

-- a vector solves the rows with the route exactly where the folded one solves the rows without
pub solves_folded : (n : Limits) (r : Route) (t : Rows) (w : ℕ) (x : ℕ → ℤ) → AreWithin n w → AreBasic t → width t ≡ w
    → IsSolution (entered (places n) r t) x → IsSolution t (folded n r w x)
solves_folded n r t w x known b e s h below =
    let f = product_entered n r (row_of t h) w x known (b.widths h below ∙ e) in
    let g = ap (λ row. product row x) (row_entered n r t h below) in
    let there : h < length (entered (places n) r t).rows = omega (arith, count_entered n r t) in
    sym f ∙ sym g ∙ s h there

pub solves_unfolded : (n : Limits) (r : Route) (t : Rows) (w : ℕ) (x : ℕ → ℤ) → AreWithin n w → AreBasic t → width t ≡ w
    → IsSolution t (folded n r w x) → IsSolution (entered (places n) r t) x
solves_unfolded n r t w x known b e s h below =
    let in' : h < length t.rows = omega (arith, count_entered n r t) in
    let f = product_entered n r (row_of t h) w x known (b.widths h in' ∙ e) in
    let g = ap (λ row. product row x) (row_entered n r t h in') in
    g ∙ f ∙ s h in'
