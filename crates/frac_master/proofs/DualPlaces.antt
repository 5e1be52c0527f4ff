-- the place of a variable that opens a row, and the dual number of that row
use Rattle.std.proofs.Common.{◌≡◌, ◌<◌, ◌+◌, ◌-◌, ◌∷◌, [], ℕ, ℤ, pos, ◌+ℤ◌, ◌*ℤ◌, suc, zero, List, Bool, true, false, cond, length, get_or, filter, ap, sym, subst, arith, ◌∙◌, length-append, inl, inr, ◌⊎◌}
use Rattle.std.specs.Prelude.{None, Ok, Err, Result, MatchOption, MatchResult, IfErr, ◌<ℤ◌}
use Rattle.std.proofs.lemmas.Int.{ints}
use Rattle.std.proofs.Math.IntN.{*ℤ_comm}
use Rattle.std.proofs.lemmas.List.{get_or_append_left}
use Rattle.crew_num.specs.declared.Op.TheVariants.{Add, Mul}
use Rattle.crew_num.specs.declared.Overflow.{Overflow}
use Rattle.crew_num.specs.Exact.{IsOverflow, fault}
use Rattle.search_terms.specs.declared.Place.{Place}
use Rattle.search_terms.specs.declared.Place.TheVariants.{Right, Value}
use Rattle.search_terms.specs.Rows.{Row, Rows, number, value_row, AreBasic}
use Rattle.search_terms.specs.Duals.{IsUpTo}
use Rattle.std.specs.Prelude.{Contains, IfOk}
use Rattle.std.proofs.lemmas.List.{get_or_default}
use Rattle.search_terms.specs.declared.TheConstants.{VALUE}
use Rattle.search_terms.specs.Opening.{basics, cost, opener, openers, opening_basis, opens, place_at, places, places_where, times, dual, OpensWith}
use Rattle.share_terms.specs.declared.TheConstants.{BIG_M}
use Rattle.search_terms.specs.Overflows.{IsOfPrice, OverflowAt}
use Rattle.search_terms.specs.Overflows.OverflowAt.{InPrice}
use Rattle.search_terms.specs.Overflows.IsOfPrice.{Scaled as PriceScaled, Raised as PriceRaised}
use Rattle.search_terms.specs.Pivot.{IsOptimal}
use Rattle.crew_terms.specs.Limits.{Limits, Route}
use Rattle.frac_master.specs.State.{MasterState}
use Rattle.frac_master.specs.Prices.{GivesDual, IsDualOf, IsDualFault, IsRaised}
use Rattle.frac_master.specs.Prices.IsDualFault.{Scaled, Raised}
use Rattle.frac_master.proofs.NewColumn.{where_count}

-- the row h opens with the place j of the list, whose first place is at
record IsPosition (at : ℕ) (ps : List Place) (j : ℕ) : Type 0 where
  h : ℕ
  known : h < length (filter opens ps)
  place : get_or (places_where opens at ps) h 0 ≡ at + j
  is : get_or (filter opens ps) h Value ≡ get_or ps j Right

position : (at : ℕ) (ps : List Place) (j : ℕ) → j < length ps → opens (get_or ps j Right) ≡ true → IsPosition at ps j
position at [] j lt e = absurd (omega arith)
position at (p ∷ ps) zero lt e =
    let f = ap (λ b. cond b (at ∷ places_where opens (suc at) ps) (places_where opens (suc at) ps)) e in
    let g = ap (λ b. cond b (p ∷ filter opens ps) (filter opens ps)) e in
    record {
      h = 0;
      known = let l = ap length g in omega (arith, l);
      place = ap (λ l. get_or l 0 0) f ∙ (let z : at ≡ at + 0 = omega arith in z);
      is = ap (λ l. get_or l 0 Value) g;
    }
position at (p ∷ ps) (suc j) lt e =
    let q = by_test (opens p) (position (suc at) ps j (omega arith) e) in
    record { h = q.0; known = q.1; place = q.2; is = q.3 }
  where
    shift : suc at + j ≡ at + suc j
    shift = omega arith

    by_test : (b : Bool) → IsPosition (suc at) ps j
        → (h : ℕ) × (h < length (cond b (p ∷ filter opens ps) (filter opens ps)))
        × (get_or (cond b (at ∷ places_where opens (suc at) ps) (places_where opens (suc at) ps)) h 0 ≡ at + suc j)
        × (get_or (cond b (p ∷ filter opens ps) (filter opens ps)) h Value ≡ get_or ps j Right)
    by_test true q = (suc q.h, omega (arith, q.known), q.place ∙ shift, q.is)
    by_test false q = (q.h, q.known, q.place ∙ shift, q.is)

-- the row of a place that opens one
pub record IsRowOf (ps : List Place) (j : ℕ) : Type 0 where
  pub h : ℕ
  pub known : h < length (openers ps)
  pub place : get_or (opening_basis ps) h 0 ≡ j
  pub is : opener ps h ≡ place_at ps j

pub row_of_place : (ps : List Place) (j : ℕ) → j < length ps → opens (place_at ps j) ≡ true → IsRowOf ps j
row_of_place ps j lt e =
    let q = position 0 ps j lt e in
    let z : 0 + j ≡ j = omega arith in
    let known = q.known in
    record {
      h = q.h;
      known = let l = length-append (basics ps) (Value ∷ []) in omega arith;
      place = get_or_append_left (places_where opens 0 ps) (1 ∷ []) 0 q.h (let w = where_count 0 ps in omega arith) ∙ q.place ∙ z;
      is = get_or_append_left (basics ps) (Value ∷ []) Value q.h q.known ∙ q.is;
    }

-- two opening rows open with different variables
abbrev pub OpenersDiffer : Type 0
OpenersDiffer = (n : Limits) (h i : ℕ) (p : Place) → OpensWith n h p → OpensWith n i p → h ≡ i

-- the number at place j, where p stands, is that of the row which opens with p
times_is : OpenersDiffer → (ps : List Place) (p : Place) (j : ℕ) (value : Row) (n : Limits) (h : ℕ) → j < length ps → place_at ps j ≡ p → opens p ≡ true → ps ≡ places n → OpensWith n h p
    → number value j ≡ times (places n) value h
times_is differ ps p j value n h lt e o s w =
    let r = row_of_place ps j lt (ap opens e ∙ o) in
    let d : OpensWith n r.h p = record { known = subst (λ qs. r.h < length (openers qs)) s r.known; is = ap (λ qs. opener qs r.h) (sym s) ∙ r.is ∙ e } in
    let same = differ n r.h h p d w in
    ap (number value) (sym r.place) ∙ ap (λ qs. times qs value r.h) s ∙ ap (times (places n) value) same

raised_dual : OpenersDiffer → (m : MasterState) (p : Place) (j : ℕ) (num den : ℤ) → j < length m.places → place_at m.places j ≡ p → opens p ≡ true → cost p ≡ pos BIG_M
    → pos 0 <ℤ number (value_row m.rows) VALUE
    → num ≡ (pos BIG_M *ℤ number (value_row m.rows) VALUE) +ℤ number (value_row m.rows) j → den ≡ number (value_row m.rows) VALUE → IsDualOf m p num den
raised_dual differ m p j num den lt e o k up is whole = record {
  is = λ n h s w.
      let v = value_row m.rows in
      let a = times_is differ m.places p j v n h lt e o s w in
      let b = ap (λ q. number v VALUE *ℤ cost q) w.is ∙ ap (λ z. number v VALUE *ℤ z) k in
      let c = *ℤ_comm (number v VALUE) (pos BIG_M) in
      is ∙ omega (arith, ints);
  whole = whole;
  positive = subst (λ z. pos 0 <ℤ z) (sym whole) up;
}

raised_fault : OpenersDiffer → (m : MasterState) (p : Place) (j : ℕ) (f : Overflow) → j < length m.places → place_at m.places j ≡ p → opens p ≡ true → IsOverflow f
    → (f ≡ fault Mul (pos BIG_M) (number (value_row m.rows) VALUE)) ⊎ (f ≡ fault Add (pos BIG_M *ℤ number (value_row m.rows) VALUE) (number (value_row m.rows) j)) → IsDualFault m p f
raised_fault differ m p j f lt e o leaves (inl is) = Scaled leaves is
raised_fault differ m p j f lt e o leaves (inr is) =
    Raised leaves (λ n h s w. is ∙ ap (fault Add (pos BIG_M *ℤ number (value_row m.rows) VALUE)) (times_is differ m.places p j (value_row m.rows) n h lt e o s w))

pub gives_dual : OpenersDiffer → (m : MasterState) (p : Place) (j : ℕ) (r : Result (ℤ × ℤ) Overflow) → m.ended ≡ None → j < length m.places → place_at m.places j ≡ p → opens p ≡ true → cost p ≡ pos BIG_M
    → pos 0 <ℤ number (value_row m.rows) VALUE → IsRaised (number (value_row m.rows) VALUE) (number (value_row m.rows) j) r → GivesDual m p r
gives_dual differ m p j r none lt e o k up h = subst (λ q. MatchOption q (MatchResult r (λ z. IsDualOf m p z.0 z.1) (IsDualFault m p)) (λ f. r ≡ Err f)) (sym none) (by_case r h)
  where
    by_case : (r : Result (ℤ × ℤ) Overflow) → IsRaised (number (value_row m.rows) VALUE) (number (value_row m.rows) j) r → MatchResult r (λ z. IsDualOf m p z.0 z.1) (IsDualFault m p)
    by_case (Ok z) q = raised_dual differ m p j z.0 z.1 lt e o k up q.0 q.1
    by_case (Err f) q = raised_fault differ m p j f lt e o q.0 q.1

-- such a fault belongs to the rows, where no variable has a negative reduced cost
pub belongs : (m : MasterState) (n : Limits) (p : Place) (j : ℕ) (r : Result (ℤ × ℤ) Overflow) → j < length m.places → place_at m.places j ≡ p → opens p ≡ true → cost p ≡ pos BIG_M
    → m.places ≡ places n → IsOptimal m.rows → IsRaised (number (value_row m.rows) VALUE) (number (value_row m.rows) j) r → IfErr r (λ f. (coming : List Route) → OverflowAt n m.rows coming f)
belongs m n p j (Ok z) lt e o k s done q = tt
belongs m n p j (Err f) lt e o k s done q = λ coming. InPrice q.0 done (by_how q.1)
  where
    by_how : (f ≡ fault Mul (pos BIG_M) (number (value_row m.rows) VALUE)) ⊎ (f ≡ fault Add (pos BIG_M *ℤ number (value_row m.rows) VALUE) (number (value_row m.rows) j)) → IsOfPrice n m.rows f
    by_how (inl is) = PriceScaled is
    by_how (inr is) =
        let v = value_row m.rows in
        let w = row_of_place m.places j lt (ap opens e ∙ o) in
        let a = ap (number v) (sym w.place) ∙ ap (λ qs. times qs v w.h) s in
        PriceRaised w.h (subst (λ qs. w.h < length (openers qs)) s w.known) (ap (λ qs. cost (opener qs w.h)) (sym s) ∙ ap cost (w.is ∙ e) ∙ k)
        (is ∙ ap (fault Add (pos BIG_M *ℤ number v VALUE)) a)

pub value_positive : (t : Rows) → AreBasic t → pos 0 <ℤ number (value_row t) VALUE
value_positive t b =
    let end : length t.rows - 1 < length t.rows = omega (arith, b.some) in
    subst (λ k. pos 0 <ℤ number (value_row t) k) b.value (b.positive (length t.rows - 1) end)

-- what a dual number is, where prices are the duals
pub near : (m : MasterState) (n : Limits) (p : Place) (r : Result (ℤ × ℤ) Overflow) (z : ℤ) → m.ended ≡ None → m.places ≡ places n → Contains (places n) p → opens p ≡ true
    → ((h : ℕ) → OpensWith n h p → z ≡ dual (places n) (value_row m.rows) h) → IsUpTo (number (value_row m.rows) VALUE *ℤ pos BIG_M) z
    → GivesDual m p r → IfOk r (λ y. IsUpTo (y.1 *ℤ pos BIG_M) y.0)
near m n p r z none same c o is up g = by_case r (subst (λ q. MatchOption q (MatchResult r (λ y. IsDualOf m p y.0 y.1) (IsDualFault m p)) (λ f. r ≡ Err f)) none g)
  where
    by_case : (r : Result (ℤ × ℤ) Overflow) → MatchResult r (λ y. IsDualOf m p y.0 y.1) (IsDualFault m p) → IfOk r (λ y. IsUpTo (y.1 *ℤ pos BIG_M) y.0)
    by_case (Err f) q = tt
    by_case (Ok y) q =
        let at = get_or_default (places n) c.0 Right p c.1 ∙ c.2 in
        let w = row_of_place (places n) c.0 c.1 (ap opens at ∙ o) in
        let d : OpensWith n w.h p = record { known = w.known; is = w.is ∙ at } in
        let e = is w.h d ∙ sym (q.is n w.h same d) in
        subst (λ b. IsUpTo (b *ℤ pos BIG_M) y.0) (sym q.whole) (subst (IsUpTo (number (value_row m.rows) VALUE *ℤ pos BIG_M)) e up)
