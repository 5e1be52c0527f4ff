-- where the basic variables of the opening rows stand
use Rattle.std.proofs.Common.{◌≡◌, ◌≤◌, ◌<◌, ◌-◌, ◌+◌, ℕ, suc, zero, List, [], ◌∷◌, ◌++◌, length, get_or, refl, ap, sym, arith, ◌∙◌, length-append, Bool, true, false, cond, map, filter}
use Rattle.std.specs.Prelude.{pos, ◌-ℤ◌}
use Rattle.std.proofs.Math.Seq.{get_or-append_seam}
use Rattle.std.proofs.lemmas.List.{get_or_append_left, get_or-map, length-map}
use Rattle.crew_terms.specs.Limits.{Limits}
use Rattle.search_terms.specs.declared.Place.{Place}
use Rattle.search_terms.specs.declared.Place.TheVariants.{Right, Value, Unused, Unassigned, Shortage, Excess, Missed, Repeated}
use Rattle.search_terms.specs.Rows.{number, row_of}
use Rattle.search_terms.specs.Opening.{variables, cost, cost_sum, places, basics, openers, opener, basic_at, place_at, opens, places_where, opening_basis, opening, opening_number, basic_number}
use Rattle.search_terms.specs.declared.TheConstants.{VALUE}

-- c stands at the place j of the list, whose first place is at
pub record IsPosition (ps : List Place) (at j : ℕ) (c : Place) : Type 0 where
  pub low : at ≤ j
  pub high : j < at + length ps
  pub is : get_or ps (j - at) Right ≡ c
  pub passes : opens c ≡ true

later : (p : Place) (ps : List Place) (at j : ℕ) (c : Place) → IsPosition ps (suc at) j c → IsPosition (p ∷ ps) at j c
later p ps at j c h =
    let low : suc at ≤ j = h.low in
    let e : j - at ≡ suc (j - suc at) = omega arith in
    record { low = omega arith; high = omega (arith, h.high); is = ap (λ k. get_or (p ∷ ps) k Right) e ∙ h.is; passes = h.passes }

abbrev Positions : ℕ → List Place → List ℕ → List Place → Type 0
Positions at ps js cs = (h : ℕ) → h < length cs → IsPosition ps at (get_or js h 0) (get_or cs h Value)

positions : (ps : List Place) (at : ℕ) → Positions at ps (places_where opens at ps) (filter opens ps)
positions [] at h below = absurd (omega arith)
positions (p ∷ ps) at h below = by_test (opens p) refl (positions ps (suc at)) h below
  where
    by_test : (b : Bool) → opens p ≡ b → Positions (suc at) ps (places_where opens (suc at) ps) (filter opens ps)
        → Positions at (p ∷ ps) (cond b (at ∷ places_where opens (suc at) ps) (places_where opens (suc at) ps)) (cond b (p ∷ filter opens ps) (filter opens ps))
    by_test true e again zero below =
        record { low = omega arith; high = omega arith; is = ap (λ k. get_or (p ∷ ps) k Right) (let e : at - at ≡ 0 = omega arith in e); passes = e }
    by_test true e again (suc h) below = later p ps at _ _ (again h (omega arith))
    by_test false e again h below = later p ps at _ _ (again h below)

same_count : (ps : List Place) (at : ℕ) → length (places_where opens at ps) ≡ length (filter opens ps)
same_count [] at = refl
same_count (p ∷ ps) at = by_test (opens p) (same_count ps (suc at))
  where
    by_test : (b : Bool) → length (places_where opens (suc at) ps) ≡ length (filter opens ps)
        → length (cond b (at ∷ places_where opens (suc at) ps) (places_where opens (suc at) ps)) ≡ length (cond b (p ∷ filter opens ps) (filter opens ps))
    by_test true e = ap suc e
    by_test false e = e

abbrev pub count : Limits → ℕ
count n = length (basics (places n))

pub openers_count : (n : Limits) → length (openers (places n)) ≡ suc (count n)
openers_count n = length-append (basics (places n)) (Value ∷ []) ∙ omega arith

pub opener_basic : (n : Limits) (h : ℕ) → h < count n → opener (places n) h ≡ basic_at (places n) h
opener_basic n h below = get_or_append_left (basics (places n)) (Value ∷ []) Value h below

pub opener_last : (n : Limits) → opener (places n) (count n) ≡ Value
opener_last n = get_or-append_seam (basics (places n)) Value [] Value

-- a basic place, and its variable
pub record IsBasicAt (n : Limits) (h : ℕ) : Type 0 where
  pub above : VALUE < get_or (opening_basis (places n)) h 0
  pub known : get_or (opening_basis (places n)) h 0 < length (places n)
  pub is : place_at (places n) (get_or (opening_basis (places n)) h 0) ≡ basic_at (places n) h
  pub passes : opens (basic_at (places n) h) ≡ true

pub basic_position : (n : Limits) (h : ℕ) → h < count n → IsBasicAt n h
basic_position n h below =
    let js = places_where opens 2 (variables n) in
    let p = positions (variables n) 2 h below in
    let j = get_or js h 0 in
    let e : get_or (opening_basis (places n)) h 0 ≡ j = get_or_append_left js (1 ∷ []) 0 h (omega (arith, same_count (variables n) 2)) in
    let low : 2 ≤ j = p.low in
    let f : j ≡ suc (suc (j - 2)) = omega arith in
    let two : length (places n) ≡ 2 + length (variables n) = omega arith in
    record {
      above = omega (arith, p.low);
      known = omega (arith, p.high);
      is = ap (place_at (places n)) (e ∙ f) ∙ p.is;
      passes = p.passes;
    }

pub last_position : (n : Limits) → get_or (opening_basis (places n)) (count n) 0 ≡ VALUE
last_position n =
    let js = places_where opens 2 (variables n) in
    ap (λ k. get_or (js ++ 1 ∷ []) k 0) (sym (same_count (variables n) 2)) ∙ get_or-append_seam js 1 [] 0

pub rows_count : (n : Limits) → length (opening n).rows ≡ suc (count n)
rows_count n = length-map (openers (places n)) (λ b. map (opening_number n b) (places n)) ∙ openers_count n

pub basis_count : (n : Limits) → length (opening n).basis ≡ suc (count n)
basis_count n = length-append (places_where opens 2 (variables n)) (1 ∷ []) ∙ omega (arith, same_count (variables n) 2)

pub opening_row : (n : Limits) (h : ℕ) → h < suc (count n) → row_of (opening n) h ≡ map (opening_number n (opener (places n) h)) (places n)
opening_row n h below = get_or-map (λ b. map (opening_number n b) (places n)) (openers (places n)) h Value [] (omega (arith, openers_count n))

pub opening_width : (n : Limits) (h : ℕ) → h < suc (count n) → length (row_of (opening n) h) ≡ length (places n)
opening_width n h below = ap length (opening_row n h below) ∙ length-map (places n) (opening_number n (opener (places n) h))

pub opening_at : (n : Limits) (h j : ℕ) → h < suc (count n) → j < length (places n) → number (row_of (opening n) h) j ≡ opening_number n (opener (places n) h) (place_at (places n) j)
opening_at n h j below known = ap (λ row. number row j) (opening_row n h below) ∙ get_or-map (opening_number n (opener (places n) h)) (places n) j Right (pos 0) known

-- a row that opens with a basic variable has the numbers of its team, task or pair
pub basic_row : (n : Limits) (b p : Place) → opens b ≡ true → opening_number n b p ≡ basic_number n b p
basic_row n Value p e = absurd (cc)
basic_row n Right p e = refl
basic_row n (Unused k) p e = refl
basic_row n (Unassigned k) p e = refl
basic_row n (Shortage k) p e = refl
basic_row n (Excess k) p e = refl
basic_row n (Missed k j) p e = refl
basic_row n (Repeated k j) p e = refl

pub basic_at_number : (n : Limits) (h j : ℕ) → h < count n → j < length (places n) → number (row_of (opening n) h) j ≡ basic_number n (basic_at (places n) h) (place_at (places n) j)
basic_at_number n h j below known =
    opening_at n h j (omega arith) known ∙ ap (λ b. opening_number n b (place_at (places n) j)) (opener_basic n h below)
    ∙ basic_row n (basic_at (places n) h) (place_at (places n) j) (basic_position n h below).passes

pub last_number : (n : Limits) (j : ℕ) → j < length (places n)
    → number (row_of (opening n) (count n)) j ≡ cost_sum (places n) (λ b. basic_number n b (place_at (places n) j)) -ℤ cost (place_at (places n) j)
last_number n j known = opening_at n (count n) j (omega arith) known ∙ ap (λ b. opening_number n b (place_at (places n) j)) (opener_last n)
