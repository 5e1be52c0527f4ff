-- laws of the opening rows' places
use Rattle.std.proofs.Common.{◌≡◌, ◌<◌, ◌-◌, ◌++◌, ◌∷◌, [], ◌∙◌, ℕ, zero, suc, List, ap, arith, length, get_or, map, length-append}
use Rattle.std.proofs.lemmas.List.{length-map, get_or-map}
use Rattle.crew_terms.specs.Limits.{Limits}
use Rattle.search_terms.specs.declared.Place.{Place}
use Rattle.search_terms.specs.declared.Place.TheVariants.{Unassigned, Value}
use Rattle.search_terms.specs.declared.TheConstants.{VALUE}
use Rattle.search_terms.specs.Opening.{basics, openers, opening, opening_number, place_at, places}
use Rattle.search_terms.specs.Rows.{width}

-- the opening rows have a number for each place
pub wide_opening : (n : Limits) → width (opening n) ≡ length (places n)
wide_opening n =
    let f = λ (b : Place). map (opening_number n b) (places n) in
    let l = length-map (openers (places n)) f in
    let lt : length (opening n).rows - 1 < length (openers (places n)) = last_in (openers (places n)) (length (opening n).rows) l (openers_some n) in
    ap length (get_or-map f (openers (places n)) (length (opening n).rows - 1) Value [] lt) ∙ length-map (places n) (opening_number n (get_or (openers (places n)) (length (opening n).rows - 1) Value))
  where
    last_in : (ps : List Place) (k : ℕ) → k ≡ length ps → 0 < length ps → k - 1 < length ps
    last_in ps k e some = omega arith

    openers_some : (n : Limits) → 0 < length (openers (places n))
    openers_some n = behind (basics (places n))
      where
        behind : (ps : List Place) → 0 < length (ps ++ Value ∷ [])
        behind ps = omega (arith, length-append ps (Value ∷ []))

-- the places of tasks stand behind that of the value
pub above_of : (n : Limits) (i j : ℕ) → place_at (places n) i ≡ Unassigned j → VALUE < i
above_of n zero j e = absurd (cc)
above_of n (suc zero) j e = absurd (cc)
above_of n (suc (suc i)) j e = omega arith
