-- the numbers of places
use Rattle.std.proofs.Common.{◌≡◌, ◌≢◌, ◌<◌, ◌↔◌, ℕ, Bool, true, false, List, Some, None, cond, length, take, length-take, get_or, slice_get, refl, ap, sym, ◌∙◌, subst, arith, nat_lt}
use Rattle.std.specs.Prelude.{All, Contains, bytes_eq, slice_index_or, unwrap_or}
use Rattle.std.specs.List.{list_any, position_or_len}
use Rattle.std.proofs.lemmas.Bool.{ltb-true, ltb-false}
use Rattle.std.proofs.lemmas.List.{get_or-take}
use Rattle.std.proofs.lemmas.List.Elements.{All-from_get_or, All-nil}
use Rattle.std.proofs.lemmas.List.Folds.{Any-from_list_any, list_any_at}
use Rattle.std.proofs.lemmas.List.Sums.{fails_before_first, passes_at_first}
use Rattle.std.proofs.lemmas.Option.{slice_get-get_or}
use Rattle.std.proofs.lemmas.Slice.Eq.{bytes_eq-Decides}
use Rattle.day_terms.specs.State.{DayState, has_place, place_number}
use Rattle.day_terms.specs.ByTest.{by_test}
use Rattle.day_terms.proofs.Named as named
use Rattle.day_terms.proofs.Times.{Bytes}

pub place_known : (s : DayState) (name : Bytes) → (has_place s name ≡ true) ↔ Contains s.places name
place_known s name =
    let k = named.known (λ (p : Bytes). p) s.places name in (
      (λ h. let a = k.0 h in (a.0, a.2, subst (λ p. slice_index_or s.places a.0 p ≡ p) a.4 a.3)),
      (λ c. k.1 (c.0, name, c.1, c.2, refl)),
    )

module _ (ps : List Bytes) (name : Bytes) where
  -- the first place with the name, or as many as there are
  abbrev at : ℕ
  at = position_or_len (bytes_eq name) ps

  abbrev number : Bool → ℕ
  number within = unwrap_or (cond within (Some at) None) 0

  none_past : nat_lt at (length ps) ≡ false → list_any (bytes_eq name) ps ≡ true → ⊥
  none_past past h =
      let a = Any-from_list_any (bytes_eq name) ps h in
      let b = ltb-false at (length ps) past in
      let w = a.2 in
      let f = fails_before_first (bytes_eq name) ps a.0 a.1 (omega arith) in
      let g : bytes_eq name (get_or ps a.0 a.1) ≡ true = ap (bytes_eq name) a.3 ∙ a.4 in
      let e : true ≡ false = sym g ∙ f in
      cc

  known_at : list_any (bytes_eq name) ps ≡ true → slice_get ps (number (nat_lt at (length ps))) ≡ Some name
  known_at h =
      by_test (nat_lt at (length ps))
      (λ t.
      let within = ltb-true at (length ps) t in
      ap (λ b. slice_get ps (number b)) t
      ∙ slice_get-get_or ps at name within
      ∙ ap Some (sym ((bytes_eq-Decides name (get_or ps at name)).0 (passes_at_first (bytes_eq name) ps name within))))
      (λ t. absurd (none_past t h))

  unknown_at : list_any (bytes_eq name) ps ≡ false → number (nat_lt at (length ps)) ≡ 0
  unknown_at h =
      by_test (nat_lt at (length ps))
      (λ t.
      let within = ltb-true at (length ps) t in
      let e : true ≡ false = sym (named_at within) ∙ h in
      absurd (cc))
      (λ t. ap number t)
    where
      named_at : at < length ps → list_any (bytes_eq name) ps ≡ true
      named_at within = list_any_at (bytes_eq name) ps at name within (passes_at_first (bytes_eq name) ps name within)

  -- it has another name
  abbrev IsOther : Bytes → Type 0
  IsOther p = p ≢ name

  other_before : (i : ℕ) → i < length (take at ps) → IsOther (get_or (take at ps) i name)
  other_before i within e =
      let l = length-take at ps in
      let below : i < at = omega arith in
      let f = fails_before_first (bytes_eq name) ps i name below in
      let g : get_or ps i name ≡ name = sym (get_or-take at ps i name below) ∙ e in
      let t = (bytes_eq-Decides name (get_or ps i name)).1 (sym g) in
      let u : true ≡ false = sym t ∙ f in
      cc

  first_at : All IsOther (take (number (nat_lt at (length ps))) ps)
  first_at =
      by_test (nat_lt at (length ps))
      (λ t. subst (λ b. All IsOther (take (number b) ps)) (sym t) (All-from_get_or IsOther (take at ps) name other_before))
      (λ t. subst (λ b. All IsOther (take (number b) ps)) (sym t) (All-nil IsOther))

pub known : (s : DayState) (name : Bytes) → has_place s name ≡ true → slice_get s.places (place_number s name) ≡ Some name
known s name = known_at s.places name

pub first : (s : DayState) (name : Bytes) → All (λ p. p ≢ name) (take (place_number s name) s.places)
first s name = first_at s.places name

pub unknown : (s : DayState) (name : Bytes) → has_place s name ≡ false → place_number s name ≡ 0
unknown s name = unknown_at s.places name
