-- a step of the numbers of a route; and what the widened rows are
use Rattle.std.proofs.Common.{◌≡◌, ◌<◌, ◌+◌, ◌++◌, ◌∷◌, [], ℕ, ℤ, ◌+ℤ◌, ◌*ℤ◌, suc, List, true, false, cond, length, take, get_or, map, filter, ap, sym, arith, ◌∙◌, append-nil, length-append}
use Rattle.std.proofs.Math.Seq.{get_or-append_seam}
use Rattle.std.proofs.lemmas.List.{map-append, get_or_append_left}
use Rattle.std.proofs.lemmas.List.Elements.{filter_more}
use Rattle.crew_terms.specs.Total.{total}
use Rattle.search_terms.specs.declared.Place.{Place}
use Rattle.search_terms.specs.declared.Place.TheVariants.{Right, Value}
use Rattle.search_terms.specs.Opening.{cost, cost_sum, opens, places_where, visit_number}
use Rattle.crew_terms.specs.Limits.{Route}
use Rattle.crew_terms.specs.Totals.{total-same}
use Rattle.frac_master.proofs.Walked.{where_more}

abbrev sum_at : (Place → ℤ) → List Place → ℤ
sum_at a l = total (length l) (λ h. cost (get_or l h Value) *ℤ a (get_or l h Value))

sum_at-push : (a : Place → ℤ) (l : List Place) (p : Place) → sum_at a (l ++ p ∷ []) ≡ sum_at a l +ℤ (cost p *ℤ a p)
sum_at-push a l p =
    let f : Place → ℤ = λ q. cost q *ℤ a q in
    let e : length (l ++ p ∷ []) ≡ suc (length l) = length-append l (p ∷ []) ∙ omega arith in
    let g = ap (λ k. total k (λ h. f (get_or (l ++ p ∷ []) h Value))) e in
    let h = total-same (length l) (λ h. f (get_or (l ++ p ∷ []) h Value)) (λ h. f (get_or l h Value)) (λ h lt. ap f (get_or_append_left l (p ∷ []) Value h lt)) in
    let i = ap f (get_or-append_seam l p [] Value) in
    g ∙ ap (λ z. z +ℤ f (get_or (l ++ p ∷ []) (length l) Value)) h ∙ ap (λ z. sum_at a l +ℤ z) i

pub record IsStep (ps : List Place) (r : Route) (at : List ℕ) (numbers : List ℤ) (sum : ℤ) : Type 0 where
  pub basis : at ≡ places_where opens 0 ps
  pub each : numbers ≡ map (visit_number r) (filter opens ps)
  pub value : sum ≡ cost_sum ps (visit_number r)

pub step_more : (all : List Place) (r : Route) (i : ℕ) (at : List ℕ) (numbers : List ℤ) (sum c v : ℤ) → i < length all → opens (get_or all i Right) ≡ true
    → at ≡ places_where opens 0 (take i all) → numbers ≡ map (visit_number r) (filter opens (take i all)) → sum ≡ cost_sum (take i all) (visit_number r)
    → c ≡ cost (get_or all i Right) → v ≡ visit_number r (get_or all i Right)
    → IsStep (take (i + 1) all) r (at ++ i ∷ []) (numbers ++ v ∷ []) (sum +ℤ (c *ℤ v))
step_more all r i at numbers sum c v below yes' basis each value ec ev =
    let p = get_or all i Right in
    let a = visit_number r in
    let f = filter_more opens all i Right below ∙ ap (λ b. filter opens (take i all) ++ cond b (p ∷ []) []) yes' in
    let w = where_more opens 0 all i Right below ∙ ap (λ b. places_where opens 0 (take i all) ++ cond b ((0 + i) ∷ []) []) yes' in
    let z : 0 + i ≡ i = omega arith in
    record {
      basis = ap (λ l. l ++ i ∷ []) basis ∙ ap (λ k. places_where opens 0 (take i all) ++ k ∷ []) (sym z) ∙ sym w;
      each = ap (λ l. l ++ v ∷ []) each ∙ ap (λ y. map a (filter opens (take i all)) ++ y ∷ []) ev
          ∙ sym (map-append a (filter opens (take i all)) (p ∷ [])) ∙ ap (map a) (sym f);
      value = ap (λ y. y +ℤ (c *ℤ v)) value ∙ ap (λ y. cost_sum (take i all) a +ℤ (y *ℤ v)) ec ∙ ap (λ y. cost_sum (take i all) a +ℤ (cost p *ℤ y)) ev
          ∙ sym (sum_at-push a (filter opens (take i all)) p) ∙ ap (sum_at a) (sym f);
    }

pub step_skip : (all : List Place) (r : Route) (i : ℕ) (at : List ℕ) (numbers : List ℤ) (sum : ℤ) → i < length all → opens (get_or all i Right) ≡ false
    → at ≡ places_where opens 0 (take i all) → numbers ≡ map (visit_number r) (filter opens (take i all)) → sum ≡ cost_sum (take i all) (visit_number r)
    → IsStep (take (i + 1) all) r at numbers sum
step_skip all r i at numbers sum below no' basis each value =
    let p = get_or all i Right in
    let f = filter_more opens all i Right below ∙ ap (λ b. filter opens (take i all) ++ cond b (p ∷ []) []) no' ∙ append-nil (filter opens (take i all)) in
    let w = where_more opens 0 all i Right below ∙ ap (λ b. places_where opens 0 (take i all) ++ cond b ((0 + i) ∷ []) []) no' ∙ append-nil (places_where opens 0 (take i all)) in
    record { basis = basis ∙ sym w; each = each ∙ ap (map (visit_number r)) (sym f); value = value ∙ ap (sum_at (visit_number r)) (sym f) }
