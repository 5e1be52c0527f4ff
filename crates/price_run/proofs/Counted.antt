-- the visits of routes, counted by the prices that they earn
use Rattle.std.proofs.Common.{◌≡◌, ◌+◌, ◌<◌, ◌&&◌, eqb, ℕ, true, false, cond, List, [], ◌∷◌, ◌++◌, length, get_or, take, ap, sym, ◌∙◌, arith, count_by, ◌⊎◌, inl, inr}
use Rattle.std.specs.Prelude.{ℤ, pos, ◌+ℤ◌, ◌-ℤ◌, ◌*ℤ◌}
use Rattle.std.proofs.lemmas.Bool.{cases_Bool, and_from}
use Rattle.std.proofs.lemmas.List.Sums.{sum_by-append, count_by_more_yes, count_by_more_no}
use Rattle.crew_terms.specs.Instance.{Instance, task_of}
use Rattle.crew_terms.specs.declared.Visit.{Visit}
use Rattle.squeeze_terms.specs.MinutePrices.{price_place}
use Rattle.squeeze_terms.specs.Run.{cut_off, visits_priced}

-- one more place
pub count_more : (x p : ℕ) (ps : List ℕ) → count_by (λ q. eqb q x) (ps ++ p ∷ []) ≡ count_by (λ q. eqb q x) ps + cond (eqb p x) 1 0
count_more x p ps = sum_by-append (λ q. cond (eqb q x) 1 0) ps (p ∷ []) ∙ ap (λ m. count_by (λ q. eqb q x) ps + m) (bare (cond (eqb p x) 1 0))
  where
    bare : (m : ℕ) → 0 + m ≡ m
    bare m = omega arith

module _ (i : Instance) (j x : ℕ) (vs : List Visit) (index : ℕ) (d : Visit) (inside : index < length vs) where
  abbrev pub v : Visit
  v = get_or vs index d

  -- a visit to another task
  pub visit_no : eqb v.task j ≡ false → visits_priced i j x (take (index + 1) vs) ≡ visits_priced i j x (take index vs)
  visit_no e = count_by_more_no (λ (u : Visit). eqb u.task j && eqb (price_place (task_of i j) u.start) x) vs index d inside (ap (λ b. b && eqb (price_place (task_of i j) v.start) x) e)

  -- one to the task
  pub visit_yes : eqb v.task j ≡ true → visits_priced i j x (take (index + 1) vs) ≡ visits_priced i j x (take index vs) + cond (eqb (price_place (task_of i j) v.start) x) 1 0
  visit_yes e = by (cases_Bool (eqb (price_place (task_of i j) v.start) x))
    where
      by : (eqb (price_place (task_of i j) v.start) x ≡ true) ⊎ (eqb (price_place (task_of i j) v.start) x ≡ false)
          → visits_priced i j x (take (index + 1) vs) ≡ visits_priced i j x (take index vs) + cond (eqb (price_place (task_of i j) v.start) x) 1 0
      by (inl f) =
          count_by_more_yes (λ (u : Visit). eqb u.task j && eqb (price_place (task_of i j) u.start) x) vs index d inside (and_from (eqb v.task j) (eqb (price_place (task_of i j) v.start) x) e f)
          ∙ ap (λ b. visits_priced i j x (take index vs) + cond b 1 0) (sym f)
      by (inr f) =
          count_by_more_no (λ (u : Visit). eqb u.task j && eqb (price_place (task_of i j) u.start) x) vs index d inside (ap (λ b. b && eqb (price_place (task_of i j) v.start) x) e ∙ f)
          ∙ nothing ∙ ap (λ b. visits_priced i j x (take index vs) + cond b 1 0) (sym f)
        where
          nothing : visits_priced i j x (take index vs) ≡ visits_priced i j x (take index vs) + 0
          nothing = omega arith

-- the same numbers give the same price
pub same_moved : (a b : ℤ) (s t w v m n : ℕ) → a ≡ b → s ≡ t → w ≡ v → m ≡ n → cut_off (a +ℤ (pos s *ℤ (pos w -ℤ pos m))) ≡ cut_off (b +ℤ (pos t *ℤ (pos v -ℤ pos n)))
same_moved a b s t w v m n e f g h =
    ap (λ z. cut_off (z +ℤ (pos s *ℤ (pos w -ℤ pos m)))) e ∙ ap (λ z. cut_off (b +ℤ (pos z *ℤ (pos w -ℤ pos m)))) f
    ∙ ap (λ z. cut_off (b +ℤ (pos t *ℤ (pos z -ℤ pos m)))) g ∙ ap (λ z. cut_off (b +ℤ (pos t *ℤ (pos v -ℤ pos z)))) h

-- one number more on both sides
pub joined : (new old more one first before after : ℕ) → new ≡ old + more → old ≡ first + before → more ≡ one → after ≡ before + one → new ≡ first + after
joined new old more one first before after a b d e = omega arith
