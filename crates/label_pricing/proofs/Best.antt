-- what can be earned from a visit on
use Rattle.std.proofs.Common.{◌≡◌, ◌≤◌, ℕ, zero, suc, ℤ, pos, negsuc, List, [], ◌∷◌, ◌⊎◌, inl, inr, sym, arith, refl}
use Rattle.std.specs.Prelude.{◌+ℤ◌, ◌≤ℤ◌, ◌<ℤ◌}
use Rattle.std.proofs.lemmas.Int.{ints}
use Rattle.crew_terms.specs.Limits.{Limits, IsPermittedVisit, IsPermittedStep, IsRoute}
use Rattle.crew_terms.specs.Leaf.{IsSteady, rewards, HoldsLocally, IsWorth}
use Rattle.crew_terms.specs.declared.Visit.{Visit}
use Rattle.crew_laws.specs.Visits.{visit}
use Rattle.label_pricing.specs.Best.{IsBest, IsAfter, IsFirst}
use Rattle.label_pricing.specs.declared.labels.Label.{Label}

module _ (n : Limits) (k : ℕ) (w : ℕ → ℕ → ℤ) where
  -- a route with one more visit before it
  longer : (j t h u : ℕ) (r : List Visit) → IsPermittedVisit n k j t → IsPermittedStep n j t h u → IsRoute n k (visit h u ∷ r) → IsRoute n k (visit j t ∷ visit h u ∷ r)
  longer j t h u r here step (there, on) = (here, (step, there, on))

  pub best_holds : (phi : ℕ → ℕ → ℤ) (worth : ℤ) → ((j t : ℕ) → IsPermittedVisit n k j t → IsBest n k w j t (phi j t)) → IsWorth n k w worth → HoldsLocally n k w phi worth
  best_holds phi worth best is = record {
    tasks = λ j. record {
      alone = λ t here. let a = (best j t here).greatest [] (here, tt) in omega (arith, ints);
      step = λ t h u here there step.
          let next = (best h u there).attained in
          let e = next.2 in
          let a = (best j t here).greatest (visit h u ∷ next.0) (longer j t h u next.0 here step next.1) in
          omega (arith, ints);
    };
    worth_rules = record {
      most = λ j t here. let at = (best j t here).attained in let e = at.2 in let a = is.greatest (visit j t ∷ at.0) at.1 in omega (arith, ints);
      idle = is.greatest [] tt;
    };
  }

  -- a visit earns its reward and the most that can be earned after it
  pub best_from_after : (j t : ℕ) (l : Label) → IsPermittedVisit n k j t → IsAfter n k w j t l → IsBest n k w j t (w j t +ℤ l.value)
  best_from_after j t l here after = record { attained = attained (above l.value after.label.least); greatest = greatest }
    where
      above : (v : ℤ) → pos 0 ≤ℤ v → (v ≡ pos 0) ⊎ (pos 0 <ℤ v)
      above (pos zero) h = inl refl
      above (pos (suc m)) h = inr (omega (arith, ints))
      above (negsuc m) h = absurd (omega (arith, ints))

      attained : (l.value ≡ pos 0) ⊎ (pos 0 <ℤ l.value) → (r : List Visit) × IsRoute n k (visit j t ∷ r) × (rewards w (visit j t ∷ r) ≡ w j t +ℤ l.value)
      attained (inl e) = ([], (here, tt), omega (arith, ints))
      attained (inr h) =
          let next = (after.label.best h).attained in
          let e = next.2 in
          (visit l.task l.start ∷ next.0, longer j t l.task l.start next.0 here (after.step h) next.1, omega (arith, ints))

      greatest : (r : List Visit) → IsRoute n k (visit j t ∷ r) → rewards w (visit j t ∷ r) ≤ℤ (w j t +ℤ l.value)
      greatest [] is = let a = after.label.least in omega (arith, ints)
      greatest (z ∷ zs) (first, (step, there, on)) = let a = after.most z.task z.start step zs (there, on) in omega (arith, ints)

  pub best_is_one : (j t : ℕ) (v z : ℤ) → IsBest n k w j t v → IsBest n k w j t z → v ≡ z
  best_is_one j t v z a b =
      let x = a.attained in
      let y = b.attained in
      let e = x.2 in
      let f = y.2 in
      let g = a.greatest y.0 y.1 in
      let h = b.greatest x.0 x.1 in
      omega (arith, ints)

  -- a first label is the worth
  pub worth_from_first : (l : Label) → IsFirst n k w l → IsWorth n k w l.value
  worth_from_first l is = record { attained = attained (above l.value is.label.least); greatest = greatest }
    where
      above : (v : ℤ) → pos 0 ≤ℤ v → (v ≡ pos 0) ⊎ (pos 0 <ℤ v)
      above (pos zero) h = inl refl
      above (pos (suc m)) h = inr (omega (arith, ints))
      above (negsuc m) h = absurd (omega (arith, ints))

      attained : (l.value ≡ pos 0) ⊎ (pos 0 <ℤ l.value) → (r : List Visit) × IsRoute n k r × (rewards w r ≡ l.value)
      attained (inl e) = ([], tt, sym e)
      attained (inr h) = let next = (is.label.best h).attained in (visit l.task l.start ∷ next.0, next.1, next.2)

      greatest : (r : List Visit) → IsRoute n k r → rewards w r ≤ℤ l.value
      greatest [] h = is.label.least
      greatest (z ∷ zs) h = is.most z.task z.start zs h

  -- a visit at an earlier minute can be followed by whatever can follow a later one
  begun_earlier : (j t u : ℕ) → t ≤ u → IsPermittedVisit n k j t → (r : List Visit) → IsRoute n k (visit j u ∷ r) → IsRoute n k (visit j t ∷ r)
  begun_earlier j t u le here [] is = (here, tt)
  begun_earlier j t u le here (x ∷ xs) (there, (step, next, on)) =
      (here, (record { other = step.other; follow = let g = step.follow in omega arith }, next, on))

  module _ (steady : IsSteady w) where
    pub best_falls : (j t u : ℕ) (v z : ℤ) → t ≤ u → IsPermittedVisit n k j t → IsBest n k w j t v → IsBest n k w j u z → z ≤ℤ v
    best_falls j t u v z le here a b =
        let e = b.attained.2 in
        let f = a.greatest b.attained.0 (begun_earlier j t u le here b.attained.0 b.attained.1) in
        let same = steady j t u in
        omega (arith, ints)

    -- between two minutes at which the same can be earned, the same can be earned
    pub best_between : (j t s u : ℕ) (v : ℤ) → t ≤ s → s ≤ u → IsPermittedVisit n k j t → IsPermittedVisit n k j s
        → IsBest n k w j t v → IsBest n k w j u v → IsBest n k w j s v
    best_between j t s u v before behind here there a b = record {
      attained = (b.attained.0, begun_earlier j s u behind there b.attained.0 b.attained.1, let e = b.attained.2 in let same = steady j s u in omega (arith, ints));
      greatest = λ r is. let f = a.greatest r (begun_earlier j t s before here r is) in let same = steady j t s in omega (arith, ints);
    }

  -- potentials that hold and that routes attain are the greatest
  pub attained_is_best : (phi : ℕ → ℕ → ℤ) (worth : ℤ) → HoldsLocally n k w phi worth
      → ((j t : ℕ) → IsPermittedVisit n k j t → (r : List Visit) × IsRoute n k (visit j t ∷ r) × (rewards w (visit j t ∷ r) ≡ phi j t))
      → (j t : ℕ) → IsPermittedVisit n k j t → IsBest n k w j t (phi j t)
  attained_is_best phi worth holds reach j t here = record { attained = reach j t here; greatest = bound j t }
    where
      bound : (j t : ℕ) (r : List Visit) → IsRoute n k (visit j t ∷ r) → rewards w (visit j t ∷ r) ≤ℤ phi j t
      bound j t [] (first, on) = let a = (holds.tasks j).alone t first in omega (arith, ints)
      bound j t (z ∷ zs) (first, (step, there, on)) =
          let a = (holds.tasks j).step t z.task z.start first there step in
          let b = bound z.task z.start zs (there, on) in
          omega (arith, ints)
