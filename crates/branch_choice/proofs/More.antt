-- one use more
use Rattle.std.proofs.Common.{suc, zero, ◌≡◌, ◌≢◌, ◌≤◌, ◌<◌, ◌⊎◌, inl, inr, ℕ, List, [], ◌∷◌, ◌++◌, Option, None, Some, refl, sym, ◌∙◌, arith, ap, subst, min, max, get_or, set, length}
use Rattle.std.specs.Prelude.{Contains}
use Rattle.std.proofs.lemmas.List.Elements.{Contains-append_left, Contains-append_right, Contains-append_cases}
use Rattle.std.proofs.lemmas.Bool.{cases_lt, cases_eq}
use Rattle.std.proofs.lemmas.List.{get_or-set_same, get_or-set_other}
use Rattle.branch_choice.specs.Ends.{AreEndsAt, widened_ends}
use Rattle.branch_choice.specs.Uses.{AreEnds, BeginsAt, HasUse}
use Rattle.branch_choice.specs.declared.ends.Ends.{Ends}
use Rattle.branch_choice.specs.declared.uses.Use.{Use}

pub none_in : {A : Type 0} (x : A) → Contains [] x → ⊥
none_in x (i, l, e) = omega arith

module _ (uses : List Use) (u : Use) where
  abbrev pub more : List Use
  more = uses ++ u ∷ []

  same_of_one : (v : Use) → Contains (u ∷ []) v → u ≡ v
  same_of_one v (zero, l, e) = e
  same_of_one v (suc i, l, e) = absurd (omega arith)

  last : Contains more u
  last = Contains-append_right uses (u ∷ []) u (0, omega arith, refl)

  split : (v : Use) → Contains more v → Contains uses v ⊎ (u ≡ v)
  split v c = by (Contains-append_cases uses (u ∷ []) v c)
    where
      by : Contains uses v ⊎ Contains (u ∷ []) v → Contains uses v ⊎ (u ≡ v)
      by (inl a) = inl a
      by (inr b) = inr (same_of_one v b)

  -- ---- starts

  begins : BeginsAt more u.task u.start
  begins = (u, last, refl, refl)

  begins_still : (j t : ℕ) → BeginsAt uses j t → BeginsAt more j t
  begins_still j t (v, c, e, f) = (v, Contains-append_left uses (u ∷ []) v c, e, f)

  begins_cases : (j t : ℕ) → BeginsAt more j t → BeginsAt uses j t ⊎ ((u.task ≡ j) × (u.start ≡ t))
  begins_cases j t (v, c, e, f) = by (split v c)
    where
      by : Contains uses v ⊎ (u ≡ v) → BeginsAt uses j t ⊎ ((u.task ≡ j) × (u.start ≡ t))
      by (inl a) = inl (v, a, e, f)
      by (inr b) = inr (ap (λ (w : Use). w.task) b ∙ e, ap (λ (w : Use). w.start) b ∙ f)

  -- the ends of other tasks stay
  pub ends_other : (j : ℕ) (o : Option Ends) → u.task ≢ j → AreEndsAt uses j o → AreEndsAt more j o
  ends_other j None ne h = λ t b. by t (begins_cases j t b)
    where
      by : (t : ℕ) → BeginsAt uses j t ⊎ ((u.task ≡ j) × (u.start ≡ t)) → ⊥
      by t (inl a) = h t a
      by t (inr a) = ne a.0
  ends_other j (Some e) ne h = record { first = begins_still j e.least h.first; last = begins_still j e.greatest h.last; between = λ t b. by t (begins_cases j t b) }
    where
      by : (t : ℕ) → BeginsAt uses j t ⊎ ((u.task ≡ j) × (u.start ≡ t)) → (e.least ≤ t) × (t ≤ e.greatest)
      by t (inl a) = h.between t a
      by t (inr a) = absurd (ne a.0)

  abbrev Own : ℕ → ℕ → Type 0
  Own least greatest = AreEnds more u.task least greatest

  -- the ends of the use's task are widened
  pub ends_own : (o : Option Ends) → AreEndsAt uses u.task o → AreEndsAt more u.task (Some (widened_ends o u.start))
  ends_own None h = record { first = begins; last = begins; between = λ t b. by t (begins_cases u.task t b) }
    where
      by : (t : ℕ) → BeginsAt uses u.task t ⊎ ((u.task ≡ u.task) × (u.start ≡ t)) → (u.start ≤ t) × (t ≤ u.start)
      by t (inl a) = absurd (h t a)
      by t (inr a) = let e = a.1 in (omega arith, omega arith)
  ends_own (Some e) h = record { first = first_of (least_cases e.least u.start); last = last_of (greatest_cases e.greatest u.start); between = λ t b. by t (begins_cases u.task t b) }
    where
      least_cases : (a b : ℕ) → (min a b ≡ a) ⊎ (min a b ≡ b)
      least_cases a b = elim (cases_lt a b) [ inl lt ↦ inl (omega arith) | inr ge ↦ inr (omega arith) ]

      greatest_cases : (a b : ℕ) → (max a b ≡ a) ⊎ (max a b ≡ b)
      greatest_cases a b = elim (cases_lt a b) [ inl lt ↦ inr (omega arith) | inr ge ↦ inl (omega arith) ]

      first_of : (min e.least u.start ≡ e.least) ⊎ (min e.least u.start ≡ u.start) → BeginsAt more u.task (min e.least u.start)
      first_of (inl x) = subst (BeginsAt more u.task) (sym x) (begins_still u.task e.least h.first)
      first_of (inr x) = subst (BeginsAt more u.task) (sym x) begins

      last_of : (max e.greatest u.start ≡ e.greatest) ⊎ (max e.greatest u.start ≡ u.start) → BeginsAt more u.task (max e.greatest u.start)
      last_of (inl x) = subst (BeginsAt more u.task) (sym x) (begins_still u.task e.greatest h.last)
      last_of (inr x) = subst (BeginsAt more u.task) (sym x) begins

      by : (t : ℕ) → BeginsAt uses u.task t ⊎ ((u.task ≡ u.task) × (u.start ≡ t)) → (min e.least u.start ≤ t) × (t ≤ max e.greatest u.start)
      by t (inl a) = let x = h.between t a in (omega arith, omega arith)
      by t (inr a) = let x = a.1 in (omega arith, omega arith)

  -- ---- pairs

  pub has : HasUse more u.team u.task
  has = (u, last, refl, refl)

  pub has_still : (k j : ℕ) → HasUse uses k j → HasUse more k j
  has_still k j (v, c, e, f) = (v, Contains-append_left uses (u ∷ []) v c, e, f)

  pub has_cases : (k j : ℕ) → HasUse more k j → HasUse uses k j ⊎ ((u.team ≡ k) × (u.task ≡ j))
  has_cases k j (v, c, e, f) = by (split v c)
    where
      by : Contains uses v ⊎ (u ≡ v) → HasUse uses k j ⊎ ((u.team ≡ k) × (u.task ≡ j))
      by (inl a) = inl (v, a, e, f)
      by (inr b) = inr (ap (λ (w : Use). w.team) b ∙ e, ap (λ (w : Use). w.task) b ∙ f)

  -- the ends by task, where those of the use's task are widened
  pub ends_more : (ends : List (Option Ends)) (m : ℕ) → u.task < length ends → ((j : ℕ) → j < m → AreEndsAt uses j (get_or ends j None)) → u.task < m
      → (j : ℕ) → j < m → AreEndsAt more j (get_or (set ends u.task (Some (widened_ends (get_or ends u.task None) u.start))) j None)
  ends_more ends m inside are below j lt = by (cases_eq u.task j)
    where
      new : Option Ends
      new = Some (widened_ends (get_or ends u.task None) u.start)

      by : (u.task ≡ j) ⊎ (u.task ≡ j → ⊥) → AreEndsAt more j (get_or (set ends u.task new) j None)
      by (inl e) = subst (λ i. AreEndsAt more i (get_or (set ends u.task new) i None)) e
          (subst (AreEndsAt more u.task) (sym (get_or-set_same ends u.task new None inside)) (ends_own (get_or ends u.task None) (are u.task below)))
      by (inr ne) = subst (AreEndsAt more j) (sym (get_or-set_other ends u.task j new None (λ e. ne (sym e)))) (ends_other j (get_or ends j None) ne (are j lt))
