-- the lowest free pair of the uses, with one use more
use Rattle.std.proofs.Common.{◌≡◌, ◌≤◌, ◌<◌, ◌⊎◌, inl, inr, ℕ, List, [], ◌∷◌, ◌++◌, Option, None, Some, MatchOption, IsTrue, ◌↔◌, true, false, refl, sym, arith, subst}
use Rattle.std.proofs.lemmas.Bool.{cases_lt}
use Rattle.crew_terms.specs.Limits.{Limits}
use Rattle.crew_terms.specs.Tree.{IsFreePair}
use Rattle.branch_choice.specs.Rules.{IsLowestPair, IsUsedPair, NoneIsUsed}
use Rattle.branch_choice.specs.Uses.{HasUse}
use Rattle.branch_choice.specs.declared.uses.Use.{Use}
use Rattle.branch_choice.proofs.More.{has, has_still, has_cases}

-- the lowest free pair with a use, or none where there is none
abbrev pub IsLowestOf : Limits → List Use → Option (ℕ × ℕ) → Type 0
IsLowestOf n uses lowest = MatchOption lowest (NoneIsUsed n uses) (λ found. IsLowestPair (IsUsedPair n uses) found.0 found.1)

-- a pair stands before another, by task and then by team
abbrev pub IsBefore : ℕ → ℕ → ℕ → ℕ → Type 0
IsBefore k j g h = (j < h) ⊎ ((j ≡ h) × (k < g))

module _ (n : Limits) (uses : List Use) (u : Use) where
  used_still : (k j : ℕ) → IsUsedPair n uses k j → IsUsedPair n (uses ++ u ∷ []) k j
  used_still k j h = record { free = h.free; used = has_still uses u k j h.used }

  used_cases : (k j : ℕ) → IsUsedPair n (uses ++ u ∷ []) k j → IsUsedPair n uses k j ⊎ ((u.team ≡ k) × (u.task ≡ j))
  used_cases k j h = by (has_cases uses u k j h.used)
    where
      by : HasUse uses k j ⊎ ((u.team ≡ k) × (u.task ≡ j)) → IsUsedPair n uses k j ⊎ ((u.team ≡ k) × (u.task ≡ j))
      by (inl a) = inl (record { free = h.free; used = a })
      by (inr b) = inr b

  -- a pair that is not free changes nothing
  pub not_free : (lowest : Option (ℕ × ℕ)) → (IsFreePair n u.team u.task → ⊥) → IsLowestOf n uses lowest → IsLowestOf n (uses ++ u ∷ []) lowest
  not_free lowest bar is = by lowest is
    where
      old : (k j : ℕ) → IsUsedPair n (uses ++ u ∷ []) k j → IsUsedPair n uses k j
      old k j h = from (used_cases k j h)
        where
          from : IsUsedPair n uses k j ⊎ ((u.team ≡ k) × (u.task ≡ j)) → IsUsedPair n uses k j
          from (inl a) = a
          from (inr b) = absurd (bar (subst (λ x. IsFreePair n u.team x) (sym b.1) (subst (λ x. IsFreePair n x j) (sym b.0) h.free)))

      by : (lowest : Option (ℕ × ℕ)) → IsLowestOf n uses lowest → IsLowestOf n (uses ++ u ∷ []) lowest
      by None none = λ k j h. none k j (old k j h)
      by (Some found) one = record {
        holds = used_still found.0 found.1 one.holds;
        task = λ g h x. one.task g h (old g h x);
        team = λ g x. one.team g (old g found.1 x);
      }

  -- nor does a pair that does not stand before the lowest
  not_lower : (k j : ℕ) → (IsBefore u.team u.task k j → ⊥) → IsLowestOf n uses (Some (k, j)) → IsLowestOf n (uses ++ u ∷ []) (Some (k, j))
  not_lower k j bar one = record {
    holds = used_still k j one.holds;
    task = λ g h x. task_of g h (used_cases g h x);
    team = λ g x. team_of g (used_cases g j x);
  }
    where
      after : j ≤ u.task
      after = elim (cases_lt u.task j) [ inl lt ↦ absurd (bar (inl lt)) | inr ge ↦ ge ]

      task_of : (g h : ℕ) → IsUsedPair n uses g h ⊎ ((u.team ≡ g) × (u.task ≡ h)) → j ≤ h
      task_of g h (inl a) = one.task g h a
      task_of g h (inr b) = let e = b.1 in let f : j ≤ u.task = after in omega arith

      team_of : (g : ℕ) → IsUsedPair n uses g j ⊎ ((u.team ≡ g) × (u.task ≡ j)) → k ≤ g
      team_of g (inl a) = one.team g a
      team_of g (inr b) = elim (cases_lt u.team k) [ inl lt ↦ absurd (bar (inr (b.1, lt))) | inr ge ↦ let e = b.0 in omega arith ]

  -- a free pair that stands before the lowest, or is the first, is the lowest
  lower : (lowest : Option (ℕ × ℕ)) → IsFreePair n u.team u.task → MatchOption lowest (Unit {0}) (λ found. IsBefore u.team u.task found.0 found.1) → IsLowestOf n uses lowest → IsLowestOf n (uses ++ u ∷ []) (Some (u.team, u.task))
  lower lowest free before is = record {
    holds = record { free = free; used = has uses u };
    task = λ g h x. task_of lowest before is g h (used_cases g h x);
    team = λ g x. team_of lowest before is g (used_cases g u.task x);
  }
    where
      task_of : (lowest : Option (ℕ × ℕ)) → MatchOption lowest (Unit {0}) (λ found. IsBefore u.team u.task found.0 found.1) → IsLowestOf n uses lowest → (g h : ℕ) → IsUsedPair n uses g h ⊎ ((u.team ≡ g) × (u.task ≡ h)) → u.task ≤ h
      task_of None before none g h (inl a) = absurd (none g h a)
      task_of (Some found) (inl lt) one g h (inl a) = let x = one.task g h a in omega arith
      task_of (Some found) (inr eq) one g h (inl a) = let x = one.task g h a in let e = eq.0 in omega arith
      task_of lowest before is g h (inr b) = let e = b.1 in omega arith

      team_of : (lowest : Option (ℕ × ℕ)) → MatchOption lowest (Unit {0}) (λ found. IsBefore u.team u.task found.0 found.1) → IsLowestOf n uses lowest → (g : ℕ) → IsUsedPair n uses g u.task ⊎ ((u.team ≡ g) × (u.task ≡ u.task)) → u.team ≤ g
      team_of None before none g (inl a) = absurd (none g u.task a)
      team_of (Some found) (inl lt) one g (inl a) = let x = one.task g u.task a in absurd (omega arith)
      team_of (Some found) (inr eq) one g (inl a) =
          let same = subst (IsUsedPair n uses g) eq.0 a in
          let x = one.team g same in
          let y = eq.1 in omega arith
      team_of lowest before is g (inr b) = let e = b.0 in omega arith

  -- with the answer whether the pair stands before the lowest
  pub taken : (lowest : Option (ℕ × ℕ)) → IsFreePair n u.team u.task → MatchOption lowest (IsTrue true) (λ found. IsTrue true ↔ IsBefore u.team u.task found.0 found.1)
      → IsLowestOf n uses lowest → IsLowestOf n (uses ++ u ∷ []) (Some (u.team, u.task))
  taken None free told is = lower None free tt is
  taken (Some found) free told is = lower (Some found) free (told.0 refl) is

  pub kept : (lowest : Option (ℕ × ℕ)) → MatchOption lowest (IsTrue false) (λ found. IsTrue false ↔ IsBefore u.team u.task found.0 found.1)
      → IsLowestOf n uses lowest → IsLowestOf n (uses ++ u ∷ []) lowest
  kept None told is = absurd (let e : false ≡ true = told in cc)
  kept (Some found) told is = not_lower found.0 found.1 (λ b. absurd (let e : false ≡ true = told.1 b in cc)) is
