-- the most of the potentials from each minute on, gone down over the minutes
use Rattle.std.proofs.Common.{◌≡◌, ◌≤◌, ◌<◌, ◌+◌, ◌-◌, ℕ, ℤ, pos, ◌≤ℤ◌, List, length, get_or, set, ◌⊎◌, inl, inr, ap, ◌∙◌, sym, subst, refl, arith, Bool, true, false, cond, get_or-set_same, get_or-set_other, is_lt, Less, Greater, Equal}
use Rattle.std.specs.Prelude.{int_lt}
use Rattle.std.specs.Int.{int_max}
use Rattle.std.proofs.lemmas.Int.{ints, clamps}
use Rattle.std.proofs.lemmas.Bool.{cases_lt, cases_eq, cases_cond, lt-ltb, le-ltb}
use Rattle.std.proofs.lemmas.List.{get_or_past}
use Rattle.minute_rules.specs.Ahead.{IsMostFrom, potential_from}
use Rattle.minute_rules.specs.declared.ahead.TheConstants.{MINUTES}

-- the greater of two numbers, as it is compared
pub max_is : (b c : Bool) (x y : ℤ) → cond (is_lt (cond b Less (cond c Greater Equal))) x y ≡ cond b x y
max_is true c x y = refl
max_is false true x y = refl
max_is false false x y = refl

module _ (first : ℕ) (potentials : List ℤ) where
  pub before_first : (u : ℕ) → u < first → potential_from first potentials u ≡ pos 0
  before_first u l = ap (λ b. cond b (pos 0) (get_or potentials (u - first) (pos 0))) (lt-ltb u first l)

  pub from_first : (u : ℕ) → first ≤ u → potential_from first potentials u ≡ get_or potentials (u - first) (pos 0)
  from_first u l = ap (λ b. cond b (pos 0) (get_or potentials (u - first) (pos 0))) (le-ltb u first l)

  -- after all potentials
  pub most_past : (u : ℕ) → first + length potentials ≤ u → IsMostFrom first potentials u (pos 0)
  most_past u past = record { bound = λ a l h. absurd (omega arith); reached = inl refl }

  -- with those of one more minute
  pub most_more : (after u : ℕ) (here most : ℤ) → after ≡ u + 1 → IsMostFrom first potentials after here → most ≡ int_max here (potential_from first potentials u)
      → IsMostFrom first potentials u most
  most_more after u here most one is e = record { bound = bound; reached = by (cases_cond (int_lt (potential_from first potentials u) here) here (potential_from first potentials u) most e) }
    where
      bound : (a : ℕ) → a < length potentials → u ≤ first + a → get_or potentials a (pos 0) ≤ℤ most
      bound a l h = at (cases_lt u (first + a))
        where
          at : (u < first + a) ⊎ (first + a ≤ u) → get_or potentials a (pos 0) ≤ℤ most
          at (inl later) = let f = is.bound a l (omega arith) in omega (arith, ints, clamps)
          at (inr same) =
              let p : a ≡ u - first = omega arith in
              let f = from_first u (omega arith) in
              let g = ap (λ m. get_or potentials m (pos 0)) p in
              omega (arith, ints, clamps)

      own : (most ≡ potential_from first potentials u) → (u < first) ⊎ (first ≤ u) → (most ≡ pos 0) ⊎ ((a : ℕ) × (a < length potentials) × (u ≤ first + a) × (most ≡ get_or potentials a (pos 0)))
      own f (inl l) = inl (f ∙ before_first u l)
      own f (inr l) = inside (cases_lt (u - first) (length potentials))
        where
          inside : (u - first < length potentials) ⊎ (length potentials ≤ u - first) → (most ≡ pos 0) ⊎ ((a : ℕ) × (a < length potentials) × (u ≤ first + a) × (most ≡ get_or potentials a (pos 0)))
          inside (inl m) = inr (u - first, m, omega arith, f ∙ from_first u l)
          inside (inr m) = inl (f ∙ from_first u l ∙ get_or_past potentials (u - first) (pos 0) m)

      later : (most ≡ here) → (here ≡ pos 0) ⊎ ((a : ℕ) × (a < length potentials) × (after ≤ first + a) × (here ≡ get_or potentials a (pos 0)))
          → (most ≡ pos 0) ⊎ ((a : ℕ) × (a < length potentials) × (u ≤ first + a) × (most ≡ get_or potentials a (pos 0)))
      later f (inl z) = inl (f ∙ z)
      later f (inr (a, l, m, g)) = inr (a, l, omega arith, f ∙ g)

      by : (most ≡ here) ⊎ (most ≡ potential_from first potentials u) → (most ≡ pos 0) ⊎ ((a : ℕ) × (a < length potentials) × (u ≤ first + a) × (most ≡ get_or potentials a (pos 0)))
      by (inl f) = later f is.reached
      by (inr f) = own f (cases_lt u first)

  -- the list from minute `from` on
  abbrev pub MostAbove : ℕ → List ℤ → Type 0
  MostAbove from list = (u : ℕ) → from ≤ u → u < MINUTES → IsMostFrom first potentials u (get_or list u (pos 0))

  pub above_more : (after u : ℕ) (most : ℤ) (list : List ℤ) → after ≡ u + 1 → u < length list → MostAbove after list → IsMostFrom first potentials u most → MostAbove u (set list u most)
  above_more after u most list one inside above here v low high = at (cases_eq v u)
    where
      at : (v ≡ u) ⊎ (v ≡ u → ⊥) → IsMostFrom first potentials v (get_or (set list u most) v (pos 0))
      at (inl e) = subst (λ w. IsMostFrom first potentials w (get_or (set list u most) w (pos 0))) (sym e)
          (subst (IsMostFrom first potentials u) (sym (get_or-set_same list u most (pos 0) inside)) here)
      at (inr ne) = subst (IsMostFrom first potentials v) (sym (get_or-set_other list u v most (pos 0) ne)) (above v (let d : (v ≡ u → ⊥) = ne in omega arith) high)
