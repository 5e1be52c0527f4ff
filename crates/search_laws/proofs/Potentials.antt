-- all prices have potentials, with worths that routes attain
use Rattle.std.proofs.Common.{◌≡◌, ◌≢◌, ◌≤◌, ◌<◌, ◌+◌, ℕ, zero, suc, Bool, true, false, cond, List, [], ◌∷◌, refl, ap, sym, ◌∙◌, arith, ◌⊎◌, inl, inr}
use Rattle.std.specs.Prelude.{ℤ, pos, ◌+ℤ◌, ◌≤ℤ◌, ◌-◌, bit_and}
use Rattle.std.specs.Int.{int_max}
use Rattle.std.proofs.lemmas.Int.{ints, clamps}
use Rattle.std.proofs.lemmas.Bool.{cases_eq, cases_lt, both_ways}
use Rattle.crew_terms.specs.Instance.{Instance, team_of, task_of, minutes_between, IsQualified, CanFollow}
use Rattle.crew_terms.specs.Limits.{Limits, IsPermittedVisit, IsPermittedStep, IsRoute, GoesOn, tasks_in, window_of, pair_of}
use Rattle.crew_terms.specs.Leaf.{HoldsLocally, rewards}
use Rattle.crew_terms.specs.Skills.{bits_had, has_bits}
use Rattle.crew_terms.specs.declared.Pair.{Pair}
use Rattle.crew_terms.specs.declared.Pair.TheVariants.{Free, Forbidden, Required}
use Rattle.crew_terms.specs.declared.Visit.{Visit}
use Rattle.crew_terms.specs.Greater.{max_left, max_right}
use Rattle.crew_laws.specs.Visits.{visit}

-- ---- the greatest of some numbers and 0

abbrev pub greatest : ℕ → (ℕ → ℤ) → ℤ
greatest zero f = pos 0
greatest (suc n) f = int_max (greatest n f) (f n)

max_reached : (a b : ℤ) → (int_max a b ≡ a) ⊎ (int_max a b ≡ b)
max_reached a b = grind (arith, ints)

max_le : (a b c d : ℤ) → a ≤ℤ c → b ≤ℤ d → int_max a b ≤ℤ int_max c d
max_le a b c d x y = omega (arith, ints, clamps)

greatest_idle : (n : ℕ) (f : ℕ → ℤ) → pos 0 ≤ℤ greatest n f
greatest_idle zero f = omega (arith, ints)
greatest_idle (suc n) f = let a = greatest_idle n f in let b = max_left (greatest n f) (f n) in omega (arith, ints)

greatest_at : (n : ℕ) (f : ℕ → ℤ) (i : ℕ) → i < n → f i ≤ℤ greatest n f
greatest_at zero f i h = absurd (omega arith)
greatest_at (suc n) f i h = by (cases_lt i n) (greatest_at n f i)
  where
    by : (i < n) ⊎ (n ≤ i) → (i < n → f i ≤ℤ greatest n f) → f i ≤ℤ int_max (greatest n f) (f n)
    by (inl lt) rest = let a = rest lt in let b = max_left (greatest n f) (f n) in omega (arith, ints)
    by (inr ge) rest = let e : i ≡ n = omega arith in let a = ap f e in let b = max_right (greatest n f) (f n) in omega (arith, ints)

greatest_reached : (n : ℕ) (f : ℕ → ℤ) → (greatest n f ≡ pos 0) ⊎ ((i : ℕ) × (i < n) × (greatest n f ≡ f i))
greatest_reached zero f = inl refl
greatest_reached (suc n) f = by (max_reached (greatest n f) (f n)) (greatest_reached n f)
  where
    by : (greatest (suc n) f ≡ greatest n f) ⊎ (greatest (suc n) f ≡ f n) → (greatest n f ≡ pos 0) ⊎ ((i : ℕ) × (i < n) × (greatest n f ≡ f i)) → (greatest (suc n) f ≡ pos 0) ⊎ ((i : ℕ) × (i < suc n) × (greatest (suc n) f ≡ f i))
    by (inl e) (inl z) = inl (e ∙ z)
    by (inl e) (inr x) = inr (x.0, omega arith, e ∙ x.2)
    by (inr e) x = inr (n, omega arith, e)

greatest_le : (n : ℕ) (f g : ℕ → ℤ) → ((i : ℕ) → i < n → f i ≤ℤ g i) → greatest n f ≤ℤ greatest n g
greatest_le zero f g h = omega (arith, ints)
greatest_le (suc n) f g h = max_le (greatest n f) (f n) (greatest n g) (g n) (greatest_le n f g (λ i b. h i (omega arith))) (h n (omega arith))

-- ---- what is permitted can be told

abbrev pub Told : Type 0 → Type 0
Told A = A ⊎ (A → ⊥)

abbrev pub tells : {A : Type 0} → Told A → Bool
tells (inl a) = true
tells (inr b) = false

told_true : {A : Type 0} (t : Told A) → A → tells t ≡ true
told_true (inl a) h = refl
told_true (inr b) h = absurd (b h)

true_told : {A : Type 0} (t : Told A) → tells t ≡ true → A
true_told (inl a) e = a
true_told (inr b) e = absurd (both_ways false refl e)

pub tell_qualified : (i : Instance) (k j : ℕ) → Told (IsQualified i k j)
tell_qualified i k j = by (cases_eq (bit_and (team_of i k).skills (task_of i j).skills) (task_of i j).skills)
  where
    by : Told (bit_and (team_of i k).skills (task_of i j).skills ≡ (task_of i j).skills) → Told (IsQualified i k j)
    by (inl e) = inl (has_bits (team_of i k).skills (task_of i j).skills e)
    by (inr ne) = inr (λ h. ne (bits_had (team_of i k).skills (task_of i j).skills h))

tell_le : (a b : ℕ) → Told (a ≤ b)
tell_le a b = by (cases_lt b a)
  where
    by : (b < a) ⊎ (a ≤ b) → Told (a ≤ b)
    by (inl lt) = inr (λ le. omega arith)
    by (inr le) = inl le

pub tell_lt : (a b : ℕ) → Told (a < b)
tell_lt a b = by (cases_lt a b)
  where
    by : (a < b) ⊎ (b ≤ a) → Told (a < b)
    by (inl lt) = inl lt
    by (inr le) = inr (λ lt. omega arith)

pub both : {A B : Type 0} → Told A → Told B → Told (A × B)
both (inl a) (inl b) = inl (a, b)
both (inl a) (inr b) = inr (λ h. b h.1)
both (inr a) t = inr (λ h. a h.0)

tell_allowed : (x : Pair) → Told (x ≢ Forbidden)
tell_allowed Free = inl (λ e. let f : Free ≡ Forbidden = e in cc)
tell_allowed Forbidden = inr (λ h. h refl)
tell_allowed Required = inl (λ e. let f : Required ≡ Forbidden = e in cc)

pub through : {A B : Type 0} → (A → B) → (B → A) → Told A → Told B
through f g (inl a) = inl (f a)
through f g (inr n) = inr (λ b. n (g b))

pub tell_visit : (n : Limits) (k j t : ℕ) → Told (IsPermittedVisit n k j t)
tell_visit n k j t = through
    (λ (h : ((j < tasks_in n) × (IsQualified n.instance k j)) × (((pair_of n k j ≢ Forbidden) × ((window_of n j).0 ≤ t)) × ((t ≤ (window_of n j).1) × (((team_of n.instance k).from + minutes_between n.instance (team_of n.instance k).home (task_of n.instance j).place ≤ t) × (t + (task_of n.instance j).minutes + minutes_between n.instance (task_of n.instance j).place (team_of n.instance k).home ≤ (team_of n.instance k).until))))).
    record { known = h.0.0; qualified = h.0.1; allowed = h.1.0.0; early = h.1.0.1; late = h.1.1.0; in_shift = record { comes = h.1.1.1.0; returns = h.1.1.1.1 } })
    (λ v. ((v.known, v.qualified), ((v.allowed, v.early), (v.late, (v.in_shift.comes, v.in_shift.returns)))))
    (both (both (tell_lt j (tasks_in n)) (tell_qualified n.instance k j)) (both (both (tell_allowed (pair_of n k j)) (tell_le (window_of n j).0 t))
    (both (tell_le t (window_of n j).1) (both (tell_le _ t) (tell_le _ (team_of n.instance k).until)))))

pub tell_follow : (i : Instance) (j t h u : ℕ) → Told (CanFollow i j t h u)
tell_follow i j t h u = tell_le _ u

tell_other : (j h : ℕ) → Told (j ≢ h)
tell_other j h = by (cases_eq j h)
  where
    by : (j ≡ h) ⊎ (j ≡ h → ⊥) → Told (j ≢ h)
    by (inl e) = inr (λ ne. ne e)
    by (inr ne) = inl ne

pub tell_step : (n : Limits) (j t h u : ℕ) → Told (IsPermittedStep n j t h u)
tell_step n j t h u = through (λ (x : (j ≢ h) × CanFollow n.instance j t h u). record { other = x.0; follow = x.1 }) (λ s. (s.other, s.follow)) (both (tell_other j h) (tell_le _ u))

-- ---- potentials of one team

module _ (n : Limits) (positive : (j : ℕ) → j < tasks_in n → 1 ≤ (task_of n.instance j).minutes) (k : ℕ) (w : ℕ → ℕ → ℤ) where
  abbrev pub May : ℕ → ℕ → Type 0
  May j t = IsPermittedVisit n k j t

  abbrev pub CanGo : ℕ → ℕ → ℕ → ℕ → Type 0
  CanGo j t h u = IsPermittedStep n j t h u × May h u

  pub can : (j t h u : ℕ) → Told (CanGo j t h u)
  can j t h u = both (tell_step n j t h u) (tell_visit n k h u)

  abbrev pub stop : ℕ
  stop = suc (team_of n.instance k).until

  -- the greatest rewards from a visit on, over routes with at most d visits after it
  abbrev pub phi : ℕ → ℕ → ℕ → ℤ
  phi zero j t = w j t
  phi (suc d) j t = w j t +ℤ greatest (tasks_in n) (λ h. greatest stop (λ u. cond (tells (can j t h u)) (phi d h u) (pos 0)))

  abbrev pub next : ℕ → ℕ → ℕ → ℕ → ℤ
  next d j t h = greatest stop (λ u. cond (tells (can j t h u)) (phi d h u) (pos 0))

  in_time : (j t : ℕ) → May j t → t < stop
  in_time j t v = let a = v.in_shift.returns in omega arith

  phi_alone : (d j t : ℕ) → w j t ≤ℤ phi d j t
  phi_alone zero j t = omega (arith, ints)
  phi_alone (suc d) j t = let a = greatest_idle (tasks_in n) (next d j t) in omega (arith, ints)

  cond_le : (b : Bool) (x y : ℤ) → x ≤ℤ y → cond b x (pos 0) ≤ℤ cond b y (pos 0)
  cond_le true x y h = h
  cond_le false x y h = omega (arith, ints)

  phi_rises : (d j t : ℕ) → phi d j t ≤ℤ phi (suc d) j t
  phi_rises zero j t = let a = greatest_idle (tasks_in n) (next 0 j t) in omega (arith, ints)
  phi_rises (suc d) j t =
      let a = greatest_le (tasks_in n) (next d j t) (next (suc d) j t) (λ h b. greatest_le stop (λ u. cond (tells (can j t h u)) (phi d h u) (pos 0)) (λ u. cond (tells (can j t h u)) (phi (suc d) h u) (pos 0))
      (λ u c. cond_le (tells (can j t h u)) (phi d h u) (phi (suc d) h u) (phi_rises d h u))) in
      omega (arith, ints)

  phi_more : (e d j t : ℕ) → phi d j t ≤ℤ phi (e + d) j t
  phi_more zero d j t = let a : zero + d ≡ d = omega arith in let b = ap (λ x. phi x j t) a in omega (arith, ints)
  phi_more (suc e) d j t =
      let a : suc e + d ≡ suc (e + d) = omega arith in
      let b = ap (λ x. phi x j t) a in
      let c = phi_more e d j t in
      let f = phi_rises (e + d) j t in
      omega (arith, ints)

  phi_step : (d j t h u : ℕ) → CanGo j t h u → (w j t +ℤ phi d h u) ≤ℤ phi (suc d) j t
  phi_step d j t h u go =
      let a = greatest_at (tasks_in n) (next d j t) h go.1.known in
      let b = greatest_at stop (λ v. cond (tells (can j t h v)) (phi d h v) (pos 0)) u (in_time h u go.1) in
      let c = ap (λ x. cond x (phi d h u) (pos 0)) (told_true (can j t h u) go) in
      omega (arith, ints)

  -- a potential with room for a step at each minute that is left
  abbrev pub potential : ℕ → ℕ → ℤ
  potential j t = phi (stop - t) j t

  potential_step : (j t h u : ℕ) → May j t → May h u → IsPermittedStep n j t h u → (w j t +ℤ potential h u) ≤ℤ potential j t
  potential_step j t h u v x s =
      let a = positive j v.known in
      let b = s.follow in
      let c = in_time h u x in
      let e : stop - t ≡ suc ((u - suc t) + (stop - u)) = omega arith in
      let f = ap (λ x. phi x j t) e in
      let g = phi_step ((u - suc t) + (stop - u)) j t h u (s, x) in
      let i = phi_more (u - suc t) (stop - u) h u in
      omega (arith, ints)

  -- the visits after a visit that attain its potential
  Tail : ℕ → ℕ → ℕ → Type 0
  Tail d j t = (ws : List Visit) × GoesOn n k (visit j t) ws × (w j t +ℤ rewards w ws ≡ phi d j t)

  tail : (d j t : ℕ) → Tail d j t
  unfolding Tail
  tail zero j t = ([], tt, omega (arith, ints))
  tail (suc d) j t = outer (greatest_reached (tasks_in n) (next d j t)) (tail d)
    where
      stays : greatest (tasks_in n) (next d j t) ≡ pos 0 → Tail (suc d) j t
      stays e = ([], tt, omega (arith, ints))

      goes : (h u : ℕ) (b : Bool) → tells (can j t h u) ≡ b → Tail d h u → greatest (tasks_in n) (next d j t) ≡ cond (tells (can j t h u)) (phi d h u) (pos 0) → Tail (suc d) j t
      goes h u true e (ws, on, sum) f =
          let go = true_told (can j t h u) e in
          let g = ap (λ x. cond x (phi d h u) (pos 0)) e in
          (visit h u ∷ ws, (go.0, go.1, on), omega (arith, ints))
      goes h u false e rest f = let g = ap (λ x. cond x (phi d h u) (pos 0)) e in stays (omega (arith, ints))

      inner : (h : ℕ) → greatest (tasks_in n) (next d j t) ≡ next d j t h → (next d j t h ≡ pos 0) ⊎ ((u : ℕ) × (u < stop) × (next d j t h ≡ cond (tells (can j t h u)) (phi d h u) (pos 0))) → ((x y : ℕ) → Tail d x y) → Tail (suc d) j t
      inner h e (inl z) rest = stays (e ∙ z)
      inner h e (inr (u, below, f)) rest = goes h u (tells (can j t h u)) refl (rest h u) (e ∙ f)

      outer : (greatest (tasks_in n) (next d j t) ≡ pos 0) ⊎ ((h : ℕ) × (h < tasks_in n) × (greatest (tasks_in n) (next d j t) ≡ next d j t h)) → ((x y : ℕ) → Tail d x y) → Tail (suc d) j t
      outer (inl z) rest = stays z
      outer (inr (h, below, e)) rest = inner h e (greatest_reached stop (λ u. cond (tells (can j t h u)) (phi d h u) (pos 0))) rest

  -- a route from each visit on attains its potential
  pub from_visit : (j t : ℕ) → May j t → (r : List Visit) × IsRoute n k (visit j t ∷ r) × (rewards w (visit j t ∷ r) ≡ potential j t)
  unfolding Tail
  from_visit j t here = let r = tail (stop - t) j t in (r.0, (here, r.1), r.2)

  abbrev pub from_task : ℕ → ℤ
  from_task j = greatest stop (λ t. cond (tells (tell_visit n k j t)) (potential j t) (pos 0))

  abbrev pub greatest_worth : ℤ
  greatest_worth = greatest (tasks_in n) from_task

  pub holds : HoldsLocally n k w potential greatest_worth
  holds = record {
    tasks = λ j. record { alone = λ t v. phi_alone (stop - t) j t; step = λ t h u v x s. potential_step j t h u v x s };
    worth_rules = record {
      most = λ j t v.
          let a = greatest_at (tasks_in n) from_task j v.known in
          let b = greatest_at stop (λ u. cond (tells (tell_visit n k j u)) (potential j u) (pos 0)) t (in_time j t v) in
          let c = ap (λ x. cond x (potential j t) (pos 0)) (told_true (tell_visit n k j t) v) in
          omega (arith, ints);
      idle = greatest_idle (tasks_in n) from_task;
    };
  }

  Attained : Type 0
  Attained = (r : List Visit) × IsRoute n k r × (rewards w r ≡ greatest_worth)

  attained : Attained
  unfolding Attained Tail
  attained = outer (greatest_reached (tasks_in n) from_task)
    where
      stays : greatest_worth ≡ pos 0 → Attained
      stays e = ([], tt, sym e)

      goes : (j t : ℕ) (b : Bool) → tells (tell_visit n k j t) ≡ b → Tail (stop - t) j t → greatest_worth ≡ cond (tells (tell_visit n k j t)) (potential j t) (pos 0) → Attained
      goes j t true e (ws, on, sum) f =
          let g = ap (λ x. cond x (potential j t) (pos 0)) e in
          (visit j t ∷ ws, (true_told (tell_visit n k j t) e, on), omega (arith, ints))
      goes j t false e rest f = let g = ap (λ x. cond x (potential j t) (pos 0)) e in stays (omega (arith, ints))

      inner : (j : ℕ) → greatest_worth ≡ from_task j → (from_task j ≡ pos 0) ⊎ ((t : ℕ) × (t < stop) × (from_task j ≡ cond (tells (tell_visit n k j t)) (potential j t) (pos 0))) → Attained
      inner j e (inl z) = stays (e ∙ z)
      inner j e (inr (t, below, f)) = goes j t (tells (tell_visit n k j t)) refl (tail (stop - t) j t) (e ∙ f)

      outer : (greatest_worth ≡ pos 0) ⊎ ((j : ℕ) × (j < tasks_in n) × (greatest_worth ≡ from_task j)) → Attained
      outer (inl z) = stays z
      outer (inr (j, below, e)) = inner j e (greatest_reached stop (λ t. cond (tells (tell_visit n k j t)) (potential j t) (pos 0)))

  pub reached : (r : List Visit) × IsRoute n k r × (rewards w r ≡ greatest_worth)
  unfolding Attained
  reached = attained
