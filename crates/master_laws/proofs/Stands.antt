-- which variables the opening rows have
use Rattle.std.proofs.Common.{◌≡◌, ◌≢◌, ◌≤◌, ◌<◌, ◌+◌, ◌∙◌, ℕ, suc, zero, List, [], ◌∷◌, ◌++◌, length, refl, ap, sym, arith, subst, Bool, true, false, cond, map, filter, flat_map, not, Contains, ◌⊎◌, inl, inr}
use Rattle.std.specs.List.{range_with_len}
use Rattle.std.proofs.lemmas.List.{get_or_default}
use Rattle.std.proofs.lemmas.Bool.{cases_eq}
use Rattle.std.proofs.lemmas.List.Elements.{Contains-append_left, Contains-append_right}
use Rattle.crew_terms.specs.Limits.{Limits, tasks_in, teams_in, pair_of, has_required, is_required}
use Rattle.search_terms.specs.declared.Place.{Place}
use Rattle.search_terms.specs.declared.Place.TheVariants.{Right, Value, Unused, Unassigned, Shortage, Excess, Missed, Repeated}
use Rattle.search_terms.specs.Opening.{required_pairs, variables, places, place_at, basics, basic_at, opens}
use Rattle.master_laws.proofs.Positions.{count}
use Rattle.search_terms.specs.declared.TheConstants.{VALUE}
use Rattle.master_laws.proofs.Below.{below}

here : {A : Type 0} (x : A) (xs : List A) → Contains (x ∷ xs) x
here x xs = (0, omega arith, refl)

behind : {A : Type 0} (y x : A) (xs : List A) → Contains xs x → Contains (y ∷ xs) x
behind y x xs c = (suc c.0, omega (arith, c.1), c.2)

mapped : {A B : Type 0} (f : A → B) (xs : List A) (x : A) → Contains xs x → Contains (map f xs) (f x)
mapped f [] x (k, lt, e) = absurd (omega arith)
mapped f (y ∷ xs) x (zero, lt, e) = (0, omega arith, ap f e)
mapped f (y ∷ xs) x (suc k, lt, e) = behind (f y) (f x) (map f xs) (mapped f xs x (k, omega arith, e))

flat : {A B : Type 0} (f : A → List B) (xs : List A) (x : A) (z : B) → Contains xs x → Contains (f x) z → Contains (flat_map f xs) z
flat f [] x z (k, lt, e) c = absurd (omega arith)
flat f (y ∷ xs) x z (zero, lt, e) c = Contains-append_left (f y) (flat_map f xs) z (subst (λ q. Contains (f q) z) (sym e) c)
flat f (y ∷ xs) x z (suc k, lt, e) c = Contains-append_right (f y) (flat_map f xs) z (flat f xs x z (k, omega arith, e) c)

filtered : {A : Type 0} (test : A → Bool) (xs : List A) (x : A) → Contains xs x → test x ≡ true → Contains (filter test xs) x
filtered test [] x (k, lt, e) t = absurd (omega arith)
filtered test (y ∷ xs) x (zero, lt, e) t = by_test (test y) (ap test e ∙ t)
  where
    by_test : (b : Bool) → b ≡ true → Contains (cond b (y ∷ filter test xs) (filter test xs)) x
    by_test true q = (0, omega arith, e)
    by_test false q = absurd (cc)
filtered test (y ∷ xs) x (suc k, lt, e) t = by_test (test y) (filtered test xs x (k, omega arith, e) t)
  where
    by_test : (b : Bool) → Contains (filter test xs) x → Contains (cond b (y ∷ filter test xs) (filter test xs)) x
    by_test true c = behind y x (filter test xs) c
    by_test false c = c

first : (b i : ℕ) → b ≤ i → (b ≡ i) ⊎ (b + 1 ≤ i)
first b i le = by (cases_eq b i)
  where
    by : (b ≡ i) ⊎ (b ≢ i) → (b ≡ i) ⊎ (b + 1 ≤ i)
    by (inl e) = inl e
    by (inr ne) = inr (omega arith)

ranged : (b m i : ℕ) → b ≤ i → i < b + m → Contains (range_with_len b m) i
ranged b zero i le lt = absurd (omega arith)
ranged b (suc m) i le lt = by_case (λ h. ranged (b + 1) m i h (omega arith)) (first b i le)
  where
    by_case : (b + 1 ≤ i → Contains (range_with_len (b + 1) m) i) → (b ≡ i) ⊎ (b + 1 ≤ i) → Contains (b ∷ range_with_len (b + 1) m) i
    by_case again (inl e) = (0, omega arith, e)
    by_case again (inr h) = behind b i (range_with_len (b + 1) m) (again h)

below_has : (m i : ℕ) → i < m → Contains (below m) i
below_has m i lt = ranged 0 m i (omega arith) (omega arith)

-- a variable of the opening rows, and its place
pub record Stands (n : Limits) (p : Place) : Type 0 where
  pub at : ℕ
  pub variable : VALUE < at
  pub known : at < length (places n)
  pub is : place_at (places n) at ≡ p

stands : (n : Limits) (p : Place) → Contains (variables n) p → Stands n p
stands n p (k, lt, e) =
    let two : length (places n) ≡ suc (suc (length (variables n))) = omega arith in
    record { at = suc (suc k); variable = omega arith; known = omega arith; is = get_or_default (variables n) k Right p lt ∙ e }

in_teams : (n : Limits) (p : Place) → Contains (map Unused (below (teams_in n))) p → Contains (variables n) p
in_teams n p c =
    let a = map Unused (below (teams_in n)) in
    let b = map Unassigned (filter (λ j. not (has_required n j)) (below (tasks_in n))) in
    let d = flat_map (λ j. Shortage j ∷ Excess j ∷ []) (below (tasks_in n)) in
    let e = flat_map (λ (p : ℕ × ℕ). Missed p.0 p.1 ∷ Repeated p.0 p.1 ∷ []) (required_pairs n) in
    Contains-append_left (a ++ b ++ d) e p (Contains-append_left (a ++ b) d p (Contains-append_left a b p c))

in_free : (n : Limits) (p : Place) → Contains (map Unassigned (filter (λ j. not (has_required n j)) (below (tasks_in n)))) p → Contains (variables n) p
in_free n p c =
    let a = map Unused (below (teams_in n)) in
    let b = map Unassigned (filter (λ j. not (has_required n j)) (below (tasks_in n))) in
    let d = flat_map (λ j. Shortage j ∷ Excess j ∷ []) (below (tasks_in n)) in
    let e = flat_map (λ (p : ℕ × ℕ). Missed p.0 p.1 ∷ Repeated p.0 p.1 ∷ []) (required_pairs n) in
    Contains-append_left (a ++ b ++ d) e p (Contains-append_left (a ++ b) d p (Contains-append_right a b p c))

in_tasks : (n : Limits) (p : Place) → Contains (flat_map (λ j. Shortage j ∷ Excess j ∷ []) (below (tasks_in n))) p → Contains (variables n) p
in_tasks n p c =
    let a = map Unused (below (teams_in n)) in
    let b = map Unassigned (filter (λ j. not (has_required n j)) (below (tasks_in n))) in
    let d = flat_map (λ j. Shortage j ∷ Excess j ∷ []) (below (tasks_in n)) in
    let e = flat_map (λ (p : ℕ × ℕ). Missed p.0 p.1 ∷ Repeated p.0 p.1 ∷ []) (required_pairs n) in
    Contains-append_left (a ++ b ++ d) e p (Contains-append_right (a ++ b) d p c)

in_pairs : (n : Limits) (p : Place) → Contains (flat_map (λ (p : ℕ × ℕ). Missed p.0 p.1 ∷ Repeated p.0 p.1 ∷ []) (required_pairs n)) p → Contains (variables n) p
in_pairs n p c =
    let a = map Unused (below (teams_in n)) in
    let b = map Unassigned (filter (λ j. not (has_required n j)) (below (tasks_in n))) in
    let d = flat_map (λ j. Shortage j ∷ Excess j ∷ []) (below (tasks_in n)) in
    let e = flat_map (λ (p : ℕ × ℕ). Missed p.0 p.1 ∷ Repeated p.0 p.1 ∷ []) (required_pairs n) in
    Contains-append_right (a ++ b ++ d) e p c

pub unused_stands : (n : Limits) (k : ℕ) → k < teams_in n → Stands n (Unused k)
unused_stands n k lt = stands n (Unused k) (in_teams n (Unused k) (mapped Unused (below (teams_in n)) k (below_has (teams_in n) k lt)))

pub unassigned_stands : (n : Limits) (j : ℕ) → j < tasks_in n → has_required n j ≡ false → Stands n (Unassigned j)
unassigned_stands n j lt e =
    stands n (Unassigned j) (in_free n (Unassigned j) (mapped Unassigned (filter (λ j. not (has_required n j)) (below (tasks_in n))) j
    (filtered (λ j. not (has_required n j)) (below (tasks_in n)) j (below_has (tasks_in n) j lt) (ap not e))))

pub shortage_stands : (n : Limits) (j : ℕ) → j < tasks_in n → Stands n (Shortage j)
shortage_stands n j lt =
    stands n (Shortage j) (in_tasks n (Shortage j) (flat (λ j. Shortage j ∷ Excess j ∷ []) (below (tasks_in n)) j (Shortage j) (below_has (tasks_in n) j lt)
    (here (Shortage j) (Excess j ∷ []))))

pub excess_stands : (n : Limits) (j : ℕ) → j < tasks_in n → Stands n (Excess j)
excess_stands n j lt =
    stands n (Excess j) (in_tasks n (Excess j) (flat (λ j. Shortage j ∷ Excess j ∷ []) (below (tasks_in n)) j (Excess j) (below_has (tasks_in n) j lt)
    (behind (Shortage j) (Excess j) (Excess j ∷ []) (here (Excess j) []))))

pair_has : (n : Limits) (k j : ℕ) → k < teams_in n → j < tasks_in n → is_required (pair_of n k j) ≡ true → Contains (required_pairs n) (k, j)
pair_has n k j team task e =
    flat (λ j. map (λ k. (k, j)) (filter (λ k. is_required (pair_of n k j)) (below (teams_in n)))) (below (tasks_in n)) j (k, j) (below_has (tasks_in n) j task)
    (mapped (λ k. (k, j)) (filter (λ k. is_required (pair_of n k j)) (below (teams_in n))) k
    (filtered (λ k. is_required (pair_of n k j)) (below (teams_in n)) k (below_has (teams_in n) k team) e))

pub missed_stands : (n : Limits) (k j : ℕ) → k < teams_in n → j < tasks_in n → is_required (pair_of n k j) ≡ true → Stands n (Missed k j)
missed_stands n k j team task e =
    stands n (Missed k j) (in_pairs n (Missed k j) (flat (λ (p : ℕ × ℕ). Missed p.0 p.1 ∷ Repeated p.0 p.1 ∷ []) (required_pairs n) (k, j) (Missed k j) (pair_has n k j team task e)
    (here (Missed k j) (Repeated k j ∷ []))))

pub repeated_stands : (n : Limits) (k j : ℕ) → k < teams_in n → j < tasks_in n → is_required (pair_of n k j) ≡ true → Stands n (Repeated k j)
repeated_stands n k j team task e =
    stands n (Repeated k j) (in_pairs n (Repeated k j) (flat (λ (p : ℕ × ℕ). Missed p.0 p.1 ∷ Repeated p.0 p.1 ∷ []) (required_pairs n) (k, j) (Repeated k j) (pair_has n k j team task e)
    (behind (Missed k j) (Repeated k j) (Repeated k j ∷ []) (here (Repeated k j) []))))

-- a variable that opens a row, and its row
pub record Opens (n : Limits) (p : Place) : Type 0 where
  pub row : ℕ
  pub known : row < count n
  pub is : basic_at (places n) row ≡ p

pub opens_row : (n : Limits) (p : Place) → Stands n p → opens p ≡ true → Opens n p
opens_row n p s e =
    let c = filtered opens (places n) p (s.at, s.known, get_or_default (places n) s.at p Right s.known ∙ s.is) e in
    record { row = c.0; known = c.1; is = get_or_default (basics (places n)) c.0 Value p c.1 ∙ c.2 }
