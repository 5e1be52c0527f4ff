-- the variables of the opening rows are of the node's teams, tasks and required pairs; sums over them
use Rattle.std.proofs.Common.{◌≡◌, ◌<◌, ◌+◌, ◌-◌, ◌∙◌, ℕ, suc, zero, List, [], ◌∷◌, ◌++◌, length, get_or, refl, ap, arith, subst, Bool, true, false, cond, map, filter, flat_map, not, ◌⊎◌, inl, inr}
use Rattle.std.specs.Prelude.{ℤ, pos, ◌*ℤ◌, ◌≤ℤ◌}
use Rattle.std.specs.List.{range_with_len}
use Rattle.std.proofs.lemmas.Bool.{not-true}
use Rattle.std.proofs.Math.IntN.{*ℤ-zero, zero-*ℤ}
use Rattle.crew_terms.specs.Limits.{Limits, tasks_in, teams_in, pair_of, has_required, is_required}
use Rattle.crew_terms.specs.Total.{total}
use Rattle.search_terms.specs.declared.Place.{Place}
use Rattle.search_terms.specs.declared.Place.TheVariants.{Right, Value, Unused, Unassigned, Shortage, Excess, Missed, Repeated}
use Rattle.search_terms.specs.Opening.{required_pairs, variables, places, place_at}
use Rattle.crew_num.specs.Ring.{not_negative}
use Rattle.crew_terms.specs.Totals.{total-same, total-zero}
use Rattle.master_laws.proofs.Bounded.{total-not_negative}
use Rattle.master_laws.proofs.Stands.{Stands}
use Rattle.search_terms.specs.declared.TheConstants.{VALUE}
use Rattle.master_laws.proofs.Below.{below}

abbrev AllOf : {A : Type 0} → (A → Type 0) → List A → Type 0
AllOf P [] = Unit {0}
AllOf P (x ∷ xs) = P x × AllOf P xs

all-append : {A : Type 0} (P : A → Type 0) (xs ys : List A) → AllOf P xs → AllOf P ys → AllOf P (xs ++ ys)
all-append P [] ys a b = b
all-append P (x ∷ xs) ys a b = (a.0, all-append P xs ys a.1 b)

all-range : (P : ℕ → Type 0) (b m : ℕ) → ((i : ℕ) → i < b + m → P i) → AllOf P (range_with_len b m)
all-range P b zero h = tt
all-range P b (suc m) h = (h b (omega arith), all-range P (b + 1) m (λ i lt. h i (omega arith)))

all-filter : {A : Type 0} (P : A → Type 0) (test : A → Bool) (xs : List A) → AllOf P xs → AllOf (λ x. P x × (test x ≡ true)) (filter test xs)
all-filter P test [] a = tt
all-filter P test (x ∷ xs) a = by_test (test x) refl (all-filter P test xs a.1)
  where
    by_test : (b : Bool) → test x ≡ b → AllOf (λ x. P x × (test x ≡ true)) (filter test xs) → AllOf (λ x. P x × (test x ≡ true)) (cond b (x ∷ filter test xs) (filter test xs))
    by_test true e r = ((a.0, e), r)
    by_test false e r = r

all-map : {A B : Type 0} (P : A → Type 0) (Q : B → Type 0) (f : A → B) (xs : List A) → AllOf P xs → ((x : A) → P x → Q (f x)) → AllOf Q (map f xs)
all-map P Q f [] a h = tt
all-map P Q f (x ∷ xs) a h = (h x a.0, all-map P Q f xs a.1 h)

all-flat : {A B : Type 0} (P : A → Type 0) (Q : B → Type 0) (f : A → List B) (xs : List A) → AllOf P xs → ((x : A) → P x → AllOf Q (f x)) → AllOf Q (flat_map f xs)
all-flat P Q f [] a h = tt
all-flat P Q f (x ∷ xs) a h = all-append Q (f x) (flat_map f xs) (h x a.0) (all-flat P Q f xs a.1 h)

all_at : {A : Type 0} (P : A → Type 0) (xs : List A) (d : A) (k : ℕ) → AllOf P xs → k < length xs → P (get_or xs k d)
all_at P [] d k a lt = absurd (omega arith)
all_at P (x ∷ xs) d zero a lt = a.0
all_at P (x ∷ xs) d (suc k) a lt = all_at P xs d k a.1 (omega arith)

pub record IsPairOf (n : Limits) (k j : ℕ) : Type 0 where
  pub team : k < teams_in n
  pub task : j < tasks_in n
  pub required : is_required (pair_of n k j) ≡ true

pub record IsFreeTask (n : Limits) (j : ℕ) : Type 0 where
  pub task : j < tasks_in n
  pub free : has_required n j ≡ false

abbrev pub IsKnown : Limits → Place → Type 0
IsKnown n Right = ⊥
IsKnown n Value = ⊥
IsKnown n (Unused k) = k < teams_in n
IsKnown n (Unassigned j) = IsFreeTask n j
IsKnown n (Shortage j) = j < tasks_in n
IsKnown n (Excess j) = j < tasks_in n
IsKnown n (Missed k j) = IsPairOf n k j
IsKnown n (Repeated k j) = IsPairOf n k j

all_known : (n : Limits) → AllOf (IsKnown n) (variables n)
all_known n =
    let a = map Unused (below (teams_in n)) in
    let b = map Unassigned (filter (λ j. not (has_required n j)) (below (tasks_in n))) in
    let d = flat_map (λ j. Shortage j ∷ Excess j ∷ []) (below (tasks_in n)) in
    let e = flat_map (λ (p : ℕ × ℕ). Missed p.0 p.1 ∷ Repeated p.0 p.1 ∷ []) (required_pairs n) in
    let K = IsKnown n in
    let teams = all-range (λ k. k < teams_in n) 0 (teams_in n) (λ i lt. omega arith) in
    let tasks = all-range (λ j. j < tasks_in n) 0 (tasks_in n) (λ i lt. omega arith) in
    let pairs : AllOf (λ (q : ℕ × ℕ). IsPairOf n q.0 q.1) (required_pairs n) =
    all-flat (λ j. j < tasks_in n) (λ (q : ℕ × ℕ). IsPairOf n q.0 q.1) (λ j. map (λ k. (k, j)) (filter (λ k. is_required (pair_of n k j)) (below (teams_in n)))) (below (tasks_in n)) tasks
    (λ j task. all-map (λ k. (k < teams_in n) × (is_required (pair_of n k j) ≡ true)) (λ (q : ℕ × ℕ). IsPairOf n q.0 q.1) (λ k. (k, j)) (filter (λ k. is_required (pair_of n k j)) (below (teams_in n)))
    (all-filter (λ k. k < teams_in n) (λ k. is_required (pair_of n k j)) (below (teams_in n)) teams)
    (λ k q. record { team = q.0; task = task; required = q.1 })) in
    all-append K (a ++ b ++ d) e
    (all-append K (a ++ b) d
    (all-append K a b
    (all-map (λ k. k < teams_in n) K Unused (below (teams_in n)) teams (λ k lt. lt))
    (all-map (λ j. (j < tasks_in n) × (not (has_required n j) ≡ true)) K Unassigned (filter (λ j. not (has_required n j)) (below (tasks_in n)))
    (all-filter (λ j. j < tasks_in n) (λ j. not (has_required n j)) (below (tasks_in n)) tasks) (λ j q. record { task = q.0; free = not-true (has_required n j) q.1 })))
    (all-flat (λ j. j < tasks_in n) K (λ j. Shortage j ∷ Excess j ∷ []) (below (tasks_in n)) tasks (λ j lt. (lt, (lt, tt)))))
    (all-flat (λ (q : ℕ × ℕ). IsPairOf n q.0 q.1) K (λ (p : ℕ × ℕ). Missed p.0 p.1 ∷ Repeated p.0 p.1 ∷ []) (required_pairs n) pairs (λ q h. (h, (h, tt))))

-- the variable i of the opening rows
abbrev pub variable_at : Limits → ℕ → Place
variable_at n i = get_or (variables n) i Right

pub known_at : (n : Limits) (i : ℕ) → i < length (variables n) → IsKnown n (variable_at n i)
known_at n i lt = all_at (IsKnown n) (variables n) Right i (all_known n) lt

abbrev pub stands_at : (n : Limits) (i : ℕ) (p : Place) → i < length (variables n) → variable_at n i ≡ p → Stands n p
stands_at n i p lt e = record { at = suc (suc i); variable = omega arith; known = let two : length (places n) ≡ suc (suc (length (variables n))) = omega arith in omega arith; is = e }

pub stands_known : (n : Limits) (v : Place) → Stands n v → IsKnown n v
stands_known n v s =
    let above = s.variable in
    let known = s.known in
    let two : length (places n) ≡ suc (suc (length (variables n))) = omega arith in
    let e : suc (suc (s.at - 2)) ≡ s.at = omega arith in
    let f : variable_at n (s.at - 2) ≡ v = ap (place_at (places n)) e ∙ s.is in
    subst (IsKnown n) f (known_at n (s.at - 2) (omega arith))

-- ---- the sum of the variables, each times what a says of it
abbrev pub amount : Limits → (ℕ → ℤ) → (Place → ℤ) → ℤ
amount n x a = total (length (variables n)) (λ i. a (variable_at n i) *ℤ x (suc (suc i)))

pub amount-same : (n : Limits) (x : ℕ → ℤ) (a b : Place → ℤ) → ((p : Place) → IsKnown n p → a p ≡ b p) → amount n x a ≡ amount n x b
amount-same n x a b h = total-same (length (variables n)) (λ i. a (variable_at n i) *ℤ x (suc (suc i))) (λ i. b (variable_at n i) *ℤ x (suc (suc i)))
    (λ i lt. ap (λ z. z *ℤ x (suc (suc i))) (h (variable_at n i) (known_at n i lt)))

-- a picks the place v alone
abbrev pub Picks : (Place → ℤ) → Place → Type 0
Picks a v = (p : Place) → (a p ≡ pos 0) ⊎ (p ≡ v)

-- of a variable that is 0 wherever it stands, the sum is 0
pub amount-none : (n : Limits) (x : ℕ → ℤ) (a : Place → ℤ) (v : Place) → Picks a v → ((s : Stands n v) → x s.at ≡ pos 0) → amount n x a ≡ pos 0
amount-none n x a v picks h = total-zero (length (variables n)) (λ i. a (variable_at n i) *ℤ x (suc (suc i))) (λ i lt. by_case i lt (picks (variable_at n i)))
  where
    by_case : (i : ℕ) → i < length (variables n) → (a (variable_at n i) ≡ pos 0) ⊎ (variable_at n i ≡ v) → a (variable_at n i) *ℤ x (suc (suc i)) ≡ pos 0
    by_case i lt (inl e) = ap (λ z. z *ℤ x (suc (suc i))) e ∙ zero-*ℤ (x (suc (suc i)))
    by_case i lt (inr e) = ap (λ z. a (variable_at n i) *ℤ z) (h (stands_at n i v lt e)) ∙ *ℤ-zero (a (variable_at n i))

pub amount-low : (n : Limits) (x : ℕ → ℤ) (a : Place → ℤ) → ((p : Place) → pos 0 ≤ℤ a p) → ((j : ℕ) → VALUE < j → pos 0 ≤ℤ x j) → pos 0 ≤ℤ amount n x a
amount-low n x a up low = total-not_negative (length (variables n)) (λ i. a (variable_at n i) *ℤ x (suc (suc i)))
    (λ i lt. not_negative (a (variable_at n i)) (x (suc (suc i))) (up (variable_at n i)) (low (suc (suc i)) (omega arith)))
