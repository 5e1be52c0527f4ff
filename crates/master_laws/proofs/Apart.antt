-- the opening rows: each basic variable stands in its own row alone
use Rattle.std.proofs.Common.{◌≡◌, ◌≢◌, ◌≤◌, ◌<◌, ◌+◌, ◌&&◌, ℕ, suc, zero, List, [], ◌∷◌, ◌++◌, length, get_or, refl, ap, sym, arith, ◌∙◌, subst, ◌⊎◌, inl, inr, Bool, true, false, cond, map, flat_map, filter, not}
use Rattle.std.specs.Prelude.{pos, ◌≤ℤ◌}
use Rattle.std.specs.List.{range_with_len}
use Rattle.std.proofs.Math.Dec.{eqb}
use Rattle.std.proofs.lemmas.Bool.Decides.{eqb_tells}
use Rattle.std.proofs.lemmas.List.Elements.{filter-append}
use Rattle.std.proofs.lemmas.List.{append-nil}
use Rattle.std.proofs.lemmas.Bool.{cases_lt}
use Rattle.std.proofs.lemmas.List.Concat.{flat_map-append}
use Rattle.std.proofs.lemmas.Int.{ints}
use Rattle.crew_terms.specs.Limits.{Limits, tasks_in, teams_in, pair_of, has_required, is_required}
use Rattle.search_terms.specs.declared.Place.{Place}
use Rattle.search_terms.specs.declared.Place.TheVariants.{Right, Value, Unused, Unassigned, Shortage, Excess, Missed, Repeated}
use Rattle.search_terms.specs.Opening.{required_pairs, places, basics, basic_at, opens, one_if, basic_number}
use Rattle.master_laws.proofs.Below.{below}

-- neither stands in the row of the other
abbrev pub AreApart : Limits → Place → Place → Type 0
AreApart n b c = (basic_number n b c ≡ pos 0) × (basic_number n c b ≡ pos 0)

abbrev ApartFrom : Limits → Place → List Place → Type 0
ApartFrom n b [] = Unit {0}
ApartFrom n b (c ∷ cs) = AreApart n b c × ApartFrom n b cs

abbrev AllApart : Limits → List Place → Type 0
AllApart n [] = Unit {0}
AllApart n (b ∷ bs) = ApartFrom n b bs × AllApart n bs

abbrev EachFrom : Limits → List Place → List Place → Type 0
EachFrom n [] cs = Unit {0}
EachFrom n (b ∷ bs) cs = ApartFrom n b cs × EachFrom n bs cs

from-append : (n : Limits) (b : Place) (xs ys : List Place) → ApartFrom n b xs → ApartFrom n b ys → ApartFrom n b (xs ++ ys)
from-append n b [] ys p q = q
from-append n b (x ∷ xs) ys p q = (p.0, from-append n b xs ys p.1 q)

all-append : (n : Limits) (xs ys : List Place) → AllApart n xs → AllApart n ys → EachFrom n xs ys → AllApart n (xs ++ ys)
all-append n [] ys p q r = q
all-append n (x ∷ xs) ys p q r = (from-append n x xs ys p.0 r.0, all-append n xs ys p.1 q r.1)

each-append : (n : Limits) (xs ys cs : List Place) → EachFrom n xs cs → EachFrom n ys cs → EachFrom n (xs ++ ys) cs
each-append n [] ys cs p q = q
each-append n (x ∷ xs) ys cs p q = (p.0, each-append n xs ys cs p.1 q)

from-map : {A : Type 0} (n : Limits) (b : Place) (f : A → Place) (xs : List A) → ((x : A) → AreApart n b (f x)) → ApartFrom n b (map f xs)
from-map n b f [] h = tt
from-map n b f (x ∷ xs) h = (h x, from-map n b f xs h)

each-map : {A B : Type 0} (n : Limits) (g : A → Place) (f : B → Place) (xs : List A) (ys : List B) → ((x : A) (y : B) → AreApart n (g x) (f y)) → EachFrom n (map g xs) (map f ys)
each-map n g f [] ys h = tt
each-map n g f (x ∷ xs) ys h = (from-map n (g x) f ys (h x), each-map n g f xs ys h)

from_at : (n : Limits) (b : Place) (cs : List Place) (i : ℕ) → ApartFrom n b cs → i < length cs → AreApart n b (get_or cs i Value)
from_at n b [] i p below = absurd (omega arith)
from_at n b (c ∷ cs) zero p below = p.0
from_at n b (c ∷ cs) (suc i) p below = from_at n b cs i p.1 (omega arith)

all_at : (n : Limits) (cs : List Place) (h i : ℕ) → AllApart n cs → h < i → i < length cs → AreApart n (get_or cs h Value) (get_or cs i Value)
all_at n [] h i p less below = absurd (omega arith)
all_at n (c ∷ cs) h zero p less below = absurd (omega arith)
all_at n (c ∷ cs) zero (suc i) p less below = from_at n c cs i p.0 (omega arith)
all_at n (c ∷ cs) (suc h) (suc i) p less below = all_at n cs h i p.1 (omega arith) (omega arith)

pub not_same : (a b : ℕ) → a ≢ b → eqb a b ≡ false
not_same a b ne = by_case (eqb_tells a b)
  where
    by_case : ((eqb a b ≡ true) × (a ≡ b)) ⊎ ((eqb a b ≡ false) × (a ≢ b)) → eqb a b ≡ false
    by_case (inl q) = absurd (ne q.1)
    by_case (inr q) = q.0

pub same : (a : ℕ) → eqb a a ≡ true
same a = by_case (eqb_tells a a)
  where
    by_case : ((eqb a a ≡ true) × (a ≡ a)) ⊎ ((eqb a a ≡ false) × (a ≢ a)) → eqb a a ≡ true
    by_case (inl q) = q.0
    by_case (inr q) = absurd (q.1 refl)

-- ---- of one kind
teams_apart : (n : Limits) (a b : ℕ) → a ≢ b → AreApart n (Unused a) (Unused b)
teams_apart n a b ne = (ap one_if (not_same b a (λ e. ne (sym e))), ap one_if (not_same a b ne))

tasks_apart : (n : Limits) (a b : ℕ) → a ≢ b → AreApart n (Shortage a) (Shortage b)
tasks_apart n a b ne = (ap one_if (not_same b a (λ e. ne (sym e))), ap one_if (not_same a b ne))

pub and_false : (a : Bool) → (a && false) ≡ false
and_false true = refl
and_false false = refl

pairs_apart : (n : Limits) (k j h i : ℕ) → (k ≢ h) ⊎ (j ≢ i) → AreApart n (Missed k j) (Missed h i)
pairs_apart n k j h i (inl ne) = (ap (λ t. one_if (t && eqb i j)) (not_same h k (λ e. ne (sym e))), ap (λ t. one_if (t && eqb j i)) (not_same k h ne))
pairs_apart n k j h i (inr ne) = (
  ap (λ t. one_if (eqb h k && t)) (not_same i j (λ e. ne (sym e))) ∙ ap one_if (and_false (eqb h k)),
  ap (λ t. one_if (eqb k h && t)) (not_same j i ne) ∙ ap one_if (and_false (eqb k h)),
)

later_from : (n : Limits) (f : ℕ → Place) → ((a b : ℕ) → a ≢ b → AreApart n (f a) (f b)) → (a b m : ℕ) → a < b → ApartFrom n (f a) (map f (range_with_len b m))
later_from n f apart a b zero less = tt
later_from n f apart a b (suc m) less = (apart a b (omega arith), later_from n f apart a (b + 1) m (omega arith))

rising : (n : Limits) (f : ℕ → Place) → ((a b : ℕ) → a ≢ b → AreApart n (f a) (f b)) → (b m : ℕ) → AllApart n (map f (range_with_len b m))
rising n f apart b zero = tt
rising n f apart b (suc m) = (later_from n f apart b (b + 1) m (omega arith), rising n f apart (b + 1) m)

missed : ℕ × ℕ → Place
missed q = Missed q.0 q.1

-- ---- the required pairs of a task, and of later tasks
abbrev pub teams_of : (ℕ → Bool) → ℕ → ℕ → List ℕ
teams_of test a m = filter test (range_with_len a m)

team_from : (n : Limits) (test : ℕ → Bool) (j a b m : ℕ) → a < b → ApartFrom n (Missed a j) (map (λ k. Missed k j) (teams_of test b m))
team_from n test j a b zero less = tt
team_from n test j a b (suc m) less = by_test (test b) (team_from n test j a (b + 1) m (omega arith))
  where
    by_test : (t : Bool) → ApartFrom n (Missed a j) (map (λ k. Missed k j) (teams_of test (b + 1) m))
        → ApartFrom n (Missed a j) (map (λ k. Missed k j) (cond t (b ∷ teams_of test (b + 1) m) (teams_of test (b + 1) m)))
    by_test true p = (let ne : a ≢ b = omega arith in pairs_apart n a j b j (inl ne), p)
    by_test false p = p

team_all : (n : Limits) (test : ℕ → Bool) (j b m : ℕ) → AllApart n (map (λ k. Missed k j) (teams_of test b m))
team_all n test j b zero = tt
team_all n test j b (suc m) = by_test (test b) (team_all n test j (b + 1) m)
  where
    by_test : (t : Bool) → AllApart n (map (λ k. Missed k j) (teams_of test (b + 1) m))
        → AllApart n (map (λ k. Missed k j) (cond t (b ∷ teams_of test (b + 1) m) (teams_of test (b + 1) m)))
    by_test true p = (team_from n test j b (b + 1) m (omega arith), p)
    by_test false p = p

other_task : (n : Limits) (k j i : ℕ) (hs : List ℕ) → j ≢ i → ApartFrom n (Missed k j) (map (λ h. Missed h i) hs)
other_task n k j i hs ne = from-map n (Missed k j) (λ h. Missed h i) hs (λ h. pairs_apart n k j h i (inr ne))

-- the missed parts of the tasks from b on
abbrev pub missed_from : (ℕ → ℕ → Bool) → ℕ → ℕ → ℕ → List Place
missed_from test teams b zero = []
missed_from test teams b (suc m) = map (λ k. Missed k b) (teams_of (λ k. test k b) 0 teams) ++ missed_from test teams (b + 1) m

later_tasks : (n : Limits) (test : ℕ → ℕ → Bool) (teams k j b m : ℕ) → j < b → ApartFrom n (Missed k j) (missed_from test teams b m)
later_tasks n test teams k j b zero less = tt
later_tasks n test teams k j b (suc m) less =
    let ne : j ≢ b = omega arith in
    from-append n (Missed k j) (map (λ k. Missed k b) (teams_of (λ k. test k b) 0 teams)) (missed_from test teams (b + 1) m)
    (other_task n k j b (teams_of (λ k. test k b) 0 teams) ne) (later_tasks n test teams k j (b + 1) m (omega arith))

each_later : (n : Limits) (test : ℕ → ℕ → Bool) (teams j b m : ℕ) (ks : List ℕ) → j < b → EachFrom n (map (λ k. Missed k j) ks) (missed_from test teams b m)
each_later n test teams j b m [] less = tt
each_later n test teams j b m (k ∷ ks) less = (later_tasks n test teams k j b m less, each_later n test teams j b m ks less)

missed_all : (n : Limits) (test : ℕ → ℕ → Bool) (teams b m : ℕ) → AllApart n (missed_from test teams b m)
missed_all n test teams b zero = tt
missed_all n test teams b (suc m) =
    let ks = teams_of (λ k. test k b) 0 teams in
    all-append n (map (λ k. Missed k b) ks) (missed_from test teams (b + 1) m)
    (team_all n (λ k. test k b) b 0 teams) (missed_all n test teams (b + 1) m) (each_later n test teams b (b + 1) m ks (omega arith))

-- ---- what opens a row among the variables
two : ℕ → List Place
two j = Shortage j ∷ Excess j ∷ []

both : ℕ × ℕ → List Place
both q = Missed q.0 q.1 ∷ Repeated q.0 q.1 ∷ []

open_teams : (ks : List ℕ) → filter opens (map Unused ks) ≡ map Unused ks
open_teams [] = refl
open_teams (k ∷ ks) = ap (λ l. Unused k ∷ l) (open_teams ks)

open_shares : (js : List ℕ) → filter opens (map Unassigned js) ≡ []
open_shares [] = refl
open_shares (j ∷ js) = open_shares js

open_tasks : (js : List ℕ) → filter opens (flat_map (λ j. Shortage j ∷ Excess j ∷ []) js) ≡ map Shortage js
open_tasks [] = refl
open_tasks (j ∷ js) = ap (λ l. Shortage j ∷ l) (open_tasks js)

open_row : (b : ℕ) (ks : List ℕ) → filter opens (flat_map (λ (q : ℕ × ℕ). Missed q.0 q.1 ∷ Repeated q.0 q.1 ∷ []) (map (λ k. (k, b)) ks)) ≡ map (λ k. Missed k b) ks
open_row b [] = refl
open_row b (k ∷ ks) = ap (λ l. Missed k b ∷ l) (open_row b ks)

pairs_from : (ℕ → ℕ → Bool) → ℕ → ℕ → ℕ → List (ℕ × ℕ)
pairs_from test teams b m = flat_map (λ j. map (λ k. (k, j)) (teams_of (λ k. test k j) 0 teams)) (range_with_len b m)

open_pairs : (test : ℕ → ℕ → Bool) (teams b m : ℕ)
    → filter opens (flat_map (λ (q : ℕ × ℕ). Missed q.0 q.1 ∷ Repeated q.0 q.1 ∷ []) (pairs_from test teams b m)) ≡ missed_from test teams b m
unfolding pairs_from
open_pairs test teams b zero = refl
open_pairs test teams b (suc m) =
    let f : ℕ × ℕ → List Place = λ q. Missed q.0 q.1 ∷ Repeated q.0 q.1 ∷ [] in
    let row = map (λ k. (k, b)) (teams_of (λ k. test k b) 0 teams) in
    let rest = pairs_from test teams (b + 1) m in
    ap (filter opens) (flat_map-append f row rest)
    ∙ filter-append opens (flat_map f row) (flat_map f rest)
    ∙ ap (λ l. l ++ filter opens (flat_map f rest)) (open_row b (teams_of (λ k. test k b) 0 teams))
    ∙ ap (λ l. map (λ k. Missed k b) (teams_of (λ k. test k b) 0 teams) ++ l) (open_pairs test teams (b + 1) m)

pub basics_are : (n : Limits) → basics (places n) ≡ (map Unused (below (teams_in n)) ++ map Shortage (below (tasks_in n)))
    ++ missed_from (λ k j. is_required (pair_of n k j)) (teams_in n) 0 (tasks_in n)
unfolding pairs_from
basics_are n =
    let ks = below (teams_in n) in
    let js = below (tasks_in n) in
    let free = filter (λ j. not (has_required n j)) js in
    let a = map Unused ks in
    let b = map Unassigned free in
    let c = flat_map (λ j. Shortage j ∷ Excess j ∷ []) js in
    let d = flat_map (λ (q : ℕ × ℕ). Missed q.0 q.1 ∷ Repeated q.0 q.1 ∷ []) (required_pairs n) in
    let e = open_pairs (λ k j. is_required (pair_of n k j)) (teams_in n) 0 (tasks_in n) in
    filter-append opens (a ++ b ++ c) d
    ∙ ap (λ l. l ++ filter opens d) (filter-append opens (a ++ b) c ∙ ap (λ l. l ++ filter opens c) (filter-append opens a b))
    ∙ ap (λ l. ((l ++ filter opens b) ++ filter opens c) ++ filter opens d) (open_teams ks)
    ∙ ap (λ l. ((map Unused ks ++ l) ++ filter opens c) ++ filter opens d) (open_shares free)
    ∙ ap (λ l. (l ++ filter opens c) ++ filter opens d) (append-nil (map Unused ks))
    ∙ ap (λ l. (map Unused ks ++ l) ++ filter opens d) (open_tasks js)
    ∙ ap (λ l. (map Unused ks ++ map Shortage js) ++ l) e

kinds_apart : (n : Limits) (k j : ℕ) → AreApart n (Unused k) (Shortage j)
kinds_apart n k j = (refl, refl)

each_missed : (n : Limits) (f : ℕ → Place) → ((x k j : ℕ) → AreApart n (f x) (Missed k j)) → (test : ℕ → ℕ → Bool) (teams b m : ℕ) (xs : List ℕ) → EachFrom n (map f xs) (missed_from test teams b m)
each_missed n f apart test teams b m [] = tt
each_missed n f apart test teams b m (x ∷ xs) = (from b m, each_missed n f apart test teams b m xs)
  where
    from : (b m : ℕ) → ApartFrom n (f x) (missed_from test teams b m)
    from b zero = tt
    from b (suc m) = from-append n (f x) (map (λ k. Missed k b) (teams_of (λ k. test k b) 0 teams)) (missed_from test teams (b + 1) m)
        (from-map n (f x) (λ k. Missed k b) (teams_of (λ k. test k b) 0 teams) (λ k. apart x k b)) (from (b + 1) m)

all_apart : (n : Limits) → AllApart n (basics (places n))
all_apart n =
    let ks = below (teams_in n) in
    let js = below (tasks_in n) in
    let test : ℕ → ℕ → Bool = λ k j. is_required (pair_of n k j) in
    let d = missed_from test (teams_in n) 0 (tasks_in n) in
    subst (AllApart n) (sym (basics_are n))
    (all-append n (map Unused ks ++ map Shortage js) d
    (all-append n (map Unused ks) (map Shortage js) (rising n Unused (teams_apart n) 0 (teams_in n)) (rising n Shortage (tasks_apart n) 0 (tasks_in n))
    (each-map n Unused Shortage ks js (kinds_apart n)))
    (missed_all n test (teams_in n) 0 (tasks_in n))
    (each-append n (map Unused ks) (map Shortage js) d
    (each_missed n Unused (λ x k j. (refl, refl)) test (teams_in n) 0 (tasks_in n) ks)
    (each_missed n Shortage (λ x k j. (refl, refl)) test (teams_in n) 0 (tasks_in n) js)))

-- two different basic variables
pub basics_apart : (n : Limits) (h i : ℕ) → h < length (basics (places n)) → i < length (basics (places n)) → h ≢ i
    → basic_number n (basic_at (places n) h) (basic_at (places n) i) ≡ pos 0
basics_apart n h i in_h in_i ne = by_order (cases_lt h i)
  where
    by_order : (h < i) ⊎ (i ≤ h) → basic_number n (basic_at (places n) h) (basic_at (places n) i) ≡ pos 0
    by_order (inl less) = (all_at n (basics (places n)) h i (all_apart n) less in_i).0
    by_order (inr le) = let less : i < h = omega arith in (all_at n (basics (places n)) i h (all_apart n) less in_h).1

pub basic_one : (n : Limits) (b : Place) → opens b ≡ true → basic_number n b b ≡ pos 1
basic_one n Value e = absurd (cc)
basic_one n Right e = absurd (cc)
basic_one n (Unused k) e = ap one_if (same k)
basic_one n (Unassigned k) e = absurd (cc)
basic_one n (Shortage k) e = ap one_if (same k)
basic_one n (Excess k) e = absurd (cc)
basic_one n (Missed k j) e = ap (λ t. one_if (t && eqb j j)) (same k) ∙ ap one_if (same j)
basic_one n (Repeated k j) e = absurd (cc)

pub basic_value : (n : Limits) (b : Place) → basic_number n b Value ≡ pos 0
basic_value n Value = refl
basic_value n Right = refl
basic_value n (Unused k) = refl
basic_value n (Unassigned k) = refl
basic_value n (Shortage k) = refl
basic_value n (Excess k) = refl
basic_value n (Missed k j) = refl
basic_value n (Repeated k j) = refl

pub basic_right : (n : Limits) (b : Place) → pos 0 ≤ℤ basic_number n b Right
basic_right n Value = omega (arith, ints)
basic_right n Right = omega (arith, ints)
basic_right n (Unused k) = omega (arith, ints)
basic_right n (Unassigned k) = omega (arith, ints)
basic_right n (Shortage k) = omega (arith, ints)
basic_right n (Excess k) = omega (arith, ints)
basic_right n (Missed k j) = omega (arith, ints)
basic_right n (Repeated k j) = omega (arith, ints)
