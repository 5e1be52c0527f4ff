-- when a choice is loose, by its sums
use Rattle.std.proofs.Common.{◌≡◌, ◌≤◌, ◌<◌, ◌+◌, ◌-◌, ◌*◌, ℕ, zero, suc, ℤ, pos, List, Bool, true, false, cond, ap, arith, ◌⊎◌, inl, inr}
use Rattle.std.proofs.Math.Nat.{mul-le-mul, mul-le-mul_right}
use Rattle.std.proofs.lemmas.Int.{ints}
use Rattle.std.proofs.lemmas.List.Sums.{sum_by-cons}
use Rattle.std.specs.Prelude.{◌+ℤ◌, ◌≤ℤ◌, ◌==◌, MatchBool, [], ◌∷◌}
use Rattle.crew_terms.specs.Instance.{task_of}
use Rattle.crew_terms.specs.Limits.{Limits, tasks_in, teams_in, is_required, pair_of}
use Rattle.crew_terms.specs.Total.{total}
use Rattle.crew_terms.specs.Totals.{lt_or_last}
use Rattle.share_terms.specs.Shares.{Share, FractionalChoice, IsLoose, task_gap, pair_gap, unassigned_of, shares_of, visits_to, weighed_visits, distance}

-- sums of numbers that are not negative
total_least : (m : ℕ) (f : ℕ → ℤ) → ((i : ℕ) → pos 0 ≤ℤ f i) → pos 0 ≤ℤ total m f
total_least zero f h = omega (arith, ints)
total_least (suc m) f h = let a = total_least m f h in let b = h m in omega (arith, ints)

total_term : (m : ℕ) (f : ℕ → ℤ) (j : ℕ) → ((i : ℕ) → pos 0 ≤ℤ f i) → j < m → f j ≤ℤ total m f
total_term zero f j h l = absurd (omega arith)
total_term (suc m) f j h l = at (λ k. total_term m f j h k) (lt_or_last m j l)
  where
    at : (j < m → f j ≤ℤ total m f) → (j < m) ⊎ (j ≡ m) → f j ≤ℤ total (suc m) f
    at more (inl k) = let a = more k in let b = h m in omega (arith, ints)
    at more (inr e) = let a = total_least m f h in let same : f j ≡ f m = ap f e in omega (arith, ints)

task_least : (n : Limits) (c : FractionalChoice) (j : ℕ) → pos 0 ≤ℤ task_gap n c j
task_least n c j = omega (arith, ints)

pair_least : (n : Limits) (c : FractionalChoice) (k j : ℕ) → pos 0 ≤ℤ pair_gap n c k j
pair_least n c k j = at (is_required (pair_of n k j))
  where
    at : (b : Bool) → pos 0 ≤ℤ cond b (pos (distance c.whole (weighed_visits (shares_of c.shares k) j))) (pos 0)
    at true = omega (arith, ints)
    at false = omega (arith, ints)

-- a team's visits to a task are not more than all
pub team_le : (shares : List Share) (k j : ℕ) → weighed_visits (shares_of shares k) j ≤ weighed_visits shares j
team_le [] k j = omega arith
team_le (s ∷ ss) k j = at (team_le ss k j) (k == s.route.team)
  where
    at : weighed_visits (shares_of ss k) j ≤ weighed_visits ss j → (b : Bool) → weighed_visits (cond b (s ∷ shares_of ss k) (shares_of ss k)) j ≤ weighed_visits (s ∷ ss) j
    at a true = omega (arith, sum_by-cons (λ (s : Share). s.parts * visits_to j s.route.visits) s (shares_of ss k), sum_by-cons (λ (s : Share). s.parts * visits_to j s.route.visits) s ss)
    at a false = omega (arith, sum_by-cons (λ (s : Share). s.parts * visits_to j s.route.visits) s ss)

-- a task with so many visits is far from what it needs
pub too_many : (n : Limits) (c : FractionalChoice) (now j : ℕ) → now ≤ 400 → 1 ≤ c.whole → j < tasks_in n → (task_of n.instance j).teams ≤ 8 → 1000 * c.whole ≤ weighed_visits c.shares j
    → IsLoose n c ((now - 1) * 1000 + 1) 1000 → ⊥
too_many n c now j few some known needs many loose =
    let w = c.whole in
    let wanted : (task_of n.instance j).teams * (w - unassigned_of c j) ≤ 8 * w = mul-le-mul needs (let l : w - unassigned_of c j ≤ w = omega arith in l) in
    let gap : pos (992 * w) ≤ℤ task_gap n c j = omega (arith, ints) in
    let all = total_term (tasks_in n) (task_gap n c) j (task_least n c) known in
    let spares = total_least (tasks_in n) (λ i. pos (unassigned_of c i)) (λ i. omega (arith, ints)) in
    let pairs = total_least (teams_in n) (λ k. total (tasks_in n) (pair_gap n c k)) (λ k. total_least (tasks_in n) (pair_gap n c k) (pair_least n c k)) in
    let most : ((now - 1) * 1000 + 1) * w ≤ 399001 * w = mul-le-mul_right w (omega arith) in
    omega (arith, ints)

-- the value by its sums
pub loose_by : (n : Limits) (c : FractionalChoice) (now g s : ℕ) (tasks pairs : ℤ) → pos s ≡ total (tasks_in n) (λ j. pos (unassigned_of c j)) → tasks ≡ total (tasks_in n) (task_gap n c)
    → pairs ≡ total (teams_in n) (λ k. total (tasks_in n) (pair_gap n c k)) → pos g ≡ tasks +ℤ pairs
    → (1000 * (s + 1000000 * g) ≤ ((now - 1) * 1000 + 1) * c.whole → IsLoose n c ((now - 1) * 1000 + 1) 1000)
    × (IsLoose n c ((now - 1) * 1000 + 1) 1000 → 1000 * (s + 1000000 * g) ≤ ((now - 1) * 1000 + 1) * c.whole)
loose_by n c now g s tasks pairs a b d e = (λ l. omega (arith, ints), λ l. omega (arith, ints))

pub either : (b : Bool) (P Q : Type 0) → MatchBool b P (P → ⊥) → (P → Q) → (Q → P) → MatchBool b Q (Q → ⊥)
either true P Q m f g = f m
either false P Q m f g = λ q. m (g q)
