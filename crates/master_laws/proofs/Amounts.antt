-- the sums of a vector that solves rows of a run: by teams, tasks and required pairs, and its value
use Rattle.std.proofs.Common.{◌≡◌, ◌≢◌, ◌<◌, ◌+◌, ◌&&◌, ◌∙◌, ℕ, suc, List, length, get_or, refl, ap, sym, arith, Bool, true, false, cond, ◌⊎◌, inl, inr}
use Rattle.std.specs.Prelude.{ℤ, pos, ◌+ℤ◌, ◌-ℤ◌, ◌*ℤ◌, ◌==◌}
use Rattle.std.proofs.Math.Dec.{eqb}
use Rattle.std.proofs.lemmas.Bool.Decides.{eqb_tells}
use Rattle.std.proofs.lemmas.Int.{ints}
use Rattle.std.proofs.Math.IntN.{*ℤ_comm, *ℤ-zero, zero-*ℤ}
use Rattle.crew_terms.specs.Limits.{Limits, tasks_in, teams_in, Route}
use Rattle.crew_terms.specs.Total.{total}
use Rattle.search_terms.specs.declared.Place.{Place}
use Rattle.search_terms.specs.declared.Place.TheVariants.{Right, Value, Unused, Unassigned, Shortage, Excess, Missed, Repeated}
use Rattle.search_terms.specs.Rows.{Rows, IsSolution}
use Rattle.search_terms.specs.Opening.{variables, places, place_at, basic_number, visit_number, cost, one_if, less_one_if, teams_for}
use Rattle.crew_num.specs.Ring.{minus_times, scale_diff, assoc, sum_times, difference_times}
use Rattle.crew_terms.specs.Totals.{total-same, total-zero, total-one, total-front, total-plus, total-swap}
use Rattle.master_laws.proofs.Totals.{total-minus, total-scale}
use Rattle.master_laws.proofs.Apart.{not_same, same, and_false, basic_value}
use Rattle.master_laws.proofs.Costs.{IsCosted}
use Rattle.master_laws.proofs.Duals.{no_route}
use Rattle.master_laws.proofs.Summed.{IsSummed}
use Rattle.master_laws.proofs.Stands.{Opens}
use Rattle.master_laws.proofs.Known.{IsKnown, variable_at, amount, amount-same, Picks}
use Rattle.share_terms.specs.declared.TheConstants.{BIG_M}
use Rattle.search_terms.specs.declared.TheConstants.{VALUE}

abbrev pub unused_at : ℕ → Place → ℤ
unused_at k (Unused h) = one_if (h == k)
unused_at k _ = pos 0

abbrev pub open_at : ℕ → Place → ℤ
open_at j (Unassigned i) = one_if (i == j)
open_at j _ = pos 0

abbrev pub short_at : ℕ → Place → ℤ
short_at j (Shortage i) = one_if (i == j)
short_at j _ = pos 0

abbrev pub over_at : ℕ → Place → ℤ
over_at j (Excess i) = one_if (i == j)
over_at j _ = pos 0

abbrev pub miss_at : ℕ → ℕ → Place → ℤ
miss_at k j (Missed h i) = one_if ((h == k) && (i == j))
miss_at k j _ = pos 0

abbrev pub again_at : ℕ → ℕ → Place → ℤ
again_at k j (Repeated h i) = one_if ((h == k) && (i == j))
again_at k j _ = pos 0

-- ---- each picks one variable
picks_one : (f : ℕ → Place) (i j : ℕ) → (one_if (eqb i j) ≡ pos 0) ⊎ (f i ≡ f j)
picks_one f i j = by_case (eqb_tells i j)
  where
    by_case : ((eqb i j ≡ true) × (i ≡ j)) ⊎ ((eqb i j ≡ false) × (i ≢ j)) → (one_if (eqb i j) ≡ pos 0) ⊎ (f i ≡ f j)
    by_case (inl q) = inr (ap f q.1)
    by_case (inr q) = inl (ap one_if q.0)

picks_both : (f : ℕ → ℕ → Place) (h i k j : ℕ) → (one_if (eqb h k && eqb i j) ≡ pos 0) ⊎ (f h i ≡ f k j)
picks_both f h i k j = by_case (eqb_tells h k) (eqb_tells i j)
  where
    by_case : ((eqb h k ≡ true) × (h ≡ k)) ⊎ ((eqb h k ≡ false) × (h ≢ k)) → ((eqb i j ≡ true) × (i ≡ j)) ⊎ ((eqb i j ≡ false) × (i ≢ j))
        → (one_if (eqb h k && eqb i j) ≡ pos 0) ⊎ (f h i ≡ f k j)
    by_case (inl q) (inl r) = inr (ap (λ z. f z i) q.1 ∙ ap (f k) r.1)
    by_case (inl q) (inr r) = inl (ap (λ t. one_if (eqb h k && t)) r.0 ∙ ap one_if (and_false (eqb h k)))
    by_case (inr q) r = inl (ap (λ t. one_if (t && eqb i j)) q.0)

pub picks_unused : (k : ℕ) → Picks (unused_at k) (Unused k)
picks_unused k (Unused h) = picks_one Unused h k
picks_unused k Right = inl refl
picks_unused k Value = inl refl
picks_unused k (Unassigned i) = inl refl
picks_unused k (Shortage i) = inl refl
picks_unused k (Excess i) = inl refl
picks_unused k (Missed h i) = inl refl
picks_unused k (Repeated h i) = inl refl

pub picks_open : (j : ℕ) → Picks (open_at j) (Unassigned j)
picks_open j (Unassigned i) = picks_one Unassigned i j
picks_open j Right = inl refl
picks_open j Value = inl refl
picks_open j (Unused i) = inl refl
picks_open j (Shortage i) = inl refl
picks_open j (Excess i) = inl refl
picks_open j (Missed h i) = inl refl
picks_open j (Repeated h i) = inl refl

pub picks_short : (j : ℕ) → Picks (short_at j) (Shortage j)
picks_short j (Shortage i) = picks_one Shortage i j
picks_short j Right = inl refl
picks_short j Value = inl refl
picks_short j (Unused i) = inl refl
picks_short j (Unassigned i) = inl refl
picks_short j (Excess i) = inl refl
picks_short j (Missed h i) = inl refl
picks_short j (Repeated h i) = inl refl

pub picks_over : (j : ℕ) → Picks (over_at j) (Excess j)
picks_over j (Excess i) = picks_one Excess i j
picks_over j Right = inl refl
picks_over j Value = inl refl
picks_over j (Unused i) = inl refl
picks_over j (Unassigned i) = inl refl
picks_over j (Shortage i) = inl refl
picks_over j (Missed h i) = inl refl
picks_over j (Repeated h i) = inl refl

pub picks_miss : (k j : ℕ) → Picks (miss_at k j) (Missed k j)
picks_miss k j (Missed h i) = picks_both Missed h i k j
picks_miss k j Right = inl refl
picks_miss k j Value = inl refl
picks_miss k j (Unused i) = inl refl
picks_miss k j (Unassigned i) = inl refl
picks_miss k j (Shortage i) = inl refl
picks_miss k j (Excess h) = inl refl
picks_miss k j (Repeated h i) = inl refl

pub picks_again : (k j : ℕ) → Picks (again_at k j) (Repeated k j)
picks_again k j (Repeated h i) = picks_both Repeated h i k j
picks_again k j Right = inl refl
picks_again k j Value = inl refl
picks_again k j (Unused i) = inl refl
picks_again k j (Unassigned i) = inl refl
picks_again k j (Shortage i) = inl refl
picks_again k j (Excess h) = inl refl
picks_again k j (Missed h i) = inl refl

-- ---- amounts are linear
pub amount-plus : (n : Limits) (x : ℕ → ℤ) (a b : Place → ℤ) → amount n x (λ p. a p +ℤ b p) ≡ amount n x a +ℤ amount n x b
amount-plus n x a b =
    total-same (length (variables n)) (λ i. (a (variable_at n i) +ℤ b (variable_at n i)) *ℤ x (suc (suc i))) (λ i. (a (variable_at n i) *ℤ x (suc (suc i))) +ℤ (b (variable_at n i) *ℤ x (suc (suc i))))
    (λ i _. sum_times (a (variable_at n i)) (b (variable_at n i)) (x (suc (suc i))))
    ∙ total-plus (length (variables n)) (λ i. a (variable_at n i) *ℤ x (suc (suc i))) (λ i. b (variable_at n i) *ℤ x (suc (suc i)))

pub amount-minus : (n : Limits) (x : ℕ → ℤ) (a b : Place → ℤ) → amount n x (λ p. a p -ℤ b p) ≡ amount n x a -ℤ amount n x b
amount-minus n x a b =
    total-same (length (variables n)) (λ i. (a (variable_at n i) -ℤ b (variable_at n i)) *ℤ x (suc (suc i))) (λ i. (a (variable_at n i) *ℤ x (suc (suc i))) -ℤ (b (variable_at n i) *ℤ x (suc (suc i))))
    (λ i _. difference_times (a (variable_at n i)) (b (variable_at n i)) (x (suc (suc i))))
    ∙ total-minus (length (variables n)) (λ i. a (variable_at n i) *ℤ x (suc (suc i))) (λ i. b (variable_at n i) *ℤ x (suc (suc i)))

pub amount-scale : (n : Limits) (x : ℕ → ℤ) (c : ℤ) (a : Place → ℤ) → amount n x (λ p. c *ℤ a p) ≡ c *ℤ amount n x a
amount-scale n x c a =
    total-same (length (variables n)) (λ i. (c *ℤ a (variable_at n i)) *ℤ x (suc (suc i))) (λ i. c *ℤ (a (variable_at n i) *ℤ x (suc (suc i))))
    (λ i _. assoc c (a (variable_at n i)) (x (suc (suc i))))
    ∙ sym (total-scale (length (variables n)) c (λ i. a (variable_at n i) *ℤ x (suc (suc i))))

pub amount-total : (n : Limits) (x : ℕ → ℤ) (m : ℕ) (a : ℕ → Place → ℤ) → amount n x (λ p. total m (λ j. a j p)) ≡ total m (λ j. amount n x (a j))
amount-total n x m a =
    total-same (length (variables n)) (λ i. total m (λ j. a j (variable_at n i)) *ℤ x (suc (suc i))) (λ i. total m (λ j. a j (variable_at n i) *ℤ x (suc (suc i))))
    (λ i _. *ℤ_comm (total m (λ j. a j (variable_at n i))) (x (suc (suc i))) ∙ total-scale m (x (suc (suc i))) (λ j. a j (variable_at n i))
    ∙ total-same m (λ j. x (suc (suc i)) *ℤ a j (variable_at n i)) (λ j. a j (variable_at n i) *ℤ x (suc (suc i))) (λ j _. *ℤ_comm (x (suc (suc i))) (a j (variable_at n i))))
    ∙ total-swap (length (variables n)) m (λ i j. a j (variable_at n i) *ℤ x (suc (suc i)))

-- ---- the row that opens with p
summed_at : (n : Limits) (routes : List Route) (t : Rows) (x : ℕ → ℤ) (p : Place) → IsSummed n routes t → IsSolution t x → Opens n p
    → ((basic_number n p Right *ℤ x 0) +ℤ amount n x (basic_number n p)) +ℤ total (length routes) (λ i. visit_number (get_or routes i no_route) p *ℤ x (length (places n) + i)) ≡ pos 0
summed_at n routes t x p s solves o =
    let e = s.each x solves o.row o.known in
    let f = ap (λ b. total (length (places n)) (λ j. basic_number n b (place_at (places n) j) *ℤ x j)) o.is in
    let g = ap (λ b. total (length routes) (λ i. visit_number (get_or routes i no_route) b *ℤ x (length (places n) + i))) o.is in
    let l = length (variables n) in
    let q : ℕ → ℤ = λ j. basic_number n p (place_at (places n) j) *ℤ x j in
    let h = total-front (suc l) q in
    let i = total-front l (λ j. q (suc j)) in
    let v = ap (λ z. z *ℤ x 1) (basic_value n p) ∙ zero-*ℤ (x 1) in
    let k : total (suc (suc l)) q ≡ total (length (places n)) q = refl in
    omega (arith, ints)

-- the routes' part in the row that opens with p
abbrev pub taken : Limits → List Route → (ℕ → ℤ) → Place → ℤ
taken n routes x p = total (length routes) (λ i. visit_number (get_or routes i no_route) p *ℤ x (length (places n) + i))

times_right : (c r whole : ℤ) → r ≡ pos 0 -ℤ whole → c *ℤ r ≡ pos 0 -ℤ (c *ℤ whole)
times_right c r whole e =
    let f = ap (λ z. c *ℤ z) e in
    let g = scale_diff c (pos 0) whole in
    let h = *ℤ-zero c in
    omega (arith, ints)

pub team_sum : (n : Limits) (routes : List Route) (t : Rows) (x : ℕ → ℤ) (whole : ℤ) (k : ℕ) → IsSummed n routes t → IsSolution t x → x 0 ≡ pos 0 -ℤ whole → Opens n (Unused k)
    → amount n x (unused_at k) +ℤ taken n routes x (Unused k) ≡ whole
team_sum n routes t x whole k s solves right o =
    let e = summed_at n routes t x (Unused k) s solves o in
    let f = times_right (pos 1) (x 0) whole right in
    let g = amount-same n x (basic_number n (Unused k)) (unused_at k) (same_at k) in
    let i : pos 1 *ℤ whole ≡ whole = omega (arith, ints) in
    omega (arith, ints)
  where
    same_at : (k : ℕ) (p : Place) → IsKnown n p → basic_number n (Unused k) p ≡ unused_at k p
    same_at k Right z = absurd z
    same_at k Value z = refl
    same_at k (Unused h) z = refl
    same_at k (Unassigned i) z = refl
    same_at k (Shortage i) z = refl
    same_at k (Excess i) z = refl
    same_at k (Missed h i) z = refl
    same_at k (Repeated h i) z = refl

pub task_sum : (n : Limits) (routes : List Route) (t : Rows) (x : ℕ → ℤ) (whole : ℤ) (j : ℕ) → IsSummed n routes t → IsSolution t x → x 0 ≡ pos 0 -ℤ whole → Opens n (Shortage j)
    → (((pos (teams_for n j) *ℤ amount n x (open_at j)) +ℤ amount n x (short_at j)) -ℤ amount n x (over_at j)) +ℤ taken n routes x (Shortage j) ≡ pos (teams_for n j) *ℤ whole
task_sum n routes t x whole j s solves right o =
    let r = pos (teams_for n j) in
    let e = summed_at n routes t x (Shortage j) s solves o in
    let f = times_right r (x 0) whole right in
    let g = amount-same n x (basic_number n (Shortage j)) (λ p. ((r *ℤ open_at j p) +ℤ short_at j p) -ℤ over_at j p) (same_at r (*ℤ-zero r) refl) in
    let h = amount-minus n x (λ p. (r *ℤ open_at j p) +ℤ short_at j p) (over_at j) in
    let i = amount-plus n x (λ p. r *ℤ open_at j p) (short_at j) in
    let k = amount-scale n x r (open_at j) in
    omega (arith, ints)
  where
    with_test : (r : ℤ) (b : Bool) → cond b r (pos 0) ≡ ((r *ℤ one_if b) +ℤ pos 0) -ℤ pos 0
    with_test r true = let e = *ℤ_comm r (pos 1) in omega (arith, ints)
    with_test r false = let e = *ℤ-zero r in omega (arith, ints)

    less_test : (z : ℤ) (b : Bool) → z ≡ pos 0 → less_one_if b ≡ (z +ℤ pos 0) -ℤ one_if b
    less_test z true e = omega (arith, ints)
    less_test z false e = omega (arith, ints)

    same_at : (r : ℤ) → r *ℤ pos 0 ≡ pos 0 → r ≡ pos (teams_for n j) → (p : Place) → IsKnown n p → basic_number n (Shortage j) p ≡ ((r *ℤ open_at j p) +ℤ short_at j p) -ℤ over_at j p
    same_at r z e Right u = absurd u
    same_at r z e Value u = omega (arith, ints)
    same_at r z e (Unused h) u = omega (arith, ints)
    same_at r z e (Unassigned i) u = ap (λ q. cond (eqb i j) q (pos 0)) (sym e) ∙ with_test r (eqb i j)
    same_at r z e (Shortage i) u = omega (arith, ints)
    same_at r z e (Excess i) u = less_test (r *ℤ pos 0) (eqb i j) z
    same_at r z e (Missed h i) u = omega (arith, ints)
    same_at r z e (Repeated h i) u = omega (arith, ints)

pub pair_sum : (n : Limits) (routes : List Route) (t : Rows) (x : ℕ → ℤ) (whole : ℤ) (k j : ℕ) → IsSummed n routes t → IsSolution t x → x 0 ≡ pos 0 -ℤ whole → Opens n (Missed k j)
    → (amount n x (miss_at k j) -ℤ amount n x (again_at k j)) +ℤ taken n routes x (Missed k j) ≡ whole
pair_sum n routes t x whole k j s solves right o =
    let e = summed_at n routes t x (Missed k j) s solves o in
    let f = times_right (pos 1) (x 0) whole right in
    let g = amount-same n x (basic_number n (Missed k j)) (λ p. miss_at k j p -ℤ again_at k j p) same_at in
    let h = amount-minus n x (miss_at k j) (again_at k j) in
    let i : pos 1 *ℤ whole ≡ whole = omega (arith, ints) in
    omega (arith, ints)
  where
    less_test : (b : Bool) → less_one_if b ≡ pos 0 -ℤ one_if b
    less_test true = refl
    less_test false = refl

    same_at : (p : Place) → IsKnown n p → basic_number n (Missed k j) p ≡ miss_at k j p -ℤ again_at k j p
    same_at Right u = absurd u
    same_at Value u = refl
    same_at (Unused h) u = refl
    same_at (Unassigned i) u = refl
    same_at (Shortage i) u = refl
    same_at (Excess i) u = refl
    same_at (Missed h i) u = omega (arith, ints)
    same_at (Repeated h i) u = less_test (eqb h k && eqb i j)

-- ---- the value
times_m : (z : ℤ) → z ≡ pos 0 → pos BIG_M *ℤ z ≡ pos 0
times_m z e = ap (λ y. pos BIG_M *ℤ y) e

one_of : (m i : ℕ) → i < m → total m (λ j. one_if (eqb i j)) ≡ pos 1
one_of m i lt = total-one m (λ j. one_if (eqb i j)) i lt (λ j _ ne. ap one_if (not_same i j (λ q. ne (sym q)))) ∙ ap one_if (same i)

one_of_pair : (m l k j : ℕ) → k < m → j < l → total m (λ h. total l (λ i. one_if (eqb k h && eqb j i))) ≡ pos 1
one_of_pair m l k j team task =
    total-one m (λ h. total l (λ i. one_if (eqb k h && eqb j i))) k team
    (λ h _ ne. total-zero l (λ i. one_if (eqb k h && eqb j i)) (λ i _. ap (λ t. one_if (t && eqb j i)) (not_same k h (λ q. ne (sym q)))))
    ∙ total-same l (λ i. one_if (eqb k k && eqb j i)) (λ i. one_if (eqb j i)) (λ i _. ap (λ t. one_if (t && eqb j i)) (same k))
    ∙ one_of l j task

no_total : (m : ℕ) → total m (λ j. pos 0) ≡ pos 0
no_total m = total-zero m (λ j. pos 0) (λ j _. refl)

no_totals : (m l : ℕ) → total m (λ k. total l (λ j. pos 0)) ≡ pos 0
no_totals m l = total-zero m (λ k. total l (λ j. pos 0)) (λ k _. no_total l)

plus_none : (z : ℤ) → z +ℤ pos 0 ≡ z
plus_none z = omega (arith, ints)

none_plus : (z : ℤ) → pos 0 +ℤ z ≡ z
none_plus z = omega (arith, ints)

cost_by_kind : (n : Limits) (p : Place) → IsKnown n p
    → cost p ≡ total (tasks_in n) (λ j. open_at j p) +ℤ ((pos BIG_M *ℤ total (tasks_in n) (λ j. short_at j p +ℤ over_at j p))
    +ℤ (pos BIG_M *ℤ total (teams_in n) (λ k. total (tasks_in n) (λ j. miss_at k j p +ℤ again_at k j p))))
cost_by_kind n Right u = absurd u
cost_by_kind n Value u = absurd u
cost_by_kind n (Unused k) u =
    let a = no_total (tasks_in n) in
    let b = times_m (total (tasks_in n) (λ j. pos 0)) a in
    let c = times_m (total (teams_in n) (λ k. total (tasks_in n) (λ j. pos 0))) (no_totals (teams_in n) (tasks_in n)) in
    omega (arith, ints)
cost_by_kind n (Unassigned i) u =
    let a = one_of (tasks_in n) i u.task in
    let b = times_m (total (tasks_in n) (λ j. pos 0)) (no_total (tasks_in n)) in
    let c = times_m (total (teams_in n) (λ k. total (tasks_in n) (λ j. pos 0))) (no_totals (teams_in n) (tasks_in n)) in
    omega (arith, ints)
cost_by_kind n (Shortage i) u =
    let a = no_total (tasks_in n) in
    let d = total-same (tasks_in n) (λ j. one_if (eqb i j) +ℤ pos 0) (λ j. one_if (eqb i j)) (λ j _. plus_none (one_if (eqb i j))) in
    let b = ap (λ y. pos BIG_M *ℤ y) (d ∙ one_of (tasks_in n) i u) in
    let c = times_m (total (teams_in n) (λ k. total (tasks_in n) (λ j. pos 0))) (no_totals (teams_in n) (tasks_in n)) in
    omega (arith, ints)
cost_by_kind n (Excess i) u =
    let a = no_total (tasks_in n) in
    let d = total-same (tasks_in n) (λ j. pos 0 +ℤ one_if (eqb i j)) (λ j. one_if (eqb i j)) (λ j _. none_plus (one_if (eqb i j))) in
    let b = ap (λ y. pos BIG_M *ℤ y) (d ∙ one_of (tasks_in n) i u) in
    let c = times_m (total (teams_in n) (λ k. total (tasks_in n) (λ j. pos 0))) (no_totals (teams_in n) (tasks_in n)) in
    omega (arith, ints)
cost_by_kind n (Missed h i) u =
    let a = no_total (tasks_in n) in
    let b = times_m (total (tasks_in n) (λ j. pos 0)) a in
    let d = total-same (teams_in n) (λ k. total (tasks_in n) (λ j. one_if (eqb h k && eqb i j) +ℤ pos 0)) (λ k. total (tasks_in n) (λ j. one_if (eqb h k && eqb i j)))
    (λ k _. total-same (tasks_in n) (λ j. one_if (eqb h k && eqb i j) +ℤ pos 0) (λ j. one_if (eqb h k && eqb i j)) (λ j _. plus_none (one_if (eqb h k && eqb i j)))) in
    let c = ap (λ y. pos BIG_M *ℤ y) (d ∙ one_of_pair (teams_in n) (tasks_in n) h i u.team u.task) in
    omega (arith, ints)
cost_by_kind n (Repeated h i) u =
    let a = no_total (tasks_in n) in
    let b = times_m (total (tasks_in n) (λ j. pos 0)) a in
    let d = total-same (teams_in n) (λ k. total (tasks_in n) (λ j. pos 0 +ℤ one_if (eqb h k && eqb i j))) (λ k. total (tasks_in n) (λ j. one_if (eqb h k && eqb i j)))
    (λ k _. total-same (tasks_in n) (λ j. pos 0 +ℤ one_if (eqb h k && eqb i j)) (λ j. one_if (eqb h k && eqb i j)) (λ j _. none_plus (one_if (eqb h k && eqb i j)))) in
    let c = ap (λ y. pos BIG_M *ℤ y) (d ∙ one_of_pair (teams_in n) (tasks_in n) h i u.team u.task) in
    omega (arith, ints)

-- shortage and excess of a task, missed and repeated parts of a pair
abbrev pub off_task : Limits → (ℕ → ℤ) → ℕ → ℤ
off_task n x j = amount n x (short_at j) +ℤ amount n x (over_at j)

abbrev pub off_pair : Limits → (ℕ → ℤ) → ℕ → ℕ → ℤ
off_pair n x k j = amount n x (miss_at k j) +ℤ amount n x (again_at k j)

pub value_sum : (n : Limits) (t : Rows) (x : ℕ → ℤ) → IsCosted n t → IsSolution t x
    → x VALUE ≡ total (tasks_in n) (λ j. amount n x (open_at j)) +ℤ ((pos BIG_M *ℤ total (tasks_in n) (off_task n x)) +ℤ (pos BIG_M *ℤ total (teams_in n) (λ k. total (tasks_in n) (off_pair n x k))))
value_sum n t x c solves =
    let l = length (variables n) in
    let f : ℕ → ℤ = λ j. cost (place_at (places n) j) *ℤ x j in
    let a = total-front (suc l) f in
    let b = total-front l (λ i. f (suc i)) in
    let e : total (suc (suc l)) f ≡ pos 0 = c.zero_sum x solves in
    let zero : pos 0 *ℤ x 0 ≡ pos 0 = zero-*ℤ (x 0) in
    let one = minus_times (pos 1) (x 1) in
    let unit : pos 1 *ℤ x 1 ≡ x 1 = omega (arith, ints) in
    let T = tasks_in n in
    let K = teams_in n in
    let ta : Place → ℤ = λ p. total T (λ j. open_at j p) in
    let tb : Place → ℤ = λ p. total T (λ j. short_at j p +ℤ over_at j p) in
    let tc : Place → ℤ = λ p. total K (λ k. total T (λ j. miss_at k j p +ℤ again_at k j p)) in
    let g = amount-same n x cost (λ p. ta p +ℤ ((pos BIG_M *ℤ tb p) +ℤ (pos BIG_M *ℤ tc p))) (cost_by_kind n) in
    let h = amount-plus n x ta (λ p. (pos BIG_M *ℤ tb p) +ℤ (pos BIG_M *ℤ tc p)) in
    let i = amount-plus n x (λ p. pos BIG_M *ℤ tb p) (λ p. pos BIG_M *ℤ tc p) in
    let j = amount-scale n x (pos BIG_M) tb in
    let k = amount-scale n x (pos BIG_M) tc in
    let m = amount-total n x T (λ j. open_at j) in
    let o = amount-total n x T (λ j p. short_at j p +ℤ over_at j p)
    ∙ total-same T (λ j. amount n x (λ p. short_at j p +ℤ over_at j p)) (off_task n x) (λ j _. amount-plus n x (short_at j) (over_at j)) in
    let q = amount-total n x K (λ k p. total T (λ j. miss_at k j p +ℤ again_at k j p))
    ∙ total-same K (λ k. amount n x (λ p. total T (λ j. miss_at k j p +ℤ again_at k j p))) (λ k. total T (off_pair n x k))
    (λ k _. amount-total n x T (λ j p. miss_at k j p +ℤ again_at k j p)
    ∙ total-same T (λ j. amount n x (λ p. miss_at k j p +ℤ again_at k j p)) (off_pair n x k) (λ j _. amount-plus n x (miss_at k j) (again_at k j))) in
    let mo = ap (λ z. pos BIG_M *ℤ z) o in
    let mq = ap (λ z. pos BIG_M *ℤ z) q in
    omega (arith, ints)
