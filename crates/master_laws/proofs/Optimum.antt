-- rows of a run at which no variable has a negative reduced cost, with the prices, extras and worths of their duals
use Rattle.std.proofs.Common.{◌≡◌, ◌≢◌, ◌<◌, ◌+◌, ◌&&◌, ℕ, List, length, get_or, refl, ap, sym, arith, ◌∙◌, Bool, true, false, cond}
use Rattle.std.specs.Prelude.{ℤ, pos, negsuc, ◌+ℤ◌, ◌-ℤ◌, ◌*ℤ◌, ◌≤ℤ◌, ◌<ℤ◌}
use Rattle.std.proofs.lemmas.Int.{ints, by_lt_z}
use Rattle.std.proofs.Math.IntN.{*ℤ_comm, *ℤ-zero}
use Rattle.std.proofs.Math.Dec.{eqb}
use Rattle.crew_terms.specs.Limits.{Limits, tasks_in, teams_in, pair_of, is_required, has_required, Route}
use Rattle.crew_terms.specs.Leaf.{Prices, pi_of, rho_of, worth_of, task_price}
use Rattle.crew_terms.specs.Total.{total}
use Rattle.crew_terms.specs.declared.Pair.{Pair}
use Rattle.crew_terms.specs.declared.Pair.TheVariants.{Free, Forbidden, Required}
use Rattle.search_terms.specs.declared.Place.{Place}
use Rattle.search_terms.specs.declared.Place.TheVariants.{Right, Value, Unused, Unassigned, Shortage, Excess, Missed, Repeated}
use Rattle.search_terms.specs.Rows.{Row, Rows, number, last, value_row, width, AreBasic}
use Rattle.search_terms.specs.Pivot.{IsOptimal}
use Rattle.search_terms.specs.Opening.{places, place_at, basic_at, openers, opener, opening, opens, basic_number, visit_number, cost, dual, teams_for, one_if, less_one_if}
use Rattle.search_terms.specs.Duals.{AreDuals, AreDualWorths, extras}
use Rattle.search_terms.specs.MasterRun.{MasterRun}
use Rattle.crew_num.specs.Ring.{minus_times}
use Rattle.crew_terms.specs.Totals.{total-same, total-zero, total-one, total-swap}
use Rattle.master_laws.proofs.Totals.{total-minus}
use Rattle.master_laws.proofs.Runs.{of_run}
use Rattle.master_laws.proofs.Positions.{count, openers_count, opener_basic, basic_position}
use Rattle.master_laws.proofs.Costs.{opening_within}
use Rattle.master_laws.proofs.Apart.{not_same, same, and_false}
use Rattle.master_laws.proofs.Duals.{entries_run, earned_is_entry, no_route}
use Rattle.master_laws.proofs.Numbers.{by_duals, value_number}
use Rattle.master_laws.proofs.ByKind.{at_required, sum_basics}
use Rattle.master_laws.proofs.Stands.{Stands, unused_stands, unassigned_stands, shortage_stands, excess_stands, missed_stands, repeated_stands}
use Rattle.share_terms.specs.declared.TheConstants.{BIG_M}
use Rattle.search_terms.specs.declared.TheConstants.{RIGHT, VALUE}
use Rattle.master_laws.specs.Opening.{wide_opening}

-- ---- the duals as prices, extras and worths
abbrev pub said : Prices → List ℤ → Place → ℤ
said p ws (Unused k) = pos 0 -ℤ worth_of ws k
said p ws (Shortage j) = pi_of p j
said p ws (Missed k j) = rho_of p k j
said p ws _ = pos 0

dual_said : (n : Limits) (value : Row) (p : Prices) (ws : List ℤ) (h : ℕ) (b : Place) → AreDuals n value p → AreDualWorths n value ws → h < length (openers (places n))
    → opener (places n) h ≡ b → opens b ≡ true → dual (places n) value h ≡ said p ws b
dual_said n value p ws h Value d w lt e t = absurd (cc)
dual_said n value p ws h Right d w lt e t = absurd (cc)
dual_said n value p ws h (Unused k) d w lt e t = let f = w.teams h k (record { known = lt; is = e }) in omega (arith, ints)
dual_said n value p ws h (Unassigned k) d w lt e t = absurd (cc)
dual_said n value p ws h (Shortage j) d w lt e t = sym (d.tasks h j (record { known = lt; is = e }))
dual_said n value p ws h (Excess k) d w lt e t = absurd (cc)
dual_said n value p ws h (Missed k j) d w lt e t = sym (d.pairs h k j (record { known = lt; is = e }))
dual_said n value p ws h (Repeated k j) d w lt e t = absurd (cc)

-- by the duals: what the worths, the prices and the extras say
abbrev pub by_prices : Limits → Prices → List ℤ → (Place → ℤ) → ℤ
by_prices n p ws a = (total (teams_in n) (λ k. (pos 0 -ℤ worth_of ws k) *ℤ a (Unused k)) +ℤ total (tasks_in n) (λ j. pi_of p j *ℤ a (Shortage j)))
    +ℤ total (tasks_in n) (at_required n (λ b. said p ws b *ℤ a b))

pub by_duals_are : (n : Limits) (value : Row) (p : Prices) (ws : List ℤ) (a : Place → ℤ) → AreDuals n value p → AreDualWorths n value ws → by_duals n value a ≡ by_prices n p ws a
by_duals_are n value p ws a d w =
    total-same (count n) (λ h. dual (places n) value h *ℤ a (basic_at (places n) h)) (λ h. said p ws (basic_at (places n) h) *ℤ a (basic_at (places n) h))
    (λ h lt. ap (λ z. z *ℤ a (basic_at (places n) h))
    (dual_said n value p ws h (basic_at (places n) h) d w (omega (arith, openers_count n)) (opener_basic n h lt) (basic_position n h lt).passes))
    ∙ sum_basics n (λ b. said p ws b *ℤ a b)

-- ---- sums of which one is not 0
pub cond_zero : (t : Bool) (z : ℤ) → z ≡ pos 0 → cond t z (pos 0) ≡ pos 0
cond_zero true z e = e
cond_zero false z e = refl

no_pairs : (n : Limits) (f : Place → ℤ) → ((k j : ℕ) → f (Missed k j) ≡ pos 0) → total (tasks_in n) (at_required n f) ≡ pos 0
no_pairs n f z = total-zero (tasks_in n) (at_required n f) (λ j _.
    total-zero (teams_in n) (λ k. cond (is_required (pair_of n k j)) (f (Missed k j)) (pos 0)) (λ k _. cond_zero (is_required (pair_of n k j)) (f (Missed k j)) (z k j)))

pub times_zero : (z a : ℤ) → a ≡ pos 0 → z *ℤ a ≡ pos 0
times_zero z a e = ap (λ y. z *ℤ y) e ∙ *ℤ-zero z

pub at_team : (n : Limits) (p : Prices) (ws : List ℤ) (a : Place → ℤ) (k : ℕ) → k < teams_in n → ((i : ℕ) → i ≢ k → a (Unused i) ≡ pos 0) → ((j : ℕ) → a (Shortage j) ≡ pos 0)
    → ((i j : ℕ) → a (Missed i j) ≡ pos 0) → by_prices n p ws a ≡ (pos 0 -ℤ worth_of ws k) *ℤ a (Unused k)
at_team n p ws a k lt teams tasks pairs =
    let e = total-one (teams_in n) (λ k. (pos 0 -ℤ worth_of ws k) *ℤ a (Unused k)) k lt (λ i _ ne. times_zero (pos 0 -ℤ worth_of ws i) (a (Unused i)) (teams i ne)) in
    let f = total-zero (tasks_in n) (λ j. pi_of p j *ℤ a (Shortage j)) (λ j _. times_zero (pi_of p j) (a (Shortage j)) (tasks j)) in
    let g = no_pairs n (λ b. said p ws b *ℤ a b) (λ i j. times_zero (rho_of p i j) (a (Missed i j)) (pairs i j)) in
    omega (arith, ints)

pub at_task : (n : Limits) (p : Prices) (ws : List ℤ) (a : Place → ℤ) (j : ℕ) → j < tasks_in n → ((k : ℕ) → a (Unused k) ≡ pos 0) → ((i : ℕ) → i ≢ j → a (Shortage i) ≡ pos 0)
    → ((k i : ℕ) → a (Missed k i) ≡ pos 0) → by_prices n p ws a ≡ pi_of p j *ℤ a (Shortage j)
at_task n p ws a j lt teams tasks pairs =
    let e = total-zero (teams_in n) (λ k. (pos 0 -ℤ worth_of ws k) *ℤ a (Unused k)) (λ k _. times_zero (pos 0 -ℤ worth_of ws k) (a (Unused k)) (teams k)) in
    let f = total-one (tasks_in n) (λ j. pi_of p j *ℤ a (Shortage j)) j lt (λ i _ ne. times_zero (pi_of p i) (a (Shortage i)) (tasks i ne)) in
    let g = no_pairs n (λ b. said p ws b *ℤ a b) (λ i j. times_zero (rho_of p i j) (a (Missed i j)) (pairs i j)) in
    omega (arith, ints)

pub at_pair : (n : Limits) (p : Prices) (ws : List ℤ) (a : Place → ℤ) (k j : ℕ) → k < teams_in n → j < tasks_in n → is_required (pair_of n k j) ≡ true
    → ((i : ℕ) → a (Unused i) ≡ pos 0) → ((i : ℕ) → a (Shortage i) ≡ pos 0)
    → ((h i : ℕ) → i ≢ j → a (Missed h i) ≡ pos 0) → ((h : ℕ) → h ≢ k → a (Missed h j) ≡ pos 0) → by_prices n p ws a ≡ rho_of p k j *ℤ a (Missed k j)
at_pair n p ws a k j team task required teams tasks others pairs =
    let q : Place → ℤ = λ b. said p ws b *ℤ a b in
    let e = total-zero (teams_in n) (λ k. (pos 0 -ℤ worth_of ws k) *ℤ a (Unused k)) (λ k _. times_zero (pos 0 -ℤ worth_of ws k) (a (Unused k)) (teams k)) in
    let f = total-zero (tasks_in n) (λ j. pi_of p j *ℤ a (Shortage j)) (λ i _. times_zero (pi_of p i) (a (Shortage i)) (tasks i)) in
    let g = total-one (tasks_in n) (at_required n q) j task (λ i _ ne.
    total-zero (teams_in n) (λ h. cond (is_required (pair_of n h i)) (q (Missed h i)) (pos 0)) (λ h _. cond_zero (is_required (pair_of n h i)) (q (Missed h i)) (times_zero (rho_of p h i) (a (Missed h i)) (others h i ne)))) in
    let i = total-one (teams_in n) (λ h. cond (is_required (pair_of n h j)) (q (Missed h j)) (pos 0)) k team
    (λ h _ ne. cond_zero (is_required (pair_of n h j)) (q (Missed h j)) (times_zero (rho_of p h j) (a (Missed h j)) (pairs h ne))) in
    let c = ap (λ t. cond t (q (Missed k j)) (pos 0)) required in
    omega (arith, ints)

-- ---- what is known at such rows
pub record Optimum (n : Limits) (routes : List Route) (t : Rows) (p : Prices) (ws : List ℤ) : Type 0 where
  pub basic : AreBasic t
  pub wide : width t ≡ length (places n) + length routes
  pub up : pos 0 <ℤ number (value_row t) VALUE
  pub numbers : (j : ℕ) → j < length (places n) → number (value_row t) j ≡ by_prices n p ws (λ b. basic_number n b (place_at (places n) j)) -ℤ (number (value_row t) VALUE *ℤ cost (place_at (places n) j))
  pub entries : (i : ℕ) → i < length routes → number (value_row t) (length (places n) + i) ≡ by_prices n p ws (visit_number (get_or routes i no_route))
  pub low : (j : ℕ) → VALUE < j → j < length (places n) + length routes → number (value_row t) j ≤ℤ pos 0

pub optimum : (n : Limits) (may : Rows → Type 0) (routes : List Route) (made : ℕ) (t : Rows) (p : Prices) (ws : List ℤ) → AreBasic (opening n) → MasterRun n may routes made t → IsOptimal t
    → AreDuals n (value_row t) p → AreDualWorths n (value_row t) ws → Optimum n routes t p ws
optimum n may routes made t p ws b run o d w =
    let s = of_run n may routes made t (opening_within n (width (opening n)) (omega (arith, wide_opening n))) b run in
    let end : last t < length t.rows = omega (arith, s.basic.some) in
    let wide : width t ≡ length (places n) + length routes = omega (arith, s.wide, wide_opening n) in
    record {
      basic = s.basic;
      wide = wide;
      up = let q = s.basic.positive (last t) end in let e = ap (number (value_row t)) s.basic.value in omega (arith, ints);
      numbers = λ j known.
          let e = value_number n may routes made t j b run known in
          let f = by_duals_are n (value_row t) p ws (λ b. basic_number n b (place_at (places n) j)) d w in
          omega (arith, ints);
      entries = λ i known.
          (entries_run n may routes made t b run).each i (last t) known end ∙ sym (earned_is_entry n (value_row t) (get_or routes i no_route))
          ∙ by_duals_are n (value_row t) p ws (visit_number (get_or routes i no_route)) d w;
      low = λ j variable known. by_lt_z (pos 0) (number (value_row t) j)
          (λ q. let high : j < width t = omega arith in absurd (o j (record { variable = variable; known = high; positive = q }))) (λ q. q);
    }

-- ---- the numbers of the variables in the value's row, by their kinds
stands_number : (n : Limits) (routes : List Route) (t : Rows) (p : Prices) (ws : List ℤ) (v : Place) → Optimum n routes t p ws → (s : Stands n v)
    → number (value_row t) s.at ≡ by_prices n p ws (λ b. basic_number n b v) -ℤ (number (value_row t) VALUE *ℤ cost v)
stands_number n routes t p ws v o s =
    o.numbers s.at s.known ∙ ap (λ q. by_prices n p ws (λ b. basic_number n b q) -ℤ (number (value_row t) VALUE *ℤ cost q)) s.is

pub times_one : (z : ℤ) → z *ℤ pos 1 ≡ z
times_one z = *ℤ_comm z (pos 1) ∙ omega (arith, ints)

times_less_one : (z : ℤ) → z *ℤ negsuc 0 ≡ pos 0 -ℤ z
times_less_one z = *ℤ_comm z (negsuc 0) ∙ minus_times (pos 1) z ∙ omega (arith, ints)

pub unused_number : (n : Limits) (routes : List Route) (t : Rows) (p : Prices) (ws : List ℤ) (k : ℕ) → Optimum n routes t p ws → k < teams_in n → (s : Stands n (Unused k))
    → number (value_row t) s.at ≡ pos 0 -ℤ worth_of ws k
unused_number n routes t p ws k o lt s =
    let e = stands_number n routes t p ws (Unused k) o s in
    let f = at_team n p ws (λ b. basic_number n b (Unused k)) k lt (λ i ne. ap one_if (not_same k i (λ q. ne (sym q)))) (λ j. refl) (λ i j. refl) in
    let g = ap (λ t. (pos 0 -ℤ worth_of ws k) *ℤ one_if t) (same k) ∙ times_one (pos 0 -ℤ worth_of ws k) in
    let h = *ℤ-zero (number (value_row t) VALUE) in
    omega (arith, ints)

pub shortage_number : (n : Limits) (routes : List Route) (t : Rows) (p : Prices) (ws : List ℤ) (j : ℕ) → Optimum n routes t p ws → j < tasks_in n → (s : Stands n (Shortage j))
    → number (value_row t) s.at ≡ pi_of p j -ℤ (number (value_row t) VALUE *ℤ pos BIG_M)
shortage_number n routes t p ws j o lt s =
    let e = stands_number n routes t p ws (Shortage j) o s in
    let f = at_task n p ws (λ b. basic_number n b (Shortage j)) j lt (λ k. refl) (λ i ne. ap one_if (not_same j i (λ q. ne (sym q)))) (λ i j. refl) in
    let g = ap (λ t. pi_of p j *ℤ one_if t) (same j) ∙ times_one (pi_of p j) in
    omega (arith, ints)

pub excess_number : (n : Limits) (routes : List Route) (t : Rows) (p : Prices) (ws : List ℤ) (j : ℕ) → Optimum n routes t p ws → j < tasks_in n → (s : Stands n (Excess j))
    → number (value_row t) s.at ≡ (pos 0 -ℤ pi_of p j) -ℤ (number (value_row t) VALUE *ℤ pos BIG_M)
excess_number n routes t p ws j o lt s =
    let e = stands_number n routes t p ws (Excess j) o s in
    let f = at_task n p ws (λ b. basic_number n b (Excess j)) j lt (λ k. refl) (λ i ne. ap less_one_if (not_same j i (λ q. ne (sym q)))) (λ i j. refl) in
    let g = ap (λ t. pi_of p j *ℤ less_one_if t) (same j) ∙ times_less_one (pi_of p j) in
    omega (arith, ints)

pub unassigned_number : (n : Limits) (routes : List Route) (t : Rows) (p : Prices) (ws : List ℤ) (j : ℕ) → Optimum n routes t p ws → j < tasks_in n → (s : Stands n (Unassigned j))
    → number (value_row t) s.at ≡ task_price n p j -ℤ number (value_row t) VALUE
unassigned_number n routes t p ws j o lt s =
    let e = stands_number n routes t p ws (Unassigned j) o s in
    let f = at_task n p ws (λ b. basic_number n b (Unassigned j)) j lt (λ k. refl) (λ i ne. ap (λ t. cond t (pos (teams_for n i)) (pos 0)) (not_same j i (λ q. ne (sym q)))) (λ i j. refl) in
    let g = ap (λ t. pi_of p j *ℤ cond t (pos (teams_for n j)) (pos 0)) (same j) ∙ *ℤ_comm (pi_of p j) (pos (teams_for n j)) in
    let h = times_one (number (value_row t) VALUE) in
    omega (arith, ints)

pub missed_number : (n : Limits) (routes : List Route) (t : Rows) (p : Prices) (ws : List ℤ) (k j : ℕ) → Optimum n routes t p ws → k < teams_in n → j < tasks_in n
    → is_required (pair_of n k j) ≡ true → (s : Stands n (Missed k j)) → number (value_row t) s.at ≡ rho_of p k j -ℤ (number (value_row t) VALUE *ℤ pos BIG_M)
missed_number n routes t p ws k j o team task required s =
    let e = stands_number n routes t p ws (Missed k j) o s in
    let f = at_pair n p ws (λ b. basic_number n b (Missed k j)) k j team task required (λ k. refl) (λ i. refl)
    (λ h i ne. ap one_if (ap (λ t. (eqb k h && t)) (not_same j i (λ q. ne (sym q))) ∙ and_false (eqb k h)))
    (λ h ne. ap (λ t. one_if (t && eqb j j)) (not_same k h (λ q. ne (sym q)))) in
    let g = ap (λ t. rho_of p k j *ℤ one_if (t && eqb j j)) (same k) ∙ ap (λ t. rho_of p k j *ℤ one_if t) (same j) ∙ times_one (rho_of p k j) in
    omega (arith, ints)

pub repeated_number : (n : Limits) (routes : List Route) (t : Rows) (p : Prices) (ws : List ℤ) (k j : ℕ) → Optimum n routes t p ws → k < teams_in n → j < tasks_in n
    → is_required (pair_of n k j) ≡ true → (s : Stands n (Repeated k j)) → number (value_row t) s.at ≡ (pos 0 -ℤ rho_of p k j) -ℤ (number (value_row t) VALUE *ℤ pos BIG_M)
repeated_number n routes t p ws k j o team task required s =
    let e = stands_number n routes t p ws (Repeated k j) o s in
    let f = at_pair n p ws (λ b. basic_number n b (Repeated k j)) k j team task required (λ k. refl) (λ i. refl)
    (λ h i ne. ap less_one_if (ap (λ t. (eqb k h && t)) (not_same j i (λ q. ne (sym q))) ∙ and_false (eqb k h)))
    (λ h ne. ap (λ t. less_one_if (t && eqb j j)) (not_same k h (λ q. ne (sym q)))) in
    let g = ap (λ t. rho_of p k j *ℤ less_one_if (t && eqb j j)) (same k) ∙ ap (λ t. rho_of p k j *ℤ less_one_if t) (same j) ∙ times_less_one (rho_of p k j) in
    omega (arith, ints)

-- ---- the bounds
pub worth_low : (n : Limits) (routes : List Route) (t : Rows) (p : Prices) (ws : List ℤ) (k : ℕ) → Optimum n routes t p ws → k < teams_in n → pos 0 ≤ℤ worth_of ws k
worth_low n routes t p ws k o lt =
    let s = unused_stands n k lt in
    let e = unused_number n routes t p ws k o lt s in
    let l = o.low s.at s.variable (omega (arith, s.known)) in
    omega (arith, ints)

pub price_high : (n : Limits) (routes : List Route) (t : Rows) (p : Prices) (ws : List ℤ) (j : ℕ) → Optimum n routes t p ws → j < tasks_in n → pi_of p j ≤ℤ (number (value_row t) VALUE *ℤ pos BIG_M)
price_high n routes t p ws j o lt =
    let s = shortage_stands n j lt in
    let e = shortage_number n routes t p ws j o lt s in
    let l = o.low s.at s.variable (omega (arith, s.known)) in
    omega (arith, ints)

pub price_low : (n : Limits) (routes : List Route) (t : Rows) (p : Prices) (ws : List ℤ) (j : ℕ) → Optimum n routes t p ws → j < tasks_in n → (pos 0 -ℤ (number (value_row t) VALUE *ℤ pos BIG_M)) ≤ℤ pi_of p j
price_low n routes t p ws j o lt =
    let s = excess_stands n j lt in
    let e = excess_number n routes t p ws j o lt s in
    let l = o.low s.at s.variable (omega (arith, s.known)) in
    omega (arith, ints)

pub price_free : (n : Limits) (routes : List Route) (t : Rows) (p : Prices) (ws : List ℤ) (j : ℕ) → Optimum n routes t p ws → j < tasks_in n → has_required n j ≡ false → task_price n p j ≤ℤ number (value_row t) VALUE
price_free n routes t p ws j o lt free =
    let s = unassigned_stands n j lt free in
    let e = unassigned_number n routes t p ws j o lt s in
    let l = o.low s.at s.variable (omega (arith, s.known)) in
    omega (arith, ints)

pub extra_high : (n : Limits) (routes : List Route) (t : Rows) (p : Prices) (ws : List ℤ) (k j : ℕ) → Optimum n routes t p ws → k < teams_in n → j < tasks_in n → is_required (pair_of n k j) ≡ true
    → rho_of p k j ≤ℤ (number (value_row t) VALUE *ℤ pos BIG_M)
extra_high n routes t p ws k j o team task required =
    let s = missed_stands n k j team task required in
    let e = missed_number n routes t p ws k j o team task required s in
    let l = o.low s.at s.variable (omega (arith, s.known)) in
    omega (arith, ints)

pub extra_low : (n : Limits) (routes : List Route) (t : Rows) (p : Prices) (ws : List ℤ) (k j : ℕ) → Optimum n routes t p ws → k < teams_in n → j < tasks_in n → is_required (pair_of n k j) ≡ true
    → (pos 0 -ℤ (number (value_row t) VALUE *ℤ pos BIG_M)) ≤ℤ rho_of p k j
extra_low n routes t p ws k j o team task required =
    let s = repeated_stands n k j team task required in
    let e = repeated_number n routes t p ws k j o team task required s in
    let l = o.low s.at s.variable (omega (arith, s.known)) in
    omega (arith, ints)

-- ---- the value: right sides by the duals
required_or_none : (n : Limits) (value : Row) (p : Prices) (k j : ℕ) → AreDuals n value p → cond (is_required (pair_of n k j)) (rho_of p k j *ℤ pos 1) (pos 0) ≡ rho_of p k j
required_or_none n value p k j d = by_pair (pair_of n k j) refl
  where
    by_pair : (q : Pair) → pair_of n k j ≡ q → cond (is_required q) (rho_of p k j *ℤ pos 1) (pos 0) ≡ rho_of p k j
    by_pair Free e = sym (d.priced k j (λ f. let g : Free ≡ Required = sym e ∙ f in absurd (cc)))
    by_pair Forbidden e = sym (d.priced k j (λ f. let g : Forbidden ≡ Required = sym e ∙ f in absurd (cc)))
    by_pair Required e = times_one (rho_of p k j)

pub value_by_prices : (n : Limits) (routes : List Route) (t : Rows) (p : Prices) (ws : List ℤ) → Optimum n routes t p ws → AreDuals n (value_row t) p
    → number (value_row t) RIGHT ≡ (total (tasks_in n) (task_price n p) +ℤ extras n p) -ℤ total (teams_in n) (worth_of ws)
value_by_prices n routes t p ws o d =
    let two : 0 < length (places n) = omega arith in
    let e = o.numbers 0 two in
    let z = *ℤ-zero (number (value_row t) VALUE) in
    let none : ℕ → ℤ = λ k. pos 0 in
    let f = total-same (teams_in n) (λ k. (pos 0 -ℤ worth_of ws k) *ℤ pos 1) (λ k. none k -ℤ worth_of ws k) (λ k _. times_one (pos 0 -ℤ worth_of ws k)) in
    let f2 = total-minus (teams_in n) none (worth_of ws) in
    let f3 = total-zero (teams_in n) none (λ k _. refl) in
    let g = total-same (tasks_in n) (λ j. pi_of p j *ℤ pos (teams_for n j)) (task_price n p) (λ j _. *ℤ_comm (pi_of p j) (pos (teams_for n j))) in
    let h = total-same (tasks_in n) (at_required n (λ b. said p ws b *ℤ basic_number n b Right)) (λ j. total (teams_in n) (λ k. rho_of p k j))
    (λ j _. total-same (teams_in n) (λ k. cond (is_required (pair_of n k j)) (rho_of p k j *ℤ pos 1) (pos 0)) (λ k. rho_of p k j) (λ k _. required_or_none n (value_row t) p k j d)) in
    let i = total-swap (tasks_in n) (teams_in n) (λ j k. rho_of p k j) in
    omega (arith, ints)
