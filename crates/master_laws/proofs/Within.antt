-- in a run the shares of routes and of unassigned tasks are at most whole: the unassigned share and the excess of a task
-- are never both basic
use Rattle.std.proofs.Common.{◌≡◌, ◌≢◌, ◌≤◌, ◌<◌, ◌+◌, ◌∙◌, ℕ, suc, zero, List, length, get_or, refl, ap, sym, arith, subst, Bool, true, false, cond, ◌⊎◌, inl, inr}
use Rattle.std.specs.Prelude.{ℤ, pos, negsuc, ◌+ℤ◌, ◌-ℤ◌, ◌*ℤ◌, ◌≤ℤ◌, ◌<ℤ◌, All}
use Rattle.std.proofs.Math.Dec.{eqb}
use Rattle.std.proofs.lemmas.Bool.{cases_eq, cases_lt}
use Rattle.std.proofs.lemmas.Bool.Decides.{eqb_tells}
use Rattle.std.proofs.lemmas.Int.{ints}
use Rattle.std.proofs.Math.IntN.{*ℤ_comm, *ℤ-zero, zero-*ℤ}
use Rattle.std.proofs.lemmas.List.{get_or_past}
use Rattle.std.proofs.lemmas.List.FromFn.{length-map-range_with_len, get_or-map-range_with_len}
use Rattle.std.specs.Prelude.{map}
use Rattle.crew_terms.specs.Limits.{Limits, Route, tasks_in, teams_in}
use Rattle.crew_terms.specs.Total.{total}
use Rattle.search_terms.specs.declared.Place.{Place}
use Rattle.search_terms.specs.declared.Place.TheVariants.{Right, Value, Unused, Unassigned, Shortage, Excess, Missed, Repeated}
use Rattle.search_terms.specs.Rows.{Row, Rows, number, row_of, basic_of, last, width, product, IsSolution, AreBasic}
use Rattle.search_terms.specs.Opening.{places, place_at, basic_at, basic_number, one_if, opening, teams_for, variables, visit_number}
use Rattle.search_terms.specs.MasterRun.{MasterRun, IsMasterRun}
use Rattle.search_terms.specs.MasterRun.MasterRun.{Opens, Pivots, Enters}
use Rattle.share_terms.specs.Shares.{unassigned_of}
use Rattle.search_terms.specs.BasicChoice.{AreWholeParts, choice_of}
use Rattle.search_terms.specs.declared.TheConstants.{VALUE}
use Rattle.master_laws.proofs.Below.{below}
use Rattle.crew_num.specs.Ring.{not_negative, cancel_up_to, times_up_to}
use Rattle.crew_terms.specs.Totals.{total-same, lt_or_last}
use Rattle.master_laws.specs.Opening.{wide_opening}
use Rattle.master_laws.proofs.Solutions.{solves_next}
use Rattle.master_laws.proofs.Entering.{folded, stand_in, solves_unfolded, spike, spike-other, product_plus, product_spike}
use Rattle.master_laws.proofs.Runs.{of_run}
use Rattle.master_laws.proofs.Positions.{count, rows_count, opening_width, basic_at_number, last_position}
use Rattle.master_laws.proofs.Opened.{basic_opening, own_one}
use Rattle.master_laws.proofs.Costs.{opening_within}
use Rattle.master_laws.proofs.Bounded.{cofactors, total-not_negative}
use Rattle.master_laws.proofs.Basic.{IsBasicSolution, basic_solution, row_numbers, whole_of, parts_by}
use Rattle.master_laws.proofs.Duals.{no_route}
use Rattle.master_laws.proofs.Known.{amount, amount-none, amount-low, Picks}
use Rattle.master_laws.proofs.Stands.{shortage_stands, excess_stands, unused_stands, opens_row}
use Rattle.master_laws.proofs.Amounts.{open_at, short_at, over_at, unused_at, picks_open, picks_short, picks_over, picks_unused, team_sum, task_sum}
use Rattle.master_laws.proofs.Summed.{IsSummed, summed_run}
use Rattle.master_laws.proofs.Laws.{feasible_of}
use Rattle.master_laws.proofs.Choice.{AreAll, open_parts, open_same, same_parts}

-- ---- a vector that solves the opening rows and has nothing at routes solves the rows of a run
same_product : (row : Row) (x y : ℕ → ℤ) → ((j : ℕ) → x j ≡ y j) → product row x ≡ product row y
same_product row x y h = total-same (length row) (λ j. number row j *ℤ x j) (λ j. number row j *ℤ y j) (λ j _. ap (λ z. number row j *ℤ z) (h j))

stays_solved : (n : Limits) (may : Rows → Type 0) (routes : List Route) (made : ℕ) (t : Rows) (y : ℕ → ℤ) → IsSolution (opening n) y
    → ((j : ℕ) → length (places n) ≤ j → y j ≡ pos 0) → MasterRun n may routes made t → IsSolution t y
stays_solved n may _ _ _ y s none Opens = s
stays_solved n may _ _ _ y s none (Pivots {routes} {made} {t} {next} run p) =
    let o = of_run n may routes made t (opening_within n (width (opening n)) (omega (arith, wide_opening n))) (basic_opening n) run in
    solves_next t next y o.basic p (stays_solved n may routes made t y s none run)
stays_solved n may _ _ _ y s none (Enters {routes} {made} {t} r run m) =
    let o = of_run n may routes made t (opening_within n (width (opening n)) (omega (arith, wide_opening n))) (basic_opening n) run in
    let w = width t in
    let wide : length (places n) ≤ w = omega (arith, o.wide, wide_opening n) in
    let again = stays_solved n may routes made t y s none run in
    let z : y w ≡ pos 0 = none w wide in
    solves_unfolded n r t w y (opening_within n w wide) o.basic refl
    (λ h lt. same_product (row_of t h) (folded n r w y) y (λ j.
    let e = ap (λ a. a *ℤ stand_in n r j) z ∙ zero-*ℤ (stand_in n r j) in omega (arith, ints)) ∙ again h lt)

-- ---- a unit unassigned of task j at place a, as many units of excess at place b as teams, and what balances the value's row
spikes : ℕ → ℕ → ℤ → ℤ → ℕ → ℤ
spikes a b r v i = spike a (pos 1) i +ℤ (spike b r i +ℤ spike VALUE v i)

spikes-product : (row : Row) (a b : ℕ) (r v : ℤ) → a < length row → b < length row → VALUE < length row
    → product row (spikes a b r v) ≡ number row a +ℤ ((number row b *ℤ r) +ℤ (number row VALUE *ℤ v))
unfolding spikes
spikes-product row a b r v la lb lv =
    let one = product_plus row (spike a (pos 1)) (λ i. spike b r i +ℤ spike VALUE v i) in
    let two = product_plus row (spike b r) (spike VALUE v) in
    let f = product_spike row a (pos 1) la in
    let g = product_spike row b r lb in
    let h = product_spike row VALUE v lv in
    let unit : number row a *ℤ pos 1 ≡ number row a = omega (arith, ints) in
    omega (arith, ints)

spikes-behind : (w a b : ℕ) (r v : ℤ) (j : ℕ) → a < w → b < w → VALUE < w → w ≤ j → spikes a b r v j ≡ pos 0
unfolding spikes
spikes-behind w a b r v j la lb lv le =
    let e = spike-other a (pos 1) j (omega arith) in
    let f = spike-other b r j (omega arith) in
    let g = spike-other VALUE v j (omega arith) in
    omega (arith, ints)

-- a row that opens with b is balanced
balanced : (n : Limits) (j : ℕ) (v : ℤ) (b : Place) → basic_number n b (Unassigned j) +ℤ ((basic_number n b (Excess j) *ℤ pos (teams_for n j)) +ℤ (basic_number n b Value *ℤ v)) ≡ pos 0
balanced n j v (Shortage i) = by_test (eqb_tells j i)
  where
    r : ℤ
    r = pos (teams_for n j)

    by_test : ((eqb j i ≡ true) × (j ≡ i)) ⊎ ((eqb j i ≡ false) × (j ≢ i))
        → cond (eqb j i) (pos (teams_for n i)) (pos 0) +ℤ ((cond (eqb j i) (negsuc 0) (pos 0) *ℤ pos (teams_for n j)) +ℤ (pos 0 *ℤ v)) ≡ pos 0
    by_test (inl q) =
        let e = ap (λ k. pos (teams_for n k)) (sym q.1) in
        let z = zero-*ℤ v in
        rw q.0 (omega (arith, ints))
    by_test (inr q) =
        let z = zero-*ℤ v in
        let y = zero-*ℤ (pos (teams_for n j)) in
        rw q.0 (omega (arith, ints))
balanced n j v (Unused k) = nothing (pos (teams_for n j)) v
  where
    nothing : (r v : ℤ) → pos 0 +ℤ ((pos 0 *ℤ r) +ℤ (pos 0 *ℤ v)) ≡ pos 0
    nothing r v = let y = zero-*ℤ r in let z = zero-*ℤ v in omega (arith, ints)
balanced n j v (Missed k i) = nothing (pos (teams_for n j)) v
  where
    nothing : (r v : ℤ) → pos 0 +ℤ ((pos 0 *ℤ r) +ℤ (pos 0 *ℤ v)) ≡ pos 0
    nothing r v = let y = zero-*ℤ r in let z = zero-*ℤ v in omega (arith, ints)
balanced n j v Right = let y = zero-*ℤ (pos (teams_for n j)) in let z = zero-*ℤ v in omega (arith, ints)
balanced n j v Value = let y = zero-*ℤ (pos (teams_for n j)) in let z = zero-*ℤ v in omega (arith, ints)
balanced n j v (Unassigned i) = let y = zero-*ℤ (pos (teams_for n j)) in let z = zero-*ℤ v in omega (arith, ints)
balanced n j v (Excess i) = let y = zero-*ℤ (pos (teams_for n j)) in let z = zero-*ℤ v in omega (arith, ints)
balanced n j v (Repeated k i) = let y = zero-*ℤ (pos (teams_for n j)) in let z = zero-*ℤ v in omega (arith, ints)

-- the two places of task j
record ArePlaces (n : Limits) (j a b : ℕ) : Type 0 where
  in_a : a < length (places n)
  in_b : b < length (places n)
  is_a : place_at (places n) a ≡ Unassigned j
  is_b : place_at (places n) b ≡ Excess j

balancing : Limits → ℕ → ℕ → ℕ → ℤ
balancing n j a b =
    pos 0 -ℤ (number (row_of (opening n) (count n)) a +ℤ (number (row_of (opening n) (count n)) b *ℤ pos (teams_for n j)))

spikes_solve : (n : Limits) (j a b : ℕ) → ArePlaces n j a b → IsSolution (opening n) (spikes a b (pos (teams_for n j)) (balancing n j a b))
unfolding balancing
spikes_solve n j a b p h below =
    let lt : h < suc (count n) = omega (arith, rows_count n) in
    let r = pos (teams_for n j) in
    let v = balancing n j a b in
    let row = row_of (opening n) h in
    let w = opening_width n h lt in
    let two : 2 ≤ length (places n) = omega arith in
    let e = spikes-product row a b r v (omega (arith, w, p.in_a)) (omega (arith, w, p.in_b)) (omega (arith, w)) in
    e ∙ by_case (lt_or_last (count n) h lt)
  where
    r : ℤ
    r = pos (teams_for n j)

    by_case : (h < count n) ⊎ (h ≡ count n)
        → number (row_of (opening n) h) a +ℤ ((number (row_of (opening n) h) b *ℤ pos (teams_for n j)) +ℤ (number (row_of (opening n) h) VALUE *ℤ balancing n j a b)) ≡ pos 0
    by_case (inl less) =
        let two : 1 < length (places n) = omega arith in
        let o = basic_at (places n) h in
        let na = basic_at_number n h a less p.in_a ∙ ap (basic_number n o) p.is_a in
        let nb = basic_at_number n h b less p.in_b ∙ ap (basic_number n o) p.is_b in
        let nv = basic_at_number n h 1 less two in
        let f = balanced n j (balancing n j a b) o in
        let g = ap (λ z. z *ℤ pos (teams_for n j)) nb in
        let i = ap (λ z. z *ℤ balancing n j a b) nv in
        omega (arith, ints)
    by_case (inr e) =
        let one = own_one n (count n) (omega arith) in
        let at = ap (number (row_of (opening n) (count n))) (last_position n) in
        let here : number (row_of (opening n) (count n)) VALUE ≡ pos 1 = sym at ∙ one in
        let f = ap (λ z. z *ℤ balancing n j a b) here in
        let unit : pos 1 *ℤ balancing n j a b ≡ balancing n j a b = omega (arith, ints) in
        subst (λ k. number (row_of (opening n) k) a +ℤ ((number (row_of (opening n) k) b *ℤ pos (teams_for n j)) +ℤ (number (row_of (opening n) k) VALUE *ℤ balancing n j a b)) ≡ pos 0)
        (sym e) (omega (arith, ints))

-- where the unassigned share at place a is basic in row h, the row has a negative number at b, times the teams
opposed : (n : Limits) (may : Rows → Type 0) (routes : List Route) (made : ℕ) (t : Rows) (j a b h : ℕ) → MasterRun n may routes made t → AreBasic t → ArePlaces n j a b → h < last t → basic_of t h ≡ a
    → pos 0 <ℤ number (row_of t h) a × (number (row_of t h) a +ℤ (number (row_of t h) b *ℤ pos (teams_for n j)) ≡ pos 0)
opposed n may routes made t j a b h run basic p lt is =
    let o = of_run n may routes made t (opening_within n (width (opening n)) (omega (arith, wide_opening n))) (basic_opening n) run in
    let r = pos (teams_for n j) in
    let v = balancing n j a b in
    let two : 2 ≤ length (places n) = omega arith in
    let s = stays_solved n may routes made t (spikes a b r v) (spikes_solve n j a b p)
    (λ i le. spikes-behind (length (places n)) a b r v i p.in_a p.in_b (omega arith) le) run in
    let in_h : h < length t.rows = omega arith in
    let end : last t < length t.rows = omega arith in
    let row = row_of t h in
    let w = basic.widths h in_h in
    let wide : length (places n) ≤ length row = omega (arith, o.wide, wide_opening n, w) in
    let e = spikes-product row a b r v (omega (arith, p.in_a)) (omega (arith, p.in_b)) (omega arith) in
    let z : number row VALUE ≡ pos 0 = ap (number row) (sym basic.value) ∙ basic.alone (last t) h end in_h (omega arith) in
    let f = ap (λ y. y *ℤ v) z ∙ zero-*ℤ v in
    let up : pos 0 <ℤ number row a = subst (λ k. pos 0 <ℤ number row k) is (basic.positive h in_h) in
    let g = s h in_h in
    (up, omega (arith, ints))

-- ---- is a row's basic variable the unassigned share of task j?
abbrev holds : Rows → Limits → ℕ → ℕ → Type 0
holds t n j h = place_at (places n) (basic_of t h) ≡ Unassigned j

is_at : (j : ℕ) (p : Place) → (p ≡ Unassigned j) ⊎ (p ≢ Unassigned j)
is_at j (Unassigned i) = by_case (cases_eq i j)
  where
    by_case : (i ≡ j) ⊎ (i ≢ j) → (Unassigned i ≡ Unassigned j) ⊎ (Unassigned i ≢ Unassigned j)
    by_case (inl e) = inl (ap Unassigned e)
    by_case (inr ne) = inr (λ e. ne (cc))
is_at j Right = inr (λ e. absurd (cc))
is_at j Value = inr (λ e. absurd (cc))
is_at j (Unused k) = inr (λ e. absurd (cc))
is_at j (Shortage i) = inr (λ e. absurd (cc))
is_at j (Excess i) = inr (λ e. absurd (cc))
is_at j (Missed k i) = inr (λ e. absurd (cc))
is_at j (Repeated k i) = inr (λ e. absurd (cc))

find : (t : Rows) (n : Limits) (j m : ℕ) → ((h : ℕ) × (h < m) × holds t n j h) ⊎ ((h : ℕ) → h < m → holds t n j h → ⊥)
find t n j zero = inr (λ h lt e. absurd (omega arith))
find t n j (suc m) = by_case (find t n j m) (is_at j (place_at (places n) (basic_of t m)))
  where
    by_case : ((h : ℕ) × (h < m) × holds t n j h) ⊎ ((h : ℕ) → h < m → holds t n j h → ⊥)
        → (place_at (places n) (basic_of t m) ≡ Unassigned j) ⊎ (place_at (places n) (basic_of t m) ≢ Unassigned j)
        → ((h : ℕ) × (h < suc m) × holds t n j h) ⊎ ((h : ℕ) → h < suc m → holds t n j h → ⊥)
    by_case (inl q) r = inl (q.0, omega (arith, q.1), q.2)
    by_case (inr q) (inl e) = inl (m, omega arith, e)
    by_case (inr q) (inr ne) = inr (λ h lt e. by_last h e (lt_or_last m h lt))
      where
        by_last : (h : ℕ) → holds t n j h → (h < m) ⊎ (h ≡ m) → ⊥
        by_last h e (inl less) = q h less e
        by_last h e (inr same) = ne (subst (holds t n j) same e)

in_places : (n : Limits) (a j : ℕ) → place_at (places n) a ≡ Unassigned j → a < length (places n)
in_places n a j e = by_case (cases_lt a (length (places n)))
  where
    by_case : (a < length (places n)) ⊎ (length (places n) ≤ a) → a < length (places n)
    by_case (inl lt) = lt
    by_case (inr le) = let f : Right ≡ Unassigned j = sym (get_or_past (places n) a Right le) ∙ e in absurd (cc)

one_low : (b : Bool) → pos 0 ≤ℤ one_if b
one_low true = omega (arith, ints)
one_low false = omega (arith, ints)

up_at : (n : Limits) (x : ℕ → ℤ) (a : Place → ℤ) (v : Place) → ((j : ℕ) → VALUE < j → pos 0 ≤ℤ x j) → Picks a v → pos 0 ≤ℤ a v → pos 0 ≤ℤ amount n x a
up_at n x a v low picks h = amount-low n x a (λ p. by_case p (picks p)) low
  where
    by_case : (p : Place) → (a p ≡ pos 0) ⊎ (p ≡ v) → pos 0 ≤ℤ a p
    by_case p (inl e) = omega (arith, ints)
    by_case p (inr e) = let f = ap a e in omega (arith, ints)

taken_up : (n : Limits) (routes : List Route) (x : ℕ → ℤ) (a : ℕ → ℤ) → ((j : ℕ) → VALUE < j → pos 0 ≤ℤ x j) → ((i : ℕ) → pos 0 ≤ℤ a i)
    → pos 0 ≤ℤ total (length routes) (λ i. a i *ℤ x (length (places n) + i))
taken_up n routes x a low up =
    let two : 2 ≤ length (places n) = omega arith in
    total-not_negative (length routes) (λ i. a i *ℤ x (length (places n) + i)) (λ i lt. not_negative (a i) (x (length (places n) + i)) (up i) (low (length (places n) + i) (omega arith)))

-- ---- at most the whole task is unassigned
record IsSolved (n : Limits) (routes : List Route) (made : ℕ) (t : Rows) (w : ℤ) (x : ℕ → ℤ) : Type 0 where
  run : IsMasterRun n routes made t
  basic : AreBasic t
  s : IsBasicSolution t w x
  summed : IsSummed n routes t

open_most : (n : Limits) (routes : List Route) (made : ℕ) (t : Rows) (w : ℤ) (x : ℕ → ℤ) (j : ℕ) → IsSolved n routes made t w x → j < tasks_in n → amount n x (open_at j) ≤ℤ w
open_most n routes made t w x j c lt = by_find (find t n j (last t))
  where
    by_find : ((h : ℕ) × (h < last t) × holds t n j h) ⊎ ((h : ℕ) → h < last t → holds t n j h → ⊥) → amount n x (open_at j) ≤ℤ w
    by_find (inr none) =
        let z = amount-none n x (open_at j) (Unassigned j) (picks_open j)
        (λ s. c.s.idle s.at s.variable (λ h in_h e. none h in_h (ap (place_at (places n)) e ∙ s.is))) in
        let up = c.s.up in
        omega (arith, ints)
    by_find (inl q) =
        let h = q.0 in
        let a = basic_of t h in
        let in_a = in_places n a j q.2 in
        let r = pos (teams_for n j) in
        let in_h : h < length t.rows = omega (arith, q.1) in
        let over = amount-none n x (over_at j) (Excess j) (picks_over j) (λ s. c.s.idle s.at s.variable (λ i in_i e.
        let p : ArePlaces n j a s.at = record { in_a = in_a; in_b = s.known; is_a = q.2; is_b = s.is } in
        let f = opposed n _ routes made t j a s.at h c.run c.basic p q.1 refl in
        let i_in : i < length t.rows = omega arith in
        let apart : i ≢ h = λ same. let g : Excess j ≡ Unassigned j = sym s.is ∙ ap (place_at (places n)) (sym e ∙ ap (basic_of t) same) ∙ q.2 in absurd (cc) in
        let z = ap (number (row_of t h)) (sym e) ∙ c.basic.alone i h i_in in_h apart in
        let y = ap (λ k. k *ℤ r) z ∙ zero-*ℤ r in
        let one = f.0 in
        let two = f.1 in
        absurd (omega (arith, ints)))) in
        let b = excess_stands n j lt in
        let p : ArePlaces n j a b.at = record { in_a = in_a; in_b = b.known; is_a = q.2; is_b = b.is } in
        let f = opposed n _ routes made t j a b.at h c.run c.basic p q.1 refl in
        let rp = some_teams (teams_for n j) (number (row_of t h) a) (number (row_of t h) b.at) f.0 f.1 in
        let g = task_sum n routes t x w j c.summed c.s.solves c.s.right (opens_row n (Shortage j) (shortage_stands n j lt) refl) in
        let short = up_at n x (short_at j) (Shortage j) c.s.low (picks_short j) (one_low (eqb j j)) in
        let got = taken_up n routes x (λ i. visit_number (get_or routes i no_route) (Shortage j)) c.s.low (λ i. omega (arith, ints)) in
        cancel_up_to r (amount n x (open_at j)) w rp (omega (arith, ints))
      where
        some_teams : (m : ℕ) (y z : ℤ) → pos 0 <ℤ y → y +ℤ (z *ℤ pos m) ≡ pos 0 → pos 0 <ℤ pos m
        some_teams zero y z up e = let f = *ℤ-zero z in absurd (omega (arith, ints))
        some_teams (suc m) y z up e = omega (arith, ints)

-- ---- a share of a route of a known team is at most whole
one_of_total : (m : ℕ) (f : ℕ → ℤ) (i : ℕ) → ((k : ℕ) → k < m → pos 0 ≤ℤ f k) → i < m → f i ≤ℤ total m f
one_of_total zero f i up lt = absurd (omega arith)
one_of_total (suc m) f i up lt = by_case (λ less. one_of_total m f i (λ k l. up k (omega arith)) less) (lt_or_last m i lt)
  where
    by_case : (i < m → f i ≤ℤ total m f) → (i < m) ⊎ (i ≡ m) → f i ≤ℤ (total m f +ℤ f m)
    by_case again (inl less) =
        let e = again less in
        let h = up m (omega arith) in
        omega (arith, ints)
    by_case again (inr e) =
        let g = ap f e in
        let h = total-not_negative m f (λ k l. up k (omega arith)) in
        omega (arith, ints)

route_most : (n : Limits) (routes : List Route) (made : ℕ) (t : Rows) (w : ℤ) (x : ℕ → ℤ) (i : ℕ) → IsSolved n routes made t w x
    → i < length routes → (get_or routes i no_route).team < teams_in n → x (length (places n) + i) ≤ℤ w
route_most n routes made t w x i c lt team =
    let k = (get_or routes i no_route).team in
    let two : 2 ≤ length (places n) = omega arith in
    let f : ℕ → ℤ = λ i. visit_number (get_or routes i no_route) (Unused k) *ℤ x (length (places n) + i) in
    let e = team_sum n routes t x w k c.summed c.s.solves c.s.right (opens_row n (Unused k) (unused_stands n k team) refl) in
    let idle = up_at n x (unused_at k) (Unused k) c.s.low (picks_unused k) (one_low (eqb k k)) in
    let g = one_of_total (length routes) f i
    (λ h l. not_negative (visit_number (get_or routes h no_route) (Unused k)) (x (length (places n) + h)) (one_low (eqb k (get_or routes h no_route).team)) (c.s.low (length (places n) + h) (omega arith))) lt in
    let one = ap (λ z. z *ℤ x (length (places n) + i)) (own k) in
    let unit : pos 1 *ℤ x (length (places n) + i) ≡ x (length (places n) + i) = omega (arith, ints) in
    omega (arith, ints)
  where
    own : (k : ℕ) → one_if (eqb k k) ≡ pos 1
    own k = by_test (eqb_tells k k)
      where
        by_test : ((eqb k k ≡ true) × (k ≡ k)) ⊎ ((eqb k k ≡ false) × (k ≢ k)) → one_if (eqb k k) ≡ pos 1
        by_test (inl q) = ap one_if q.0
        by_test (inr q) = absurd (q.1 refl)

-- ---- in parts
below_whole : (m q : ℕ) (w z : ℤ) → pos 0 <ℤ w → 1 ≤ q → pos m *ℤ w ≡ pos q *ℤ z → z ≤ℤ w → m ≤ q
below_whole m q w z up some e le =
    let low : pos 0 <ℤ pos q = omega (arith, ints) in
    let f = times_up_to (pos q) z w low le in
    let g = *ℤ_comm w (pos m) in
    let h = *ℤ_comm w (pos q) in
    let i = cancel_up_to w (pos m) (pos q) up (omega (arith, ints)) in
    omega (arith, ints)

-- shares of routes, and of unassigned tasks, within the whole
pub record AreWithinWhole (n : Limits) (routes : List Route) (whole : ℕ) (x : ℕ → ℕ) : Type 0 where
  pub of_routes : (i : ℕ) → i < length routes → x (length (places n) + i) ≤ whole
  pub of_tasks : (j : ℕ) → unassigned_of (choice_of n routes whole x) j ≤ whole

pub within_whole : (n : Limits) (routes : List Route) (made : ℕ) (t : Rows) (whole : ℕ) (x : ℕ → ℕ) → IsMasterRun n routes made t
    → All (λ (r : Route). r.team < teams_in n) routes → AreWholeParts n routes t whole x → AreWithinWhole n routes whole x
within_whole n routes made t whole x run teams a =
    let f = feasible_of n routes made t run in
    let c = cofactors (length t.rows) (row_numbers t) f.basic.positive in
    let w = whole_of t in
    let y = parts_by t c in
    let s = basic_solution t f c in
    let two : length (places n) ≡ suc (suc (length (variables n))) = omega arith in
    let solved : IsSolved n routes made t w y = record { run = run; basic = f.basic; s = s; summed = summed_run n _ routes made t (basic_opening n) run } in
    let all : AreAll n routes (pos whole) w x y = record {
      of_routes = λ i lt. same_parts t whole w y (length (places n) + i) (x (length (places n) + i)) f.basic s (a.of_routes i lt) (omega arith);
      of_tasks = λ i j lt e. same_parts t whole w y (suc (suc i)) (x (suc (suc i))) f.basic s (a.of_tasks (suc (suc i)) j (omega arith) e) (omega arith);
    } in
    record {
      of_routes = λ i lt. below_whole (x (length (places n) + i)) whole w (y (length (places n) + i)) s.up a.some (all.of_routes i lt).is
          (route_most n routes made t w y i solved lt (teams i no_route lt));
      of_tasks = λ j. by_case j w y solved all (cases_lt j (tasks_in n));
    }
  where
    by_case : (j : ℕ) (w : ℤ) (y : ℕ → ℤ) → IsSolved n routes made t w y → AreAll n routes (pos whole) w x y → (j < tasks_in n) ⊎ (tasks_in n ≤ j)
        → unassigned_of (choice_of n routes whole x) j ≤ whole
    by_case j w y solved all (inl lt) =
        let e = get_or-map-range_with_len (open_parts n x) 0 (tasks_in n) j j 0 lt (omega arith) in
        let f = below_whole (open_parts n x j) whole w (amount n y (open_at j)) solved.s.up a.some (open_same n routes (pos whole) w x y j all) (open_most n routes made t w y j solved lt) in
        omega arith
    by_case j w y solved all (inr le) =
        let e = get_or_past (map (open_parts n x) (below (tasks_in n))) j 0 (let l = length-map-range_with_len (open_parts n x) 0 (tasks_in n) in omega arith) in
        omega arith
