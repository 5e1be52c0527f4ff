-- the duals stand as prices, extras and worths
use Rattle.std.proofs.Common.{◌≡◌, ◌≢◌, ◌≤◌, ◌<◌, ◌∙◌, ℕ, List, [], length, get_or, refl, ap, sym, arith, cond, map, ◌⊎◌, inl, inr}
use Rattle.std.specs.Prelude.{ℤ, pos, ◌-ℤ◌, ◌*ℤ◌}
use Rattle.std.proofs.lemmas.Bool.{cases_lt}
use Rattle.std.proofs.lemmas.List.{get_or_past}
use Rattle.std.proofs.lemmas.List.FromFn.{length-map-range_with_len, get_or-map-range_with_len}
use Rattle.crew_terms.specs.Limits.{Limits, tasks_in, teams_in, pair_of, is_required}
use Rattle.crew_terms.specs.Leaf.{Prices, rho_of}
use Rattle.crew_terms.specs.declared.Pair.{Pair}
use Rattle.crew_terms.specs.declared.Pair.TheVariants.{Free, Forbidden, Required}
use Rattle.search_terms.specs.declared.Place.{Place}
use Rattle.search_terms.specs.declared.Place.TheVariants.{Value, Unused, Shortage, Missed}
use Rattle.search_terms.specs.Rows.{Row}
use Rattle.search_terms.specs.Opening.{places, basic_at, openers, opener, opens, opening_basis, basic_number, dual}
use Rattle.search_terms.specs.Duals.{AreDuals, AreDualWorths}
use Rattle.crew_terms.specs.Totals.{total-one, lt_or_last}
use Rattle.master_laws.proofs.Positions.{count, openers_count, opener_basic, opener_last, basic_position}
use Rattle.master_laws.proofs.Apart.{basics_apart, basic_one}
use Rattle.master_laws.proofs.Numbers.{by_duals}
use Rattle.master_laws.proofs.Optimum.{times_zero, times_one}
use Rattle.master_laws.proofs.Stands.{Stands}
use Rattle.master_laws.proofs.Known.{IsKnown, stands_known}
use Rattle.master_laws.proofs.Below.{below}

-- the dual of the row that opens with v
abbrev dual_at : Limits → Row → Place → ℤ
dual_at n value v = by_duals n value (λ b. basic_number n b v)

-- a row that opens with v, which isn't the value
record Names (n : Limits) (value : Row) (h : ℕ) (v : Place) : Type 0 where
  known : IsKnown n v
  is : dual_at n value v ≡ dual (places n) value h

names : (n : Limits) (value : Row) (h : ℕ) (v : Place) → h < length (openers (places n)) → opener (places n) h ≡ v → v ≢ Value → Names n value h v
names n value h v lt e other = by_case (lt_or_last (count n) h (omega (arith, openers_count n)))
  where
    by_case : (h < count n) ⊎ (h ≡ count n) → Names n value h v
    by_case (inr q) = absurd (other (sym e ∙ ap (opener (places n)) q ∙ opener_last n))
    by_case (inl less) =
        let p = basic_position n h less in
        let b : basic_at (places n) h ≡ v = sym (opener_basic n h less) ∙ e in
        let s : Stands n v = record { at = get_or (opening_basis (places n)) h 0; variable = p.above; known = p.known; is = p.is ∙ b } in
        let f = total-one (count n) (λ i. dual (places n) value i *ℤ basic_number n (basic_at (places n) i) v) h less
        (λ i in_i ne. times_zero (dual (places n) value i) (basic_number n (basic_at (places n) i) v)
        (ap (basic_number n (basic_at (places n) i)) (sym b) ∙ basics_apart n i h in_i less ne)) in
        let g = ap (λ z. dual (places n) value h *ℤ z) (ap (λ c. basic_number n c v) b ∙ basic_one n v (ap opens (sym b) ∙ p.passes)) ∙ times_one (dual (places n) value h) in
        record { known = stands_known n v s; is = f ∙ g }

abbrev extra_at : Limits → Row → ℕ → ℕ → ℤ
extra_at n value k j = cond (is_required (pair_of n k j)) (dual_at n value (Missed k j)) (pos 0)

abbrev extras_at : Limits → Row → ℕ → List ℤ
extras_at n value k = map (extra_at n value k) (below (tasks_in n))

pub prices_at : Limits → Row → Prices
prices_at n value = record { pi = map (λ j. dual_at n value (Shortage j)) (below (tasks_in n)); rho = map (extras_at n value) (below (teams_in n)) }

pub worths_at : Limits → Row → List ℤ
worths_at n value = map (λ k. pos 0 -ℤ dual_at n value (Unused k)) (below (teams_in n))

rho_is : (n : Limits) (value : Row) (k j : ℕ) → k < teams_in n → j < tasks_in n → rho_of (prices_at n value) k j ≡ extra_at n value k j
unfolding prices_at
rho_is n value k j team task =
    ap (λ l. get_or l j (pos 0)) (get_or-map-range_with_len (extras_at n value) 0 (teams_in n) k k [] team (omega arith))
    ∙ get_or-map-range_with_len (extra_at n value k) 0 (tasks_in n) j j (pos 0) task (omega arith)

rho_none : (n : Limits) (value : Row) (k j : ℕ) → pair_of n k j ≢ Required → rho_of (prices_at n value) k j ≡ pos 0
unfolding prices_at
rho_none n value k j ne = by_case (cases_lt k (teams_in n)) (cases_lt j (tasks_in n))
  where
    by_pair : (q : Pair) → pair_of n k j ≡ q → cond (is_required q) (dual_at n value (Missed k j)) (pos 0) ≡ pos 0
    by_pair Free e = refl
    by_pair Forbidden e = refl
    by_pair Required e = absurd (ne e)

    by_case : (k < teams_in n) ⊎ (teams_in n ≤ k) → (j < tasks_in n) ⊎ (tasks_in n ≤ j) → rho_of (prices_at n value) k j ≡ pos 0
    by_case (inl team) (inl task) = rho_is n value k j team task ∙ by_pair (pair_of n k j) refl
    by_case (inl team) (inr le) =
        ap (λ l. get_or l j (pos 0)) (get_or-map-range_with_len (extras_at n value) 0 (teams_in n) k k [] team (omega arith))
        ∙ get_or_past (extras_at n value k) j (pos 0) (let e = length-map-range_with_len (extra_at n value k) 0 (tasks_in n) in omega arith)
    by_case (inr le) r =
        ap (λ l. get_or l j (pos 0)) (get_or_past (map (extras_at n value) (below (teams_in n))) k [] (let e = length-map-range_with_len (extras_at n value) 0 (teams_in n) in omega arith))

pub prices_stand : (n : Limits) (value : Row) → AreDuals n value (prices_at n value)
unfolding prices_at
prices_stand n value = record {
  priced = λ k j ne. rho_none n value k j ne;
  tasks = λ h j o.
      let d = names n value h (Shortage j) o.known o.is (λ f. absurd (cc)) in
      get_or-map-range_with_len (λ j. dual_at n value (Shortage j)) 0 (tasks_in n) j j (pos 0) d.known (omega arith) ∙ d.is;
  pairs = λ h k j o.
      let d = names n value h (Missed k j) o.known o.is (λ f. absurd (cc)) in
      rho_is n value k j d.known.team d.known.task ∙ ap (λ t. cond t (dual_at n value (Missed k j)) (pos 0)) d.known.required ∙ d.is;
}

pub worths_stand : (n : Limits) (value : Row) → AreDualWorths n value (worths_at n value)
unfolding worths_at
worths_stand n value = record {
  teams = λ h k o.
      let d = names n value h (Unused k) o.known o.is (λ f. absurd (cc)) in
      get_or-map-range_with_len (λ k. pos 0 -ℤ dual_at n value (Unused k)) 0 (teams_in n) k k (pos 0) d.known (omega arith) ∙ ap (λ z. pos 0 -ℤ z) d.is;
}
