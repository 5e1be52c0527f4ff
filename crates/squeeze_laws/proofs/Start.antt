-- what the zeros prove, at which a run begins
use Rattle.std.proofs.Common.{◌≡◌, ◌≤◌, ◌<◌, ◌⊎◌, inl, inr, ℕ, zero, suc, cond, List, [], ◌∷◌, length, get_or, map, replicate, refl, ap, sym, subst, ◌∙◌, arith, eqb}
use Rattle.std.specs.Prelude.{ℤ, pos, ◌*ℤ◌, ◌≤ℤ◌, fold, count_by}
use Rattle.std.specs.List.{range_with_len}
use Rattle.std.specs.Int.{int_min}
use Rattle.std.proofs.Math.IntN.{*ℤ-zero}
use Rattle.std.proofs.lemmas.Bool.{cases_lt, ne_eqb}
use Rattle.std.proofs.lemmas.Int.{ints}
use Rattle.std.proofs.lemmas.List.{get_or-replicate, get_or_past, length-replicate}
use Rattle.std.proofs.lemmas.List.FromFn.{length-range_with_len}
use Rattle.std.proofs.lemmas.List.Sums.{count_by-le-length}
use Rattle.crew_terms.specs.Instance.{Instance, task_of}
use Rattle.crew_terms.specs.Leaf.{IsWorth, Proves, rewards, worth_of}
use Rattle.crew_terms.specs.Limits.{Limits, root_limits}
use Rattle.crew_terms.specs.Ranges.{numbered}
use Rattle.crew_terms.specs.Total.{total}
use Rattle.crew_terms.specs.Totals.{total-le, total-same, total-zero}
use Rattle.crew_terms.specs.declared.TheConstants.{D}
use Rattle.crew_terms.specs.declared.Visit.{Visit}
use Rattle.squeeze_terms.specs.Bound.{IsMinuteBound, minute_bound, minute_term, teams_price}
use Rattle.squeeze_terms.specs.MinutePrices.{minute_price, price_count, price_at, zero_minute_prices}
use Rattle.squeeze_terms.specs.Possible.{impossible_count, possible_minutes}
use Rattle.squeeze_laws.proofs.Counted.{total-count}
use Rattle.squeeze_laws.proofs.Least.{least_above}
use Rattle.squeeze_laws.proofs.Ranges.{row_at, no_row}

zero_in : (n x : ℕ) → get_or (replicate n (pos 0)) x (pos 0) ≡ pos 0
zero_in n x = by (cases_lt x n)
  where
    by : (x < n) ⊎ (n ≤ x) → get_or (replicate n (pos 0)) x (pos 0) ≡ pos 0
    by (inl l) = get_or-replicate n x (pos 0) (pos 0) l
    by (inr ge) = get_or_past (replicate n (pos 0)) x (pos 0) (let e = length-replicate n (pos 0) in omega arith)

-- each price is 0
all_zero : (i : Instance) (j x : ℕ) → price_at (zero_minute_prices i) j x ≡ pos 0
all_zero i j x = by (cases_lt j (length i.tasks))
  where
    row : ℕ → List ℤ
    row h = replicate (price_count (task_of i h)) (pos 0)

    by : (j < length i.tasks) ⊎ (length i.tasks ≤ j) → price_at (zero_minute_prices i) j x ≡ pos 0
    by (inl l) = ap (λ r. get_or r x (pos 0)) (row_at row (length i.tasks) j l) ∙ zero_in (price_count (task_of i j)) x
    by (inr ge) = ap (λ r. get_or r x (pos 0)) (no_row row (length i.tasks) j ge)

-- so no route earns anything
nothing_earned : (w : ℕ → ℕ → ℤ) → ((j t : ℕ) → w j t ≡ pos 0) → (vs : List Visit) → rewards w vs ≡ pos 0
nothing_earned w zeros [] = refl
nothing_earned w zeros (v ∷ vs) = let a = zeros v.task v.start in let b = nothing_earned w zeros vs in omega (arith, ints)

no_worth : (n : Limits) (k : ℕ) (w : ℕ → ℕ → ℤ) → ((j t : ℕ) → w j t ≡ pos 0) → IsWorth n k w (pos 0)
no_worth n k w zeros = record { attained = ([], tt, refl); greatest = λ r is. let a = nothing_earned w zeros r in omega (arith, ints) }

module _ (i : Instance) where
  -- the term of a task is one task where no minute is possible
  term_ge : (j : ℕ) → cond (eqb (length (possible_minutes i j)) 0) (pos D) (pos 0) ≤ℤ minute_term i (zero_minute_prices i) j
  term_ge j = by (possible_minutes i j)
    where
      f : ℕ → ℤ
      f = teams_price i (zero_minute_prices i) j

      none : (t : ℕ) → pos 0 ≤ℤ f t
      none t = subst (λ v. pos 0 ≤ℤ (pos (task_of i j).teams *ℤ v)) (sym (all_zero i j _)) (let e = *ℤ-zero (pos (task_of i j).teams) in omega (arith, ints))

      by : (ts : List ℕ) → cond (eqb (length ts) 0) (pos D) (pos 0) ≤ℤ fold int_min (pos D) (map f ts)
      by [] = omega (arith, ints)
      by (t ∷ ts) = rw (ne_eqb (suc (length ts)) 0 (λ e. omega arith)) (least_above f (pos 0) (pos D) (t ∷ ts) (omega (arith, ints)) none)

  abbrev pub no_worths : List ℤ
  no_worths = replicate (length i.teams) (pos 0)

  pub zero_bound : IsMinuteBound i (zero_minute_prices i) (minute_bound i (zero_minute_prices i) no_worths)
  zero_bound = record {
    worths = no_worths;
    each = record {
      count = length-replicate (length i.teams) (pos 0);
      each = λ k b. subst (IsWorth (root_limits i) k (minute_price i (zero_minute_prices i))) (sym (zero_in (length i.teams) k))
          (no_worth (root_limits i) k (minute_price i (zero_minute_prices i)) (λ j t. all_zero i j _));
    };
    sum = refl;
  }

  -- and the bound at least one task for each of these
  pub zero_bound_ge : (pos (impossible_count i) *ℤ pos D) ≤ℤ minute_bound i (zero_minute_prices i) no_worths
  zero_bound_ge =
      let n = length i.tasks in
      let test = λ (j : ℕ). eqb (length (possible_minutes i j)) 0 in
      let most = total-le n (λ j. cond (test j) (pos D) (pos 0)) (minute_term i (zero_minute_prices i)) (λ j b. term_ge j) in
      let same = total-same n (λ j. cond (test j) (pos D) (pos 0)) (λ j. cond (test (get_or (range_with_len 0 n) j 0)) (pos D) (pos 0)) (λ j b. ap (λ h. cond (test h) (pos D) (pos 0)) (sym (numbered n j b))) in
      let count = subst (λ l. total l (λ j. cond (test (get_or (range_with_len 0 n) j 0)) (pos D) (pos 0)) ≡ pos (count_by test (range_with_len 0 n)) *ℤ pos D) (length-range_with_len 0 n) (total-count test 0 (pos D) (range_with_len 0 n)) in
      let none = total-zero (length i.teams) (worth_of no_worths) (λ k b. zero_in (length i.teams) k) in
      omega (arith, ints)

  pub few_impossible : impossible_count i ≤ length i.tasks
  few_impossible =
      let a = count_by-le-length (λ (j : ℕ). eqb (length (possible_minutes i j)) 0) (range_with_len 0 (length i.tasks)) in
      let b = length-range_with_len 0 (length i.tasks) in
      omega arith

-- a bound of at least so many tasks proves as many
pub so_many_proved : (bound : ℤ) (l : ℕ) → (pos l *ℤ pos D) ≤ℤ bound → Proves bound l
so_many_proved bound zero h = tt
so_many_proved bound (suc l) h = omega (arith, ints)
