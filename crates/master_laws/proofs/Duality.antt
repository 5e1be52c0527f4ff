-- strong duality, as the contracts say it
use Rattle.std.proofs.Common.{◌≡◌, ◌≢◌, ◌<◌, ◌+◌, ◌∙◌, ℕ, suc, ◌⊎◌, inl, inr, unsigned_abs, List, length, refl, ap, sym, arith, true}
use Rattle.std.specs.Prelude.{ℤ, pos, ◌+ℤ◌, ◌-ℤ◌, ◌*ℤ◌, ◌≤ℤ◌, All}
use Rattle.std.proofs.lemmas.Int.{ints}
use Rattle.crew_terms.specs.Limits.{Limits, tasks_in, teams_in, pair_of, is_required, Route}
use Rattle.crew_terms.specs.Leaf.{Prices, rho_of}
use Rattle.crew_terms.specs.Total.{total}
use Rattle.crew_terms.specs.declared.Pair.{Pair}
use Rattle.crew_terms.specs.declared.Pair.TheVariants.{Free, Forbidden, Required}
use Rattle.std.proofs.lemmas.Bool.{cases_eq}
use Rattle.search_terms.specs.declared.Place.TheVariants.{Value}
use Rattle.search_terms.specs.Rows.{Rows, number, row_of, value_row}
use Rattle.search_terms.specs.Opening.{basic_at, basic_number, opener, openers, opens, places, variables}
use Rattle.search_terms.specs.Pivot.{IsOptimal}
use Rattle.search_terms.specs.MasterRun.{IsMasterRun}
use Rattle.search_terms.specs.Duals.{AreDuals, AreUpToPenalty, IsUpTo, best_reward, term_over, extras}
use Rattle.share_terms.specs.Shares.{IsRouteIn, IsFractional, choice_value}
use Rattle.crew_num.specs.Ring.{positive}
use Rattle.master_laws.proofs.Opened.{basic_opening}
use Rattle.crew_terms.specs.Totals.{lt_or_last}
use Rattle.master_laws.proofs.Positions.{count, openers_count, opener_basic, opener_last, basic_position}
use Rattle.master_laws.proofs.Apart.{basics_apart, basic_one}
use Rattle.master_laws.proofs.Costs.{costed_run}
use Rattle.master_laws.proofs.Duals.{no_route}
use Rattle.master_laws.proofs.Laws.{feasible_of}
use Rattle.master_laws.proofs.Bounded.{cofactors}
use Rattle.master_laws.proofs.Basic.{basic_solution, row_numbers, whole_of, parts_by}
use Rattle.master_laws.proofs.Summed.{summed_run}
use Rattle.master_laws.proofs.Optimum.{Optimum, optimum, price_low, price_high, extra_low, extra_high}
use Rattle.master_laws.proofs.Slack.{value_by_duals}
use Rattle.master_laws.proofs.Choice.{same_parts}
use Rattle.master_laws.proofs.Strong.{Solved, fractional, choice_value_is}
use Rattle.master_laws.proofs.Standing.{prices_at, worths_at, prices_stand, worths_stand}
use Rattle.share_terms.specs.declared.TheConstants.{BIG_M}
use Rattle.search_terms.specs.declared.TheConstants.{RIGHT, VALUE}
use Rattle.search_terms.specs.BasicChoice.{AreWholeParts, HasParts, choice_of}
use Rattle.master_laws.specs.Opening.{above_of}

pub duals_stand : (n : Limits) (t : Rows) → (prices : Prices) × AreDuals n (value_row t) prices
duals_stand n t = (prices_at n (value_row t), prices_stand n (value_row t))

optimum_of : (n : Limits) (routes : List Route) (made : ℕ) (t : Rows) (p : Prices) → IsMasterRun n routes made t → IsOptimal t → AreDuals n (value_row t) p
    → Optimum n routes t p (worths_at n (value_row t))
optimum_of n routes made t p run o d = optimum n _ routes made t p (worths_at n (value_row t)) (basic_opening n) run o d (worths_stand n (value_row t))

pub up_to_m : (n : Limits) (routes : List Route) (made : ℕ) (t : Rows) (prices : Prices) → IsMasterRun n routes made t → IsOptimal t → AreDuals n (value_row t) prices → AreUpToPenalty n (value_row t) prices
up_to_m n routes made t p run o d =
    let ws = worths_at n (value_row t) in
    let opt = optimum_of n routes made t p run o d in
    record {
      tasks = λ j lt. record { least = price_low n routes t p ws j opt lt; greatest = price_high n routes t p ws j opt lt };
      pairs = λ k j team task. by_pair opt k j team task (pair_of n k j) refl;
    }
  where
    none : (k j : ℕ) → Optimum n routes t p (worths_at n (value_row t)) → rho_of p k j ≡ pos 0 → IsUpTo (number (value_row t) VALUE *ℤ pos BIG_M) (rho_of p k j)
    none k j opt e =
        let up = positive (number (value_row t) VALUE) (pos BIG_M) opt.up (omega (arith, ints)) in
        record { least = omega (arith, ints); greatest = omega (arith, ints) }

    by_pair : Optimum n routes t p (worths_at n (value_row t)) → (k j : ℕ) → k < teams_in n → j < tasks_in n → (q : Pair) → pair_of n k j ≡ q → IsUpTo (number (value_row t) VALUE *ℤ pos BIG_M) (rho_of p k j)
    by_pair opt k j team task Free e = none k j opt (d.priced k j (λ f. let g : Free ≡ Required = sym e ∙ f in absurd (cc)))
    by_pair opt k j team task Forbidden e = none k j opt (d.priced k j (λ f. let g : Forbidden ≡ Required = sym e ∙ f in absurd (cc)))
    by_pair opt k j team task Required e =
        let r : is_required (pair_of n k j) ≡ true = ap is_required e in
        record { least = extra_low n routes t p (worths_at n (value_row t)) k j opt team task r; greatest = extra_high n routes t p (worths_at n (value_row t)) k j opt team task r }

pub value_of : (n : Limits) (routes : List Route) (made : ℕ) (t : Rows) (prices : Prices) → IsMasterRun n routes made t → IsOptimal t → All (IsRouteIn n) routes → AreDuals n (value_row t) prices
    → number (value_row t) RIGHT ≡ (total (tasks_in n) (term_over n (number (value_row t) VALUE) prices) +ℤ extras n prices) -ℤ total (teams_in n) (best_reward prices routes)
value_of n routes made t p run o legal d =
    let f = feasible_of n routes made t run in
    let c = cofactors (length t.rows) (row_numbers t) f.basic.positive in
    value_by_duals n routes t p (worths_at n (value_row t)) (whole_of t) (parts_by t c) (optimum_of n routes made t p run o d) d (λ i lt. legal i no_route lt)
    (summed_run n _ routes made t (basic_opening n) run) (basic_solution t f c)

solved : (n : Limits) (routes : List Route) (made : ℕ) (t : Rows) (whole : ℕ) (x : ℕ → ℕ) (run : IsMasterRun n routes made t) → IsOptimal t → All (IsRouteIn n) routes → AreWholeParts n routes t whole x
    → Solved n routes t (prices_at n (value_row t)) (worths_at n (value_row t)) (whole_of t) (parts_by t (cofactors (length t.rows) (row_numbers t) (feasible_of n routes made t run).basic.positive)) whole x
solved n routes made t whole x run o legal a =
    let f = feasible_of n routes made t run in
    let c = cofactors (length t.rows) (row_numbers t) f.basic.positive in
    let s = basic_solution t f c in
    let two : length (places n) ≡ suc (suc (length (variables n))) = omega arith in
    record {
      o = optimum_of n routes made t (prices_at n (value_row t)) run o (prices_stand n (value_row t));
      s = s;
      summed = summed_run n _ routes made t (basic_opening n) run;
      costed = costed_run n _ routes made t (basic_opening n) run;
      legal = legal;
      all = record {
        of_routes = λ i lt. same_parts t whole (whole_of t) (parts_by t c) (length (places n) + i) (x (length (places n) + i)) f.basic s (a.of_routes i lt) (omega arith);
        of_tasks = λ i j lt e. same_parts t whole (whole_of t) (parts_by t c) (suc (suc i)) (x (suc (suc i))) f.basic s (a.of_tasks (suc (suc i)) j (omega arith) e) (omega arith);
      };
      some = a.some;
    }

pub fractional_of : (n : Limits) (routes : List Route) (made : ℕ) (t : Rows) (whole : ℕ) (x : ℕ → ℕ) → IsMasterRun n routes made t → IsOptimal t → All (IsRouteIn n) routes → AreWholeParts n routes t whole x
    → IsFractional n (choice_of n routes whole x)
fractional_of n routes made t whole x run o legal a =
    fractional n routes t (prices_at n (value_row t)) (worths_at n (value_row t)) (whole_of t) (parts_by t (cofactors (length t.rows) (row_numbers t) (feasible_of n routes made t run).basic.positive)) whole x
    (solved n routes made t whole x run o legal a)

pub choice_value_of : (n : Limits) (routes : List Route) (made : ℕ) (t : Rows) (whole : ℕ) (x : ℕ → ℕ) → IsMasterRun n routes made t → IsOptimal t → All (IsRouteIn n) routes → AreWholeParts n routes t whole x
    → number (value_row t) VALUE *ℤ choice_value n (choice_of n routes whole x) ≡ number (value_row t) RIGHT *ℤ pos whole
choice_value_of n routes made t whole x run o legal a =
    choice_value_is n routes t (prices_at n (value_row t)) (worths_at n (value_row t)) (whole_of t) (parts_by t (cofactors (length t.rows) (row_numbers t) (feasible_of n routes made t run).basic.positive)) whole x
    (solved n routes made t whole x run o legal a)

abs_same : (z : ℤ) → pos 0 ≤ℤ z → pos (unsigned_abs z) ≡ z
abs_same z low = omega (arith, ints)

-- some whole number of parts makes all shares whole
pub parts_stand : (n : Limits) (routes : List Route) (made : ℕ) (t : Rows) → IsMasterRun n routes made t → (whole : ℕ) × ((x : ℕ → ℕ) × AreWholeParts n routes t whole x)
parts_stand n routes made t run =
    let f = feasible_of n routes made t run in
    let c = cofactors (length t.rows) (row_numbers t) f.basic.positive in
    let s = basic_solution t f c in
    let w = whole_of t in
    let y = parts_by t c in
    let up = s.up in
    let whole_same = abs_same w (omega (arith, ints)) in
    let has : (j : ℕ) → VALUE < j → HasParts t (unsigned_abs w) j (unsigned_abs (y j)) = λ j above. record {
      basic = λ h lt e.
          let in' : h < length t.rows = omega arith in
          ap (λ z. number (row_of t h) j *ℤ z) (abs_same (y j) (s.low j above))
          ∙ ap (λ k. number (row_of t h) k *ℤ y k) (sym e) ∙ s.is h in' ∙ ap (λ z. number (row_of t h) RIGHT *ℤ z) (sym whole_same);
      idle = λ none. ap unsigned_abs (s.idle j above none);
    } in
    let two : length (places n) ≡ suc (suc (length (variables n))) = omega arith in (
      unsigned_abs w,
      (
        (λ j. unsigned_abs (y j)),
        record {
          some = omega (arith, ints);
          of_routes = λ i lt. has (length (places n) + i) (omega arith);
          of_tasks = λ i j lt e. has i (above_of n i j e);
        },
      ),
    )

-- two opening rows open with different variables
pub differ : (n : Limits) (h i : ℕ) → h < length (openers (places n)) → i < length (openers (places n)) → opener (places n) h ≡ opener (places n) i → h ≡ i
differ n h i in_h in_i e = by_case (cases_eq h i) (lt_or_last (count n) h (omega (arith, openers_count n))) (lt_or_last (count n) i (omega (arith, openers_count n)))
  where
    not_value : (k : ℕ) → k < count n → opener (places n) k ≡ Value → ⊥
    not_value k lt q = let p = (basic_position n k lt).passes in let f = ap opens (sym (opener_basic n k lt) ∙ q) in absurd (cc)

    by_case : (h ≡ i) ⊎ (h ≢ i) → (h < count n) ⊎ (h ≡ count n) → (i < count n) ⊎ (i ≡ count n) → h ≡ i
    by_case (inl q) a b = q
    by_case (inr ne) (inl a) (inl b) =
        let z = basics_apart n h i a b ne in
        let o = basic_one n (basic_at (places n) h) (basic_position n h a).passes in
        let f = ap (basic_number n (basic_at (places n) h)) (sym (opener_basic n h a) ∙ e ∙ opener_basic n i b) in
        absurd (omega (arith, ints))
    by_case (inr ne) (inl a) (inr b) = absurd (not_value h a (e ∙ ap (opener (places n)) b ∙ opener_last n))
    by_case (inr ne) (inr a) (inl b) = absurd (not_value i b (sym e ∙ ap (opener (places n)) a ∙ opener_last n))
    by_case (inr ne) (inr a) (inr b) = a ∙ sym b
