-- what the prices of a decided node prove
use Rattle.std.proofs.Common.{◌≡◌, ◌≢◌, ◌≤◌, ◌<◌, ℕ, zero, suc, Bool, true, false, cond, List, [], ◌∷◌, ◌++◌, ◌+◌, length, refl, ap, sym, subst, arith, ◌∙◌, eqb, ◌⊎◌, inl, inr, Option, None, Some, length-append}
use Rattle.std.specs.List.{range_with_len}
use Rattle.std.proofs.lemmas.List.{map-id}
use Rattle.std.proofs.lemmas.List.FromFn.{map-range_with_len_more}
use Rattle.std.specs.Prelude.{ℤ, pos, neg_ℤ, ◌+ℤ◌, ◌-ℤ◌, ◌≤ℤ◌, ◌*◌, ◌/◌, filter, is_none}
use Rattle.std.specs.Int.{int_min}
use Rattle.std.proofs.lemmas.Int.{ints, clamps}
use Rattle.std.proofs.Math.IntN.{pos-*ℤ-pos}
use Rattle.std.proofs.lemmas.List.Sums.{sum_by-cons}
use Rattle.std.proofs.lemmas.List.Elements.{filter-append}
use Rattle.std.proofs.lemmas.Bool.{cases_eq, eq-eqb, ne_eqb}
use Rattle.crew_terms.specs.Instance.{task_of, no_task}
use Rattle.crew_terms.specs.Plan.{Plan, Job, job_of, unassigned_count}
use Rattle.crew_terms.specs.Rules.{IsInstance}
use Rattle.crew_terms.specs.Limits.{Limits, IsRoute, tasks_in, teams_in, pair_of, is_required, has_required}
use Rattle.crew_terms.specs.declared.TheConstants.{D, MOST_TEAMS_PER_TASK}
use Rattle.crew_terms.specs.Leaf.{Prices, AreInRange, IsOnRequired, Proves, pi_of, rho_of, reward, rewards, term, task_price, earned}
use Rattle.crew_terms.specs.Total.{total}
use Rattle.crew_terms.specs.declared.Pair.{Pair}
use Rattle.crew_terms.specs.declared.Pair.TheVariants.{Free, Forbidden, Required}
use Rattle.crew_terms.specs.declared.Visit.{Visit}
use Rattle.crew_terms.specs.Minutes.{required_teams}
use Rattle.crew_terms.specs.Decided.{IsDecided}
use Rattle.search_terms.specs.Proven.{PricesProve}
use Rattle.share_terms.specs.Shares.{visits_to}
use Rattle.search_terms.specs.Closing.{minute_of, all_cost, IsStuck, ArePricedBy, StuckPrices, CrowdedPrices, ShortPrices, OpenPrices}
use Rattle.crew_terms.specs.Totals.{total-same, total-le, total-plus, total-zero, total-one, total-front}
use Rattle.crew_terms.specs.Nodes.{not_required}
use Rattle.crew_terms.specs.Below.{any_below-some}
use Rattle.crew_num.specs.Scales.{times, times-zero, times-suc, times-add, times-of-zero, times-more}
use Rattle.share_terms.specs.Rewards.{known_route, rewards_total}
use Rattle.search_laws.proofs.Worths.{EarnsAtMost, routes_prove}
use Rattle.search_laws.proofs.Required.{IsRequiredPlan}
use Rattle.search_laws.proofs.Decided.{once, none, leaves_out}

-- a bound that is all tasks' cost proves each number of tasks
all_proved : (t l : ℕ) (b : ℤ) → l ≤ t → pos (t * D) ≤ℤ b → Proves b l
all_proved t zero b le h = tt
all_proved t (suc l) b le h = omega (arith, ints)

required_test : (x : Pair) → x ≡ Required → is_required x ≡ true
required_test x e = ap is_required e

tell_required : (x : Pair) → (x ≡ Required) ⊎ (x ≡ Required → ⊥)
tell_required Free = inr (λ e. let f : Free ≡ Required = e in cc)
tell_required Forbidden = inr (λ e. let f : Forbidden ≡ Required = e in cc)
tell_required Required = inl refl

-- a price for each team that is required at the task
pub total-required : (n : Limits) (j m : ℕ) (c : ℤ) → total m (λ k. cond (is_required (pair_of n k j)) c (pos 0)) ≡ times (length (filter (λ k. is_required (pair_of n k j)) (range_with_len 0 m))) c
total-required n j zero c = sym (times-zero c)
total-required n j (suc m) c =
    let rest = total-required n j m c in
    let step : suc m ≡ m + 1 = omega arith in
    let more = ap (range_with_len 0) step ∙ sym (map-id (range_with_len 0 (m + 1))) ∙ map-range_with_len_more (λ x. x) 0 m m (omega arith) ∙ ap (λ xs. xs ++ m ∷ []) (map-id (range_with_len 0 m)) in
    let e = ap length (ap (filter (λ k. is_required (pair_of n k j))) more ∙ filter-append (λ k. is_required (pair_of n k j)) (range_with_len 0 m) (m ∷ [])) in
    let f = length-append (filter (λ k. is_required (pair_of n k j)) (range_with_len 0 m)) (filter (λ k. is_required (pair_of n k j)) (m ∷ [])) in
    let g = ap (λ x. times x c) (e ∙ f) in
    let h = times-add (length (filter (λ k. is_required (pair_of n k j)) (range_with_len 0 m))) (length (filter (λ k. is_required (pair_of n k j)) (m ∷ []))) c in
    let i = last (is_required (pair_of n m j)) in
    omega (arith, ints)
  where
    last : (b : Bool) → cond b c (pos 0) ≡ times (length (cond b (m ∷ []) [])) c
    last true = let a = times-suc 0 c in let z = times-zero c in omega (arith, ints)
    last false = sym (times-zero c)

module _ (n : Limits) (is : IsInstance n.instance) (known : (k j : ℕ) → k < teams_in n → pair_of n k j ≡ Required → j < tasks_in n) (decided : IsDecided n) (p : Prices) (range : AreInRange p) where
  abbrev pub Proven : ℕ → Type 0
  Proven l = PricesProve n p l

  on_required : (task : ℕ → ℤ) (pair : ℕ → ℕ → ℤ) → ArePricedBy n p task pair → IsOnRequired n p
  on_required task pair by k j ne = by.pairs k j ∙ ap (λ b. cond b (pair k j) (pos 0)) (not_required (pair_of n k j) ne)

  -- what a route of a decided node earns, task by task
  earns : (k : ℕ) → (vs : List Visit) → IsRoute n k vs → rewards (earned p k) vs ≡ total (tasks_in n) (λ j. times (visits_to j vs) (reward p k j))
  earns k vs r = rewards_total p k (tasks_in n) vs (known_route n k vs r)

  -- where each reward of a pair that is required is 0, a route earns nothing
  earns_nothing : (k : ℕ) → k < teams_in n → ((j : ℕ) → j < tasks_in n → pair_of n k j ≡ Required → reward p k j ≡ pos 0) → EarnsAtMost n k p (pos 0)
  earns_nothing k below zero_reward vs r =
      let a = earns k vs r in
      let b = total-zero (tasks_in n) (λ j. times (visits_to j vs) (reward p k j)) (λ j l. at j l (tell_required (pair_of n k j))) in
      omega (arith, ints)
    where
      at : (j : ℕ) → j < tasks_in n → (pair_of n k j ≡ Required) ⊎ (pair_of n k j ≡ Required → ⊥) → times (visits_to j vs) (reward p k j) ≡ pos 0
      at j l (inl e) = ap (times (visits_to j vs)) (zero_reward j l e) ∙ times-of-zero (visits_to j vs)
      at j l (inr ne) = ap (λ m. times m (reward p k j)) (none n is decided k below vs j ne r) ∙ times-zero (reward p k j)

  -- a task whose price is 0 has no term
  term_zero : (j : ℕ) → pi_of p j ≡ pos 0 → term n p j ≡ pos 0
  term_zero j e = by (has_required n j) (task_price n p j) (ap (times (task_of n.instance j).teams) e ∙ times-of-zero (task_of n.instance j).teams)
    where
      by : (b : Bool) (x : ℤ) → x ≡ pos 0 → cond b x (int_min (pos D) x) ≡ pos 0
      by true x z = z
      by false x z = omega (arith, ints, clamps)

  -- ---- a stuck team

  module _ (k : ℕ) (below_k : k < teams_in n) (priced : StuckPrices n k p) (stuck : IsStuck n k) where
    abbrev extras : ℕ → ℤ
    extras h = total (tasks_in n) (λ j. rho_of p h j)

    abbrev share : ℕ → ℤ
    share h = cond (eqb h k) (pos (all_cost n)) (pos 0)

    other_extra : (h j : ℕ) → h ≢ k → rho_of p h j ≡ pos 0
    other_extra h j ne = priced.pairs h j ∙ ap (λ b. cond (is_required (pair_of n h j)) (cond b (pos (all_cost n)) (pos 0)) (pos 0)) (ne_eqb h k ne) ∙ at (is_required (pair_of n h j))
      where
        at : (b : Bool) → cond b (pos 0) (pos 0) ≡ pos 0
        at true = refl
        at false = refl

    own_extra : (j : ℕ) → rho_of p k j ≡ cond (is_required (pair_of n k j)) (pos (all_cost n)) (pos 0)
    own_extra j = priced.pairs k j ∙ ap (λ b. cond (is_required (pair_of n k j)) (cond b (pos (all_cost n)) (pos 0)) (pos 0)) (eq-eqb k k refl)

    -- the team's routes leave out a required task
    own_most : (g : ℕ) → g < tasks_in n → pair_of n k g ≡ Required → (vs : List Visit) → IsRoute n k vs → visits_to g vs ≡ 0 → (rewards (earned p k) vs +ℤ pos (all_cost n)) ≤ℤ extras k
    own_most g below_g e vs r out =
        let a = earns k vs r in
        let b = total-le (tasks_in n) (λ j. times (visits_to j vs) (reward p k j) +ℤ cond (eqb j g) (pos (all_cost n)) (pos 0)) (λ j. rho_of p k j)
        (λ j l. at j l (tell_required (pair_of n k j)) (cases_eq j g)) in
        let c = total-plus (tasks_in n) (λ j. times (visits_to j vs) (reward p k j)) (λ j. cond (eqb j g) (pos (all_cost n)) (pos 0)) in
        let d = total-one (tasks_in n) (λ j. cond (eqb j g) (pos (all_cost n)) (pos 0)) g below_g (λ j l ne. ap (λ b. cond b (pos (all_cost n)) (pos 0)) (ne_eqb j g ne)) in
        let f = ap (λ b. cond b (pos (all_cost n)) (pos 0)) (eq-eqb g g refl) in
        omega (arith, ints)
      where
        -- one visit at most, at a price that is the extra
        one : (j : ℕ) → j < tasks_in n → pair_of n k j ≡ Required → times (visits_to j vs) (reward p k j) ≤ℤ rho_of p k j
        one j l e =
            let t = priced.tasks j l in
            let x = own_extra j ∙ ap (λ b. cond b (pos (all_cost n)) (pos 0)) (required_test (pair_of n k j) e) in
            let m = times-more (visits_to j vs) 1 (reward p k j) (once n is decided k below_k vs j r) (omega (arith, ints)) in
            let s = times-suc 0 (reward p k j) in
            let z = times-zero (reward p k j) in
            omega (arith, ints)

        at : (j : ℕ) → j < tasks_in n → (pair_of n k j ≡ Required) ⊎ (pair_of n k j ≡ Required → ⊥) → (j ≡ g) ⊎ (j ≡ g → ⊥) → (times (visits_to j vs) (reward p k j) +ℤ cond (eqb j g) (pos (all_cost n)) (pos 0)) ≤ℤ rho_of p k j
        at j l x (inl s) =
            let v = ap (λ i. visits_to i vs) s ∙ out in
            let a = ap (λ m. times m (reward p k j)) v ∙ times-zero (reward p k j) in
            let b = ap (λ b. cond b (pos (all_cost n)) (pos 0)) (eq-eqb j g s) in
            let c = own_extra j ∙ ap (λ b. cond b (pos (all_cost n)) (pos 0)) (required_test (pair_of n k j) (ap (pair_of n k) s ∙ e)) in
            omega (arith, ints)
        at j l (inl q) (inr ne) =
            let a = one j l q in
            let b = ap (λ b. cond b (pos (all_cost n)) (pos 0)) (ne_eqb j g ne) in
            omega (arith, ints)
        at j l (inr nq) (inr ne) =
            let a = ap (λ m. times m (reward p k j)) (none n is decided k below_k vs j nq r) ∙ times-zero (reward p k j) in
            let b = ap (λ b. cond b (pos (all_cost n)) (pos 0)) (ne_eqb j g ne) in
            let c = own_extra j ∙ ap (λ b. cond b (pos (all_cost n)) (pos 0)) (not_required (pair_of n k j) nq) in
            omega (arith, ints)

    most_by : (h : ℕ) → h < teams_in n → (h ≡ k) ⊎ (h ≡ k → ⊥) → EarnsAtMost n h p (extras h -ℤ share h)
    most_by h l (inl e) vs r =
        let own = subst (λ x. IsRoute n x vs) e r in
        let out = leaves_out n is decided k below_k stuck vs own in
        let a = own_most out.0 (within out.0 out.1) out.1 vs own out.2 in
        let b = ap (λ x. rewards (earned p x) vs) e in
        let c = ap extras e in
        let d = ap (λ b. cond b (pos (all_cost n)) (pos 0)) (eq-eqb h k e) in
        omega (arith, ints)
      where
        within : (g : ℕ) → pair_of n k g ≡ Required → g < tasks_in n
        within g q = known k g below_k q
    most_by h l (inr ne) vs r =
        let a = earns_nothing h l (λ j b q. let t = priced.tasks j b in let x = other_extra h j ne in omega (arith, ints)) vs r in
        let b = total-zero (tasks_in n) (λ j. rho_of p h j) (λ j b. other_extra h j ne) in
        let d = ap (λ b. cond b (pos (all_cost n)) (pos 0)) (ne_eqb h k ne) in
        omega (arith, ints)

    pub stuck_proves : (l : ℕ) → l ≤ tasks_in n → Proven l
    stuck_proves l le =
        routes_prove n p is range (on_required _ _ priced) (λ h. extras h -ℤ share h) l (λ h b. most_by h b (cases_eq h k)) (all_proved (tasks_in n) l _ le (
        let terms = total-zero (tasks_in n) (term n p) (λ j b. term_zero j (priced.tasks j b)) in
        let plus = total-plus (teams_in n) (λ h. extras h -ℤ share h) share in
        let same = total-same (teams_in n) (λ h. (extras h -ℤ share h) +ℤ share h) extras (λ h b. omega (arith, ints)) in
        let one = total-one (teams_in n) share k below_k (λ h b ne. ap (λ b. cond b (pos (all_cost n)) (pos 0)) (ne_eqb h k ne)) in
        let own = ap (λ b. cond b (pos (all_cost n)) (pos 0)) (eq-eqb k k refl) in
        omega (arith, ints)))

  -- ---- a task with too many required teams, or too few

  module _ (i : ℕ) (below_i : i < tasks_in n) where
    abbrev cost : ℤ
    cost = pos (all_cost n)

    -- a sum of one
    one_term : (c : ℤ) → ((j : ℕ) → j < tasks_in n → j ≢ i → pi_of p j ≡ pos 0) → term n p i ≡ c → total (tasks_in n) (term n p) ≡ c
    one_term c zero_price e = total-one (tasks_in n) (term n p) i below_i (λ j b ne. term_zero j (zero_price j b ne)) ∙ e

    term_required : has_required n i ≡ true → term n p i ≡ task_price n p i
    term_required e = ap (λ b. cond b (task_price n p i) (int_min (pos D) (task_price n p i))) e

    abbrev required : ℕ
    required = length (required_teams n i)

    -- r times z and more often c, where z is -c
    beyond : (r m : ℕ) (c z : ℤ) → z ≡ neg_ℤ c → pos 0 ≤ℤ c → r < m → c ≤ℤ (times r z +ℤ times m c)
    beyond zero m c z e h lt = let a = times-zero z in let b = times-more 1 m c (omega arith) h in let s = times-suc 0 c in let t = times-zero c in omega (arith, ints)
    beyond (suc r) zero c z e h lt = absurd (omega arith)
    beyond (suc r) (suc m) c z e h lt = let a = times-suc r z in let b = times-suc m c in let f = beyond r m c z e h (omega arith) in omega (arith, ints)

    pub crowded_proves : CrowdedPrices n i p → has_required n i ≡ true → (task_of n.instance i).teams < required → (l : ℕ) → l ≤ tasks_in n → Proven l
    crowded_proves priced some many l le =
        routes_prove n p is range (on_required _ _ priced) (λ h. pos 0) l (λ h b. earns_nothing h b (λ j c q. reward_zero h j c q (cases_eq j i))) (all_proved (tasks_in n) l _ le (
        let own = priced.tasks i below_i ∙ ap (λ b. cond b (neg_ℤ cost) (pos 0)) (eq-eqb i i refl) in
        let terms = one_term (task_price n p i) (λ j b ne. priced.tasks j b ∙ ap (λ b. cond b (neg_ℤ cost) (pos 0)) (ne_eqb j i ne)) (term_required some) in
        let rows = total-same (teams_in n) (λ k. total (tasks_in n) (λ j. rho_of p k j)) (λ k. cond (is_required (pair_of n k i)) cost (pos 0)) (λ k b. row k) in
        let count = total-required n i (teams_in n) cost in
        let idle = total-zero (teams_in n) (λ h. pos 0) (λ h b. refl) in
        let more = beyond (task_of n.instance i).teams required cost (pi_of p i) own (omega (arith, ints)) many in
        omega (arith, ints)))
      where
        reward_zero : (h j : ℕ) → j < tasks_in n → pair_of n h j ≡ Required → (j ≡ i) ⊎ (j ≡ i → ⊥) → reward p h j ≡ pos 0
        reward_zero h j c q (inl e) =
            let a = priced.tasks j c ∙ ap (λ b. cond b (neg_ℤ cost) (pos 0)) (eq-eqb j i e) in
            let d = priced.pairs h j ∙ ap (λ b. cond b (cond (eqb j i) cost (pos 0)) (pos 0)) (required_test (pair_of n h j) q) ∙ ap (λ b. cond b cost (pos 0)) (eq-eqb j i e) in
            omega (arith, ints)
        reward_zero h j c q (inr ne) =
            let a = priced.tasks j c ∙ ap (λ b. cond b (neg_ℤ cost) (pos 0)) (ne_eqb j i ne) in
            let d = priced.pairs h j ∙ ap (λ b. cond b (cond (eqb j i) cost (pos 0)) (pos 0)) (required_test (pair_of n h j) q) ∙ ap (λ b. cond b cost (pos 0)) (ne_eqb j i ne) in
            omega (arith, ints)

        zero_extra : (k j : ℕ) → j ≢ i → (b : Bool) → is_required (pair_of n k j) ≡ b → rho_of p k j ≡ pos 0
        zero_extra k j ne b e = priced.pairs k j ∙ ap (λ x. cond (is_required (pair_of n k j)) (cond x cost (pos 0)) (pos 0)) (ne_eqb j i ne) ∙ at (is_required (pair_of n k j))
          where
            at : (b : Bool) → cond b (pos 0) (pos 0) ≡ pos 0
            at true = refl
            at false = refl

        row : (k : ℕ) → total (tasks_in n) (λ j. rho_of p k j) ≡ cond (is_required (pair_of n k i)) cost (pos 0)
        row k = total-one (tasks_in n) (λ j. rho_of p k j) i below_i (λ j b ne. zero_extra k j ne (is_required (pair_of n k j)) refl)
            ∙ priced.pairs k i ∙ ap (λ b. cond (is_required (pair_of n k i)) (cond b cost (pos 0)) (pos 0)) (eq-eqb i i refl)

    -- more often z than c is taken away
    short : (r m : ℕ) (c : ℤ) → pos 0 ≤ℤ c → m < r → (c +ℤ times m c) ≤ℤ times r c
    short r m c h lt = let a = times-more (suc m) r c lt h in let b = times-suc m c in omega (arith, ints)

    pub short_proves : ShortPrices n i p → has_required n i ≡ true → required < (task_of n.instance i).teams → (l : ℕ) → l ≤ tasks_in n → Proven l
    short_proves priced some few l le =
        routes_prove n p is range (on_required _ _ priced) (λ h. cond (is_required (pair_of n h i)) cost (pos 0)) l most (all_proved (tasks_in n) l _ le (
        let own = priced.tasks i below_i ∙ ap (λ b. cond b cost (pos 0)) (eq-eqb i i refl) in
        let price = ap (times (task_of n.instance i).teams) own in
        let terms = one_term (task_price n p i) (λ j b ne. priced.tasks j b ∙ ap (λ b. cond b cost (pos 0)) (ne_eqb j i ne)) (term_required some) in
        let rows = total-zero (teams_in n) (λ k. total (tasks_in n) (λ j. rho_of p k j)) (λ k b. total-zero (tasks_in n) (λ j. rho_of p k j) (λ j c. no_extra k j)) in
        let count = total-required n i (teams_in n) cost in
        let less = short (task_of n.instance i).teams required cost (omega (arith, ints)) few in
        omega (arith, ints)))
      where
        no_extra : (k j : ℕ) → rho_of p k j ≡ pos 0
        no_extra k j = priced.pairs k j ∙ at (is_required (pair_of n k j))
          where
            at : (b : Bool) → cond b (pos 0) (pos 0) ≡ pos 0
            at true = refl
            at false = refl

        earned_at : (k : ℕ) → k < teams_in n → (vs : List Visit) → IsRoute n k vs → (pair_of n k i ≡ Required) ⊎ (pair_of n k i ≡ Required → ⊥) → times (visits_to i vs) (reward p k i) ≤ℤ cond (is_required (pair_of n k i)) cost (pos 0)
        earned_at k b vs r (inl e) =
            let own = priced.tasks i below_i ∙ ap (λ b. cond b cost (pos 0)) (eq-eqb i i refl) in
            let x = no_extra k i in
            let m = times-more (visits_to i vs) 1 (reward p k i) (once n is decided k b vs i r) (omega (arith, ints)) in
            let s = times-suc 0 (reward p k i) in
            let z = times-zero (reward p k i) in
            let t = ap (λ b. cond b cost (pos 0)) (required_test (pair_of n k i) e) in
            omega (arith, ints)
        earned_at k b vs r (inr ne) =
            let a = ap (λ m. times m (reward p k i)) (none n is decided k b vs i ne r) ∙ times-zero (reward p k i) in
            let t = ap (λ b. cond b cost (pos 0)) (not_required (pair_of n k i) ne) in
            omega (arith, ints)

        most : (k : ℕ) → k < teams_in n → EarnsAtMost n k p (cond (is_required (pair_of n k i)) cost (pos 0))
        most k b vs r =
            let a = earns k vs r in
            let c = total-one (tasks_in n) (λ j. times (visits_to j vs) (reward p k j)) i below_i (λ j l ne.
            let t = priced.tasks j l ∙ ap (λ b. cond b cost (pos 0)) (ne_eqb j i ne) in
            let x = no_extra k j in
            let w : reward p k j ≡ pos 0 = omega (arith, ints) in
            ap (times (visits_to j vs)) w ∙ times-of-zero (visits_to j vs)) in
            let d = earned_at k b vs r (tell_required (pair_of n k i)) in
            omega (arith, ints)

  -- ---- a node with one plan

  reward_zero : OpenPrices n p → (k j : ℕ) → k < teams_in n → j < tasks_in n → pair_of n k j ≡ Required → reward p k j ≡ pos 0
  reward_zero priced k j b l e =
      let some = any_below-some (teams_in n) (λ h. is_required (pair_of n h j)) k b (required_test (pair_of n k j) e) in
      let t = priced.tasks j l ∙ ap (λ x. cond x (pos 0) (pos (D / (task_of n.instance j).teams))) some in
      let x = zero_pair priced k j in
      omega (arith, ints)
    where
      zero_pair : OpenPrices n p → (k j : ℕ) → rho_of p k j ≡ pos 0
      zero_pair priced k j = priced.pairs k j ∙ at (is_required (pair_of n k j))
        where
          at : (b : Bool) → cond b (pos 0) (pos 0) ≡ pos 0
          at true = refl
          at false = refl

  -- D is a multiple of each number of teams
  divides : (r : ℕ) → 1 ≤ r → r ≤ MOST_TEAMS_PER_TASK → r * (D / r) ≡ D
  divides zero a b = absurd (omega arith)
  divides (suc zero) a b = refl
  divides (suc (suc zero)) a b = refl
  divides (suc (suc (suc zero))) a b = refl
  divides (suc (suc (suc (suc zero)))) a b = refl
  divides (suc (suc (suc (suc (suc zero))))) a b = refl
  divides (suc (suc (suc (suc (suc (suc zero)))))) a b = refl
  divides (suc (suc (suc (suc (suc (suc (suc zero))))))) a b = refl
  divides (suc (suc (suc (suc (suc (suc (suc (suc zero)))))))) a b = refl
  divides (suc (suc (suc (suc (suc (suc (suc (suc (suc r))))))))) a b = absurd (omega arith)

  open_term : OpenPrices n p → (j : ℕ) → j < tasks_in n → term n p j ≡ cond (has_required n j) (pos 0) (pos D)
  open_term priced j l = by (has_required n j) refl
    where
      by : (b : Bool) → has_required n j ≡ b → term n p j ≡ cond (has_required n j) (pos 0) (pos D)
      by true e = term_zero j (priced.tasks j l ∙ ap (λ x. cond x (pos 0) (pos (D / (task_of n.instance j).teams))) e) ∙ sym (ap (λ x. cond x (pos 0) (pos D)) e)
      by false e =
          let t = priced.tasks j l ∙ ap (λ x. cond x (pos 0) (pos (D / (task_of n.instance j).teams))) e in
          let a = (is.parts.tasks j no_task l).teams in
          let c = ap (times (task_of n.instance j).teams) t ∙ pos-*ℤ-pos (task_of n.instance j).teams (D / (task_of n.instance j).teams) ∙ ap pos (divides (task_of n.instance j).teams a.some a.few) in
          ap (λ x. cond x (task_price n p j) (int_min (pos D) (task_price n p j))) e ∙ ap (int_min (pos D)) c ∙ sym (ap (λ x. cond x (pos 0) (pos D)) e)

  counted : (q : Plan) → total (length q) (λ j. cond (is_none (job_of q j)) (pos D) (pos 0)) ≡ times (unassigned_count q) (pos D)
  counted [] = sym (times-zero (pos D))
  counted (o ∷ os) =
      let rest = counted os in
      let front = total-front (length os) (λ j. cond (is_none (job_of (o ∷ os) j)) (pos D) (pos 0)) in
      let at = count_cons o os in
      omega (arith, ints)
    where
      count_cons : (o : Option Job) (os : Plan) → times (unassigned_count (o ∷ os)) (pos D) ≡ cond (is_none o) (pos D) (pos 0) +ℤ times (unassigned_count os) (pos D)
      count_cons None os =
          let e : unassigned_count (None ∷ os) ≡ suc (unassigned_count os) = sum_by-cons (λ o. cond (is_none o) 1 0) None os ∙ omega arith in
          let a = ap (λ m. times m (pos D)) e in
          let b = times-suc (unassigned_count os) (pos D) in
          omega (arith, ints)
      count_cons (Some job) os =
          let e : unassigned_count (Some job ∷ os) ≡ unassigned_count os = sum_by-cons (λ o. cond (is_none o) 1 0) (Some job) os ∙ omega arith in
          let a = ap (λ m. times m (pos D)) e in
          omega (arith, ints)

  count_proved : (l : ℕ) (b : ℤ) → b ≡ times l (pos D) → Proves b l
  count_proved zero b e = tt
  count_proved (suc l) b e = let a = times-suc l (pos D) in let c = pos-*ℤ-pos l D in omega (arith, ints)

  pub open_proves : OpenPrices n p → (q : Plan) → IsRequiredPlan n q → Proven (unassigned_count q)
  open_proves priced q whole =
      routes_prove n p is range (on_required _ _ priced) (λ h. pos 0) (unassigned_count q) (λ k b. earns_nothing k b (λ j l e. reward_zero priced k j b l e)) (count_proved (unassigned_count q) _ (
      let terms = total-same (tasks_in n) (term n p) (λ j. cond (is_none (job_of q j)) (pos D) (pos 0)) (λ j l. open_term priced j l ∙ same j l (has_required n j) refl) in
      let idle = total-zero (teams_in n) (λ h. pos 0) (λ h b. refl) in
      let rows = total-zero (teams_in n) (λ k. total (tasks_in n) (λ j. rho_of p k j)) (λ k b. total-zero (tasks_in n) (λ j. rho_of p k j) (λ j c. no_extra k j)) in
      let all = counted q in
      let count = ap (λ m. total m (λ j. cond (is_none (job_of q j)) (pos D) (pos 0))) whole.whole in
      omega (arith, ints)))
    where
      no_extra : (k j : ℕ) → rho_of p k j ≡ pos 0
      no_extra k j = priced.pairs k j ∙ at (is_required (pair_of n k j))
        where
          at : (b : Bool) → cond b (pos 0) (pos 0) ≡ pos 0
          at true = refl
          at false = refl

      same : (j : ℕ) → j < tasks_in n → (b : Bool) → has_required n j ≡ b → cond (has_required n j) (pos 0) (pos D) ≡ cond (is_none (job_of q j)) (pos D) (pos 0)
      same j l true e = ap (λ x. cond x (pos 0) (pos D)) e ∙ sym (ap (λ o. cond (is_none o) (pos D) (pos 0)) (whole.jobs j l ∙ ap (λ x. cond x (Some (record { start = minute_of n j; teams = required_teams n j })) None) e))
      same j l false e = ap (λ x. cond x (pos 0) (pos D)) e ∙ sym (ap (λ o. cond (is_none o) (pos D) (pos 0)) (whole.jobs j l ∙ ap (λ x. cond x (Some (record { start = minute_of n j; teams = required_teams n j })) None) e))
