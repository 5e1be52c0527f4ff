-- no leaf beats a fractional choice
use Rattle.std.proofs.Common.{◌≡◌, ◌≢◌, ◌<◌, ◌+◌, ℕ, suc, Bool, true, false, cond, List, [], ◌∷◌, refl, ap, sym, subst, ◌∙◌, arith, eqb, ◌⊎◌, inl, inr}
use Rattle.std.specs.Prelude.{ℤ, pos, ◌+ℤ◌, ◌≤ℤ◌, ◌*◌, ◌-◌, All}
use Rattle.std.specs.Int.{int_min}
use Rattle.std.proofs.lemmas.Int.{ints, clamps}
use Rattle.std.proofs.Math.IntN.{pos-*ℤ-pos}
use Rattle.std.proofs.lemmas.List.Sums.{sum_by-cons}
use Rattle.std.proofs.lemmas.Bool.{eqb-true, eq-eqb, ne_eqb, cases_Bool}
use Rattle.crew_terms.specs.Instance.{task_of}
use Rattle.crew_terms.specs.Limits.{Limits, IsRoute, tasks_in, teams_in, pair_of, has_required}
use Rattle.crew_terms.specs.declared.TheConstants.{D, MOST_PRICE}
use Rattle.share_terms.specs.declared.TheConstants.{BIG_M}
use Rattle.crew_terms.specs.Leaf.{earned, Prices, IsValidLeaf, pi_of, rho_of, reward, rewards, term, task_price, worth_of, bound_of}
use Rattle.crew_terms.specs.Total.{total}
use Rattle.crew_terms.specs.declared.Pair.{Pair}
use Rattle.crew_terms.specs.declared.Pair.TheVariants.{Free, Forbidden, Required}
use Rattle.crew_terms.specs.declared.Visit.{Visit}
use Rattle.share_terms.specs.Shares.{IsRouteIn, Share, FractionalChoice, IsFractional, unassigned_of, shares_of, parts_of, visits_to, weighed_visits, distance, task_gap, pair_gap, choice_value}
use Rattle.crew_terms.specs.Totals.{total-same, total-le, total-plus, total-zero, total-one, total-swap}
use Rattle.share_terms.specs.Rewards.{known_route, rewards_total}
use Rattle.crew_num.specs.Scales.{times, times-zero, times-suc, times-add, times-plus, times-minus, times-le, times-of-zero, times-more, times-times}
use Rattle.dossier_laws.proofs.Gaps.{times-total, times-apart}

-- ---- what the shares of a team earn

abbrev shares_earn : Prices → ℕ → List Share → ℤ
shares_earn p k [] = pos 0
shares_earn p k (s ∷ shares) = times s.parts (rewards (earned p k) s.route.visits) +ℤ shares_earn p k shares

-- each share is of a route of the team
abbrev AreOf : Limits → ℕ → List Share → Type 0
AreOf n k [] = Unit {0}
AreOf n k (s ∷ shares) = IsRoute n k s.route.visits × AreOf n k shares

weighed-cons : (s : Share) (shares : List Share) (j : ℕ) → weighed_visits (s ∷ shares) j ≡ s.parts * visits_to j s.route.visits + weighed_visits shares j
weighed-cons s shares j = sum_by-cons (λ (r : Share). r.parts * visits_to j r.route.visits) s shares

earned_total : (n : Limits) (p : Prices) (k : ℕ) (shares : List Share) → AreOf n k shares → shares_earn p k shares ≡ total (tasks_in n) (λ j. times (weighed_visits shares j) (reward p k j))
earned_total n p k [] h = sym (total-zero (tasks_in n) (λ j. times 0 (reward p k j)) (λ j b. times-zero (reward p k j)))
earned_total n p k (s ∷ shares) h =
    let rest = earned_total n p k shares h.1 in
    let own = ap (times s.parts) (rewards_total p k (tasks_in n) s.route.visits (known_route n k s.route.visits h.0)) in
    let into = times-total s.parts (tasks_in n) (λ j. times (visits_to j s.route.visits) (reward p k j)) in
    let each = total-same (tasks_in n) (λ j. times (weighed_visits (s ∷ shares) j) (reward p k j))
    (λ j. times s.parts (times (visits_to j s.route.visits) (reward p k j)) +ℤ times (weighed_visits shares j) (reward p k j))
    (λ j b. let a = ap (λ m. times m (reward p k j)) (weighed-cons s shares j) in
    let c = times-add (s.parts * visits_to j s.route.visits) (weighed_visits shares j) (reward p k j) in
    let d = times-times s.parts (visits_to j s.route.visits) (reward p k j) in
    omega (arith, ints)) in
    let plus = total-plus (tasks_in n) (λ j. times s.parts (times (visits_to j s.route.visits) (reward p k j))) (λ j. times (weighed_visits shares j) (reward p k j)) in
    omega (arith, ints)

earned_most : (n : Limits) (p : Prices) (k : ℕ) (worth : ℤ) → ((r : List Visit) → IsRoute n k r → rewards (earned p k) r ≤ℤ worth) → (shares : List Share) → AreOf n k shares → shares_earn p k shares ≤ℤ times (parts_of shares) worth
earned_most n p k worth most [] h = let a = times-zero worth in omega (arith, ints)
earned_most n p k worth most (s ∷ shares) h =
    let a = times-le s.parts (rewards (earned p k) s.route.visits) worth (most s.route.visits h.0) in
    let b = earned_most n p k worth most shares h.1 in
    let c = ap (λ m. times m worth) (sum_by-cons (λ (r : Share). r.parts) s shares) in
    let d = times-add s.parts (parts_of shares) worth in
    omega (arith, ints)

-- ---- the shares of each team, and of all

abbrev AreKnownShares : Limits → List Share → Type 0
AreKnownShares n [] = Unit {0}
AreKnownShares n (s ∷ shares) = (s.route.team < teams_in n) × IsRoute n s.route.team s.route.visits × AreKnownShares n shares

of_team : (n : Limits) (k : ℕ) (shares : List Share) → AreKnownShares n shares → AreOf n k (shares_of shares k)
of_team n k [] h = tt
of_team n k (s ∷ shares) h = by (cases_Bool (eqb k s.route.team)) (of_team n k shares h.2)
  where
    by : (eqb k s.route.team ≡ true) ⊎ (eqb k s.route.team ≡ false) → AreOf n k (shares_of shares k) → AreOf n k (shares_of (s ∷ shares) k)
    by (inl e) rest = rw e (subst (λ t. IsRoute n t s.route.visits) (sym (eqb-true k s.route.team e)) h.1, rest)
    by (inr e) rest = rw e rest

-- at a price, all visits to the task are those of each team
all_teams : (n : Limits) (j : ℕ) (z : ℤ) (shares : List Share) → AreKnownShares n shares
    → total (teams_in n) (λ k. times (weighed_visits (shares_of shares k) j) z) ≡ times (weighed_visits shares j) z
all_teams n j z [] h = total-zero (teams_in n) (λ k. times 0 z) (λ k b. times-zero z) ∙ sym (times-zero z)
all_teams n j z (s ∷ shares) h =
    let own : ℤ = times (s.parts * visits_to j s.route.visits) z in
    let rest = all_teams n j z shares h.2 in
    let each = total-same (teams_in n) (λ k. times (weighed_visits (shares_of (s ∷ shares) k) j) z) (λ k. cond (eqb k s.route.team) own (pos 0) +ℤ times (weighed_visits (shares_of shares k) j) z) (λ k b. at k (cases_Bool (eqb k s.route.team))) in
    let plus = total-plus (teams_in n) (λ k. cond (eqb k s.route.team) own (pos 0)) (λ k. times (weighed_visits (shares_of shares k) j) z) in
    let one = total-one (teams_in n) (λ k. cond (eqb k s.route.team) own (pos 0)) s.route.team h.0 (λ k b ne. ap (λ t. cond t own (pos 0)) (ne_eqb k s.route.team ne)) in
    let same = ap (λ t. cond t own (pos 0)) (eq-eqb s.route.team s.route.team refl) in
    let c = ap (λ m. times m z) (weighed-cons s shares j) in
    let d = times-add (s.parts * visits_to j s.route.visits) (weighed_visits shares j) z in
    omega (arith, ints)
  where
    at : (k : ℕ) → (eqb k s.route.team ≡ true) ⊎ (eqb k s.route.team ≡ false)
        → times (weighed_visits (shares_of (s ∷ shares) k) j) z ≡ cond (eqb k s.route.team) (times (s.parts * visits_to j s.route.visits) z) (pos 0) +ℤ times (weighed_visits (shares_of shares k) j) z
    at k (inl e) = rw e (let a = ap (λ m. times m z) (weighed-cons s (shares_of shares k) j) in let b = times-add (s.parts * visits_to j s.route.visits) (weighed_visits (shares_of shares k) j) z in omega (arith, ints))
    at k (inr e) = rw e (omega (arith, ints))

known_shares : (n : Limits) (shares : List Share) → All (λ (s : Share). IsRouteIn n s.route) shares → AreKnownShares n shares
known_shares n [] a = tt
known_shares n (s ∷ shares) a = let r = a 0 s (omega arith) in (r.team, r.route, known_shares n shares (λ k d l. a (suc k) d (omega arith)))

-- ---- the bound and the value

module _ (n : Limits) (p : Prices) (worths : List ℤ) (phi : ℕ → ℕ → ℕ → ℤ) (c : FractionalChoice) (leaf : IsValidLeaf n p worths phi) (is : IsFractional n c)
    (most : (k : ℕ) → k < teams_in n → (r : List Visit) → IsRoute n k r → rewards (earned p k) r ≤ℤ worth_of worths k) where
  abbrev all_w : ℕ → ℕ
  all_w j = weighed_visits c.shares j

  abbrev team_w : ℕ → ℕ → ℕ
  team_w k j = weighed_visits (shares_of c.shares k) j

  -- a term is at most what the visits to the task earn, what is left unassigned, and the gap
  task_le : (j : ℕ) → j < tasks_in n → times c.whole (term n p j) ≤ℤ ((times (all_w j) (pi_of p j) +ℤ times D (pos (unassigned_of c j))) +ℤ times MOST_PRICE (task_gap n c j))
  task_le j below = by (has_required n j) refl
    where
      apart : times ((task_of n.instance j).teams * (c.whole - (unassigned_of c j))) (pi_of p j) ≤ℤ (times (all_w j) (pi_of p j) +ℤ times MOST_PRICE (task_gap n c j))
      apart =
          let range = leaf.range.tasks j in
          let a = times-apart ((task_of n.instance j).teams * (c.whole - (unassigned_of c j))) (all_w j) MOST_PRICE (pi_of p j) range.least range.most in
          let b = pos-*ℤ-pos (distance ((task_of n.instance j).teams * (c.whole - (unassigned_of c j))) (all_w j)) MOST_PRICE in
          let d = pos-*ℤ-pos MOST_PRICE (distance ((task_of n.instance j).teams * (c.whole - (unassigned_of c j))) (all_w j)) in
          omega (arith, ints)

      swapped : times (c.whole - (unassigned_of c j)) (times (task_of n.instance j).teams (pi_of p j)) ≡ times ((task_of n.instance j).teams * (c.whole - (unassigned_of c j))) (pi_of p j)
      swapped = let a = times-times (c.whole - (unassigned_of c j)) (task_of n.instance j).teams (pi_of p j) in let e : (c.whole - (unassigned_of c j)) * (task_of n.instance j).teams ≡ (task_of n.instance j).teams * (c.whole - (unassigned_of c j)) = omega arith in let f = ap (λ m. times m (pi_of p j)) e in omega (arith, ints)

      by : (b : Bool) → has_required n j ≡ b → times c.whole (term n p j) ≤ℤ ((times (all_w j) (pi_of p j) +ℤ times D (pos (unassigned_of c j))) +ℤ times MOST_PRICE (task_gap n c j))
      by true e =
          let t : term n p j ≡ task_price n p j = ap (λ b. cond b (task_price n p j) (int_min (pos D) (task_price n p j))) e in
          let none = is.required j e in
          let u = ap (times c.whole) t in
          let whole : c.whole - (unassigned_of c j) ≡ c.whole = omega arith in
          let f = ap (λ m. times m (times (task_of n.instance j).teams (pi_of p j))) whole in
          let g = apart in
          let h = swapped in
          let i = pos-*ℤ-pos D (unassigned_of c j) in
          omega (arith, ints)
      by false e =
          let t : term n p j ≡ int_min (pos D) (task_price n p j) = ap (λ b. cond b (task_price n p j) (int_min (pos D) (task_price n p j))) e in
          let u = ap (times c.whole) t in
          let few = is.unassigned j in
          let whole : (unassigned_of c j) + (c.whole - (unassigned_of c j)) ≡ c.whole = omega arith in
          let f = ap (λ m. times m (int_min (pos D) (task_price n p j))) whole in
          let g = times-add (unassigned_of c j) (c.whole - (unassigned_of c j)) (int_min (pos D) (task_price n p j)) in
          let first = times-le (unassigned_of c j) (int_min (pos D) (task_price n p j)) (pos D) (min_left (pos D) (task_price n p j)) in
          let second = times-le (c.whole - (unassigned_of c j)) (int_min (pos D) (task_price n p j)) (task_price n p j) (min_right (pos D) (task_price n p j)) in
          let h = swapped in
          let i = pos-*ℤ-pos (unassigned_of c j) D in
          let k = pos-*ℤ-pos D (unassigned_of c j) in
          let m = apart in
          omega (arith, ints)
        where
          min_left : (a b : ℤ) → int_min a b ≤ℤ a
          min_left a b = omega (arith, ints, clamps)

          min_right : (a b : ℤ) → int_min a b ≤ℤ b
          min_right a b = omega (arith, ints, clamps)

  -- an extra is at most what the team's visits earn, and the gap
  pair_le : (k j : ℕ) → times c.whole (rho_of p k j) ≤ℤ (times (team_w k j) (rho_of p k j) +ℤ times MOST_PRICE (pair_gap n c k j))
  pair_le k j = by (pair_of n k j) refl
    where
      none : pair_of n k j ≢ Required → times c.whole (rho_of p k j) ≤ℤ (times (team_w k j) (rho_of p k j) +ℤ times MOST_PRICE (pos 0))
      none ne =
          let e = leaf.priced k j ne in
          let a = ap (times c.whole) e ∙ times-of-zero c.whole in
          let b = ap (times (team_w k j)) e ∙ times-of-zero (team_w k j) in
          let d = times-of-zero MOST_PRICE in
          omega (arith, ints)

      by : (x : Pair) → pair_of n k j ≡ x → times c.whole (rho_of p k j) ≤ℤ (times (team_w k j) (rho_of p k j) +ℤ times MOST_PRICE (pair_gap n c k j))
      by Free e = rw e (none (λ f. let g : Free ≡ Required = sym e ∙ f in cc))
      by Forbidden e = rw e (none (λ f. let g : Forbidden ≡ Required = sym e ∙ f in cc))
      by Required e = rw e (
          let range = leaf.range.pairs k j in
          let a = times-apart c.whole (team_w k j) MOST_PRICE (rho_of p k j) range.least range.most in
          let b = pos-*ℤ-pos (distance c.whole (team_w k j)) MOST_PRICE in
          let d = pos-*ℤ-pos MOST_PRICE (distance c.whole (team_w k j)) in
          omega (arith, ints))

  -- what a team's visits earn is at most its worth
  team_le : (k : ℕ) → k < teams_in n → total (tasks_in n) (λ j. times (team_w k j) (pi_of p j) +ℤ times (team_w k j) (rho_of p k j)) ≤ℤ times c.whole (worth_of worths k)
  team_le k below =
      let of = of_team n k c.shares (known_shares n c.shares is.routes) in
      let same = total-same (tasks_in n) (λ j. times (team_w k j) (reward p k j)) (λ j. times (team_w k j) (pi_of p j) +ℤ times (team_w k j) (rho_of p k j)) (λ j b. times-plus (team_w k j) (pi_of p j) (rho_of p k j)) in
      let earns = earned_total n p k (shares_of c.shares k) of in
      let atmost = earned_most n p k (worth_of worths k) (most k below) (shares_of c.shares k) of in
      let few = times-more (parts_of (shares_of c.shares k)) c.whole (worth_of worths k) (is.most k below) (leaf.valid k below).worth_rules.idle in
      omega (arith, ints)

  abbrev tasks_earn : ℤ
  tasks_earn = total (tasks_in n) (λ j. times (all_w j) (pi_of p j))

  abbrev pairs_earn : ℤ
  pairs_earn = total (teams_in n) (λ k. total (tasks_in n) (λ j. times (team_w k j) (rho_of p k j)))

  -- all visits together earn at most all worths
  all_le : (tasks_earn +ℤ pairs_earn) ≤ℤ total (teams_in n) (λ k. times c.whole (worth_of worths k))
  all_le =
      let known = known_shares n c.shares is.routes in
      let each = total-le (teams_in n) (λ k. total (tasks_in n) (λ j. times (team_w k j) (pi_of p j) +ℤ times (team_w k j) (rho_of p k j))) (λ k. times c.whole (worth_of worths k)) team_le in
      let both = total-same (teams_in n) (λ k. total (tasks_in n) (λ j. times (team_w k j) (pi_of p j) +ℤ times (team_w k j) (rho_of p k j)))
      (λ k. total (tasks_in n) (λ j. times (team_w k j) (pi_of p j)) +ℤ total (tasks_in n) (λ j. times (team_w k j) (rho_of p k j)))
      (λ k b. total-plus (tasks_in n) (λ j. times (team_w k j) (pi_of p j)) (λ j. times (team_w k j) (rho_of p k j))) in
      let plus = total-plus (teams_in n) (λ k. total (tasks_in n) (λ j. times (team_w k j) (pi_of p j))) (λ k. total (tasks_in n) (λ j. times (team_w k j) (rho_of p k j))) in
      let swap = total-swap (teams_in n) (tasks_in n) (λ k j. times (team_w k j) (pi_of p j)) in
      let sums = total-same (tasks_in n) (λ j. total (teams_in n) (λ k. times (team_w k j) (pi_of p j))) (λ j. times (all_w j) (pi_of p j)) (λ j b. all_teams n j (pi_of p j) c.shares known) in
      omega (arith, ints)

  terms_le : times c.whole (total (tasks_in n) (term n p))
      ≤ℤ ((tasks_earn +ℤ times D (total (tasks_in n) (λ j. pos (unassigned_of c j)))) +ℤ times MOST_PRICE (total (tasks_in n) (task_gap n c)))
  terms_le =
      let a = times-total c.whole (tasks_in n) (term n p) in
      let b = total-le (tasks_in n) (λ j. times c.whole (term n p j)) (λ j. (times (all_w j) (pi_of p j) +ℤ times D (pos (unassigned_of c j))) +ℤ times MOST_PRICE (task_gap n c j)) task_le in
      let d = total-plus (tasks_in n) (λ j. times (all_w j) (pi_of p j) +ℤ times D (pos (unassigned_of c j))) (λ j. times MOST_PRICE (task_gap n c j)) in
      let e = total-plus (tasks_in n) (λ j. times (all_w j) (pi_of p j)) (λ j. times D (pos (unassigned_of c j))) in
      let f = times-total D (tasks_in n) (λ j. pos (unassigned_of c j)) in
      let g = times-total MOST_PRICE (tasks_in n) (task_gap n c) in
      omega (arith, ints)

  extras_le : times c.whole (total (teams_in n) (λ k. total (tasks_in n) (λ j. rho_of p k j)))
      ≤ℤ (pairs_earn +ℤ times MOST_PRICE (total (teams_in n) (λ k. total (tasks_in n) (pair_gap n c k))))
  extras_le =
      let a = times-total c.whole (teams_in n) (λ k. total (tasks_in n) (λ j. rho_of p k j)) in
      let b = total-le (teams_in n) (λ k. times c.whole (total (tasks_in n) (λ j. rho_of p k j)))
      (λ k. total (tasks_in n) (λ j. times (team_w k j) (rho_of p k j)) +ℤ times MOST_PRICE (total (tasks_in n) (pair_gap n c k))) (λ k below. one k) in
      let d = total-plus (teams_in n) (λ k. total (tasks_in n) (λ j. times (team_w k j) (rho_of p k j))) (λ k. times MOST_PRICE (total (tasks_in n) (pair_gap n c k))) in
      let e = times-total MOST_PRICE (teams_in n) (λ k. total (tasks_in n) (pair_gap n c k)) in
      omega (arith, ints)
    where
      one : (k : ℕ) → times c.whole (total (tasks_in n) (λ j. rho_of p k j)) ≤ℤ (total (tasks_in n) (λ j. times (team_w k j) (rho_of p k j)) +ℤ times MOST_PRICE (total (tasks_in n) (pair_gap n c k)))
      one k =
          let a = times-total c.whole (tasks_in n) (λ j. rho_of p k j) in
          let b = total-le (tasks_in n) (λ j. times c.whole (rho_of p k j)) (λ j. times (team_w k j) (rho_of p k j) +ℤ times MOST_PRICE (pair_gap n c k j)) (λ j below. pair_le k j) in
          let d = total-plus (tasks_in n) (λ j. times (team_w k j) (rho_of p k j)) (λ j. times MOST_PRICE (pair_gap n c k j)) in
          let e = times-total MOST_PRICE (tasks_in n) (pair_gap n c k) in
          omega (arith, ints)

  pub no_leaf_beats : times c.whole (bound_of n p worths) ≤ℤ times D (choice_value n c)
  no_leaf_beats =
      let terms = total (tasks_in n) (term n p) in
      let extras = total (teams_in n) (λ k. total (tasks_in n) (λ j. rho_of p k j)) in
      let all = total (teams_in n) (worth_of worths) in
      let a = times-minus c.whole (terms +ℤ extras) all in
      let b = times-plus c.whole terms extras in
      let d = times-total c.whole (teams_in n) (worth_of worths) in
      let left = total (tasks_in n) (λ j. pos (unassigned_of c j)) in
      let tasks = total (tasks_in n) (task_gap n c) in
      let pairs = total (teams_in n) (λ k. total (tasks_in n) (pair_gap n c k)) in
      let e = times-plus D left (times BIG_M tasks +ℤ times BIG_M pairs) in
      let f = times-plus D (times BIG_M tasks) (times BIG_M pairs) in
      let g : times MOST_PRICE tasks ≡ times D (times BIG_M tasks) = times-times D BIG_M tasks in
      let h : times MOST_PRICE pairs ≡ times D (times BIG_M pairs) = times-times D BIG_M pairs in
      let i = terms_le in
      let j = extras_le in
      let k = all_le in
      omega (arith, ints)
