-- teams that price alike
use Rattle.std.proofs.Common.{◌≡◌, ◌≢◌, ◌<◌, ℕ, ℤ, List, [], ◌∷◌, ap, sym, ◌∙◌, subst, refl, arith}
use Rattle.std.specs.Int.{bit_at}
use Rattle.std.proofs.lemmas.Int.{ints}
use Rattle.crew_terms.specs.Instance.{task_of, minutes_between}
use Rattle.crew_terms.specs.Limits.{Limits, IsPermittedVisit, IsRoute, GoesOn, pair_of, tasks_in}
use Rattle.crew_terms.specs.Leaf.{Prices, IsOnRequired, IsWorth, reward, rewards, earned}
use Rattle.crew_terms.specs.declared.Pair.{Pair}
use Rattle.crew_terms.specs.declared.Pair.TheVariants.{Free, Forbidden, Required}
use Rattle.crew_terms.specs.declared.Visit.{Visit}
use Rattle.label_pricing.specs.Alike.{AreAlike, IsPairAlike}

-- what is not forbidden for one is not forbidden for the other
allowed_too : (a b : Pair) → IsPairAlike a b → a ≢ Forbidden → b ≢ Forbidden
allowed_too Free Free is ne = λ e. cc
allowed_too Free Forbidden is ne = absurd is
allowed_too Free Required is ne = absurd is
allowed_too Forbidden b is ne = absurd (ne refl)
allowed_too Required b is ne = absurd is

not_required : (a b : Pair) → IsPairAlike a b → (a ≢ Required) × (b ≢ Required)
not_required Free Free is = (λ e. cc, λ e. cc)
not_required Free Forbidden is = absurd is
not_required Free Required is = absurd is
not_required Forbidden Free is = absurd is
not_required Forbidden Forbidden is = (λ e. cc, λ e. cc)
not_required Forbidden Required is = absurd is
not_required Required b is = absurd is

pair_turned : (a b : Pair) → IsPairAlike a b → IsPairAlike b a
pair_turned Free Free is = tt
pair_turned Free Forbidden is = absurd is
pair_turned Free Required is = absurd is
pair_turned Forbidden Free is = absurd is
pair_turned Forbidden Forbidden is = tt
pair_turned Forbidden Required is = absurd is
pair_turned Required b is = absurd is

pub turned : (n : Limits) (k h : ℕ) → AreAlike n k h → AreAlike n h k
turned n k h is = record {
  teams = record { home = sym is.teams.home; from = sym is.teams.from; until = sym is.teams.until; skills = sym is.teams.skills };
  pairs = λ j l. pair_turned (pair_of n k j) (pair_of n h j) (is.pairs j l);
}

module _ (n : Limits) (k h : ℕ) (is : AreAlike n k h) where
  visit_too : (j t : ℕ) → IsPermittedVisit n k j t → IsPermittedVisit n h j t
  visit_too j t visit = record {
    known = visit.known;
    qualified = λ s needs. subst (λ skills. bit_at skills s ≡ 1) is.teams.skills (visit.qualified s needs);
    allowed = allowed_too (pair_of n k j) (pair_of n h j) (is.pairs j visit.known) visit.allowed;
    early = visit.early;
    late = visit.late;
    in_shift = record {
      comes =
          let a = visit.in_shift.comes in
          let b = is.teams.from in
          let c = ap (λ home. minutes_between n.instance home (task_of n.instance j).place) is.teams.home in
          omega arith;
      returns =
          let a = visit.in_shift.returns in
          let b = is.teams.until in
          let c = ap (λ home. minutes_between n.instance (task_of n.instance j).place home) is.teams.home in
          omega arith;
    };
  }

  goes_on_too : (v : Visit) (r : List Visit) → GoesOn n k v r → GoesOn n h v r
  goes_on_too v [] on = tt
  goes_on_too v (w ∷ ws) (step, there, on) = (step, visit_too w.task w.start there, goes_on_too w ws on)

  pub route_too : (r : List Visit) → IsRoute n k r → IsRoute n h r
  route_too [] route = tt
  route_too (v ∷ vs) (here, on) = (visit_too v.task v.start here, goes_on_too v vs on)

  module _ (p : Prices) (priced : IsOnRequired n p) where
    reward_same : (j : ℕ) → j < tasks_in n → reward p k j ≡ reward p h j
    reward_same j l =
        let pair = not_required (pair_of n k j) (pair_of n h j) (is.pairs j l) in
        let a = priced k j pair.0 in
        let b = priced h j pair.1 in
        omega (arith, ints)

    rewards_on : (v : Visit) (r : List Visit) → GoesOn n k v r → rewards (earned p k) r ≡ rewards (earned p h) r
    rewards_on v [] on = refl
    rewards_on v (w ∷ ws) (step, there, on) = let a = reward_same w.task there.known in let b = rewards_on w ws on in omega (arith, ints)

    pub rewards_same : (r : List Visit) → IsRoute n k r → rewards (earned p k) r ≡ rewards (earned p h) r
    rewards_same [] route = refl
    rewards_same (v ∷ vs) (here, on) = let a = reward_same v.task here.known in let b = rewards_on v vs on in omega (arith, ints)

pub worth_too : (n : Limits) (k h : ℕ) (p : Prices) (v : ℤ) → AreAlike n k h → IsOnRequired n p → IsWorth n k (earned p k) v → IsWorth n h (earned p h) v
worth_too n k h p v is priced worth = record {
  attained =
      let at = worth.attained in
      (at.0, route_too n k h is at.0 at.1, sym (rewards_same n k h is p priced at.0 at.1) ∙ at.2);
  greatest = λ r route.
      let back = route_too n h k (turned n k h is) r route in
      let a = rewards_same n k h is p priced r back in
      let b = worth.greatest r back in
      omega (arith, ints);
}
