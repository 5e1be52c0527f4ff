-- the local rules of a team, from the potentials at its visits
use Rattle.std.proofs.Common.{◌≡◌, ◌≢◌, ◌≤◌, ◌<◌, ◌+◌, ◌-◌, ◌+ℤ◌, ℕ, ℤ, pos, ◌≤ℤ◌, List, length, get_or, ◌⊎◌, inl, inr, ap, sym, ◌∙◌, subst, arith}
use Rattle.std.specs.Prelude.{All, min}
use Rattle.std.proofs.lemmas.Int.{ints}
use Rattle.std.proofs.lemmas.Bool.{cases_eq}
use Rattle.std.proofs.lemmas.List.Elements.{All-get_or, All-from_get_or}
use Rattle.crew_terms.specs.Instance.{task_of}
use Rattle.crew_terms.specs.Limits.{Limits, IsPermittedVisit, tasks_in}
use Rattle.crew_terms.specs.Leaf.{HoldsPotential}
use Rattle.crew_terms.specs.declared.TheConstants.{LAST_MINUTE}
use Rattle.potentials.specs.Rules.{AreVisits, HoldBelow, ready_at}
use Rattle.minute_rules.specs.Ahead.{AreMostFrom}
use Rattle.minute_rules.specs.declared.ahead.TheConstants.{MINUTES}
use Rattle.minute_rules.specs.Rules.{CoversNext, CoversRewards, most_after, reward_at}

module _ (n : Limits) (k : ℕ) (phi : ℕ → ℕ → ℤ) where
  -- the place of a permitted minute
  pub place_of : (j first : ℕ) (here : List ℤ) → AreVisits n k j phi first here → (t : ℕ) → IsPermittedVisit n k j t → (a : ℕ) × (a < length here) × (first + a ≡ t) × (get_or here a (pos 0) ≡ phi j t)
  place_of j first here are t visit =
      let m = are.all t visit in
      let early = m.0 in
      let late = m.1 in
      let l : t - first < length here = omega arith in
      let e : first + (t - first) ≡ t = omega arith in
      (t - first, l, e, are.each (t - first) l ∙ ap (phi j) e)

  -- a rule of the potentials is one of the permitted minutes
  pub from_all : (j first : ℕ) (here : List ℤ) → AreVisits n k j phi first here → (P : ℤ → Type 0) → All P here → (t : ℕ) → IsPermittedVisit n k j t → P (phi j t)
  from_all j first here are P all t visit = let at = place_of j first here are t visit in subst P at.3 (All-get_or P here at.0 (pos 0) at.1 all)

  pub to_all : (j first : ℕ) (here : List ℤ) → AreVisits n k j phi first here → (P : ℤ → Type 0) → ((t : ℕ) → IsPermittedVisit n k j t → P (phi j t)) → All P here
  to_all j first here are P each = All-from_get_or P here (pos 0) (λ a l. subst P (sym (are.each a l)) (each (first + a) (are.inside a l)))

  pub worth_more : (worth : ℤ) (m first : ℕ) (here : List ℤ) → AreVisits n k m phi first here → All (λ v. v ≤ℤ worth) here
      → ((j t : ℕ) → j < m → IsPermittedVisit n k j t → phi j t ≤ℤ worth) → (j t : ℕ) → j < m + 1 → IsPermittedVisit n k j t → phi j t ≤ℤ worth
  worth_more worth m first here are all below j t l visit = by (cases_eq j m)
    where
      by : (j ≡ m) ⊎ (j ≡ m → ⊥) → phi j t ≤ℤ worth
      by (inl e) = subst (λ i. phi i t ≤ℤ worth) (sym e) (from_all m first here are (λ v. v ≤ℤ worth) all t (subst (λ i. IsPermittedVisit n k i t) e visit))
      by (inr ne) = below j t (let d : j ≢ m = ne in omega arith) visit

  module _ (w : ℕ → ℕ → ℤ) where
    pub holds_below_more : (m : ℕ) → HoldBelow n k w phi m → HoldsPotential n k w phi m → HoldBelow n k w phi (m + 1)
    holds_below_more m below here j l = by (cases_eq j m)
      where
        by : (j ≡ m) ⊎ (j ≡ m → ⊥) → HoldsPotential n k w phi j
        by (inl e) = subst (HoldsPotential n k w phi) (sym e) here
        by (inr ne) = below j (let d : j ≢ m = ne in omega arith)

    -- a task that is not known has no permitted minute
    pub all_potentials : (m : ℕ) → HoldBelow n k w phi m → tasks_in n ≤ m → (j : ℕ) → HoldsPotential n k w phi j
    all_potentials m below all j = record {
      alone = λ t visit. (below j (let l = visit.known in omega arith)).alone t visit;
      step = λ t h u visit next step. (below j (let l = visit.known in omega arith)).step t h u visit next step;
    }

    module _ (j first : ℕ) (here prices : List ℤ) (are : AreVisits n k j phi first here) (day : first + length here ≤ LAST_MINUTE + 1)
        (pays : (t : ℕ) → first ≤ t → t < first + length here → w j t ≡ reward_at (task_of n.instance j) prices first (t - first)) where
      pay_at : (a : ℕ) → a < length here → w j (first + a) ≡ reward_at (task_of n.instance j) prices first a
      pay_at a l = pays (first + a) (omega arith) (omega arith) ∙ ap (reward_at (task_of n.instance j) prices first) (let e : first + a - first ≡ a = omega arith in e)

      pub alone_from : CoversRewards (task_of n.instance j) prices first here → (t : ℕ) → IsPermittedVisit n k j t → w j t ≤ℤ phi j t
      alone_from covers t visit =
          let at = place_of j first here are t visit in
          let is = at.3 in
          let paid : w j t ≡ reward_at (task_of n.instance j) prices first at.0 = ap (w j) (sym at.2) ∙ pay_at at.0 at.1 in
          let low = covers at.0 at.1 in
          omega (arith, ints)

      pub to_rewards : ((t : ℕ) → IsPermittedVisit n k j t → w j t ≤ℤ phi j t) → CoversRewards (task_of n.instance j) prices first here
      to_rewards alone a l =
          let low = alone (first + a) (are.inside a l) in
          let paid = pay_at a l in
          let is = are.each a l in
          omega (arith, ints)

      module _ (h opens : ℕ) (next most : List ℤ) (of_next : AreVisits n k h phi opens next) (next_day : opens + length next ≤ LAST_MINUTE + 1) (ahead : AreMostFrom opens next most) where
        abbrev ready : ℕ → ℕ
        ready t = min (ready_at n.instance j t h) (LAST_MINUTE + 1)

        -- a step holds where what is ahead is covered
        pub step_from : CoversNext n.instance j prices first here h most → (t u : ℕ) → IsPermittedVisit n k j t → IsPermittedVisit n k h u → h ≢ j → ready_at n.instance j t h ≤ u
            → (w j t +ℤ phi h u) ≤ℤ phi j t
        step_from covers t u visit next_visit other follow =
            let at = place_of j first here are t visit in
            let to = place_of h opens next of_next u next_visit in
            let here_is = at.3 in
            let next_is = to.3 in
            let to_at = to.2 in
            let to_in = to.1 in
            let paid : w j t ≡ reward_at (task_of n.instance j) prices first at.0 = ap (w j) (sym at.2) ∙ pay_at at.0 at.1 in
            let same : most_after n.instance j h most (first + at.0) ≡ most_after n.instance j h most t = ap (most_after n.instance j h most) at.2 in
            let low = covers other at.0 at.1 in
            let known : ready t < MINUTES = omega arith in
            let bound = (ahead.each (ready t) known).bound to.0 to.1 (omega arith) in
            omega (arith, ints)

        pub next_from : ((t : ℕ) → IsPermittedVisit n k j t → w j t ≤ℤ phi j t)
            → ((t u : ℕ) → IsPermittedVisit n k j t → IsPermittedVisit n k h u → h ≢ j → ready_at n.instance j t h ≤ u → (w j t +ℤ phi h u) ≤ℤ phi j t)
            → CoversNext n.instance j prices first here h most
        next_from alone step other a l = by ((ahead.each (ready (first + a)) (omega arith)).reached)
          where
            paid : w j (first + a) ≡ reward_at (task_of n.instance j) prices first a
            paid = pay_at a l

            by : (most_after n.instance j h most (first + a) ≡ pos 0) ⊎ ((b : ℕ) × (b < length next) × (ready (first + a) ≤ opens + b) × (most_after n.instance j h most (first + a) ≡ get_or next b (pos 0)))
                → (reward_at (task_of n.instance j) prices first a +ℤ most_after n.instance j h most (first + a)) ≤ℤ get_or here a (pos 0)
            by (inl z) =
                let low = alone (first + a) (are.inside a l) in
                let is = are.each a l in
                let pay = paid in
                omega (arith, ints)
            by (inr (b, m, after, e)) =
                let low = step (first + a) (opens + b) (are.inside a l) (of_next.inside b m) other (omega arith) in
                let is = are.each a l in
                let to = of_next.each b m in
                let pay = paid in
                omega (arith, ints)
