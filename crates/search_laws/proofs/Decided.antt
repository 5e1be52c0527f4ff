-- routes of a decided node
use Rattle.std.proofs.Common.{◌≡◌, ◌≢◌, ◌≤◌, ◌<◌, ◌+◌, ℕ, suc, Bool, true, false, cond, List, [], ◌∷◌, refl, ap, sym, subst, arith, ◌∙◌, eqb, ◌⊎◌, inl, inr}
use Rattle.std.proofs.lemmas.Bool.{cases_eq, eq-eqb, ne_eqb}
use Rattle.std.proofs.lemmas.List.Sums.{sum_by-cons}
use Rattle.crew_terms.specs.Rules.{IsInstance}
use Rattle.crew_terms.specs.Limits.{Limits, IsRoute, GoesOn, IsPermittedVisit, IsPermittedStep, teams_in, pair_of}
use Rattle.crew_terms.specs.declared.Pair.{Pair}
use Rattle.crew_terms.specs.declared.Pair.TheVariants.{Free, Forbidden, Required}
use Rattle.crew_terms.specs.declared.Visit.{Visit}
use Rattle.crew_terms.specs.Decided.{IsDecided, MayBegin}
use Rattle.share_terms.specs.Shares.{visits_to}
use Rattle.search_terms.specs.Closing.{minute_of, IsStuck, NoMinute, NoTime}
use Rattle.search_laws.proofs.Worths.{positive}

visits-cons : (v : Visit) (vs : List Visit) (j : ℕ) → visits_to j (v ∷ vs) ≡ cond (eqb v.task j) 1 0 + visits_to j vs
visits-cons v vs j = sum_by-cons (λ (w : Visit). cond (eqb w.task j) 1 0) v vs

visits-same : (v : Visit) (vs : List Visit) (j : ℕ) → v.task ≡ j → visits_to j (v ∷ vs) ≡ suc (visits_to j vs)
visits-same v vs j e = let a = visits-cons v vs j in let b : cond {A = ℕ} (eqb v.task j) 1 0 ≡ 1 = ap (λ (t : Bool). cond {A = ℕ} t 1 0) (eq-eqb v.task j e) in omega arith

pub visits-other : (v : Visit) (vs : List Visit) (j : ℕ) → v.task ≢ j → visits_to j (v ∷ vs) ≡ visits_to j vs
visits-other v vs j ne = let a = visits-cons v vs j in let b : cond {A = ℕ} (eqb v.task j) 1 0 ≡ 0 = ap (λ (t : Bool). cond {A = ℕ} t 1 0) (ne_eqb v.task j ne) in omega arith

module _ (n : Limits) (is : IsInstance n.instance) (decided : IsDecided n) (k : ℕ) (below : k < teams_in n) where
  -- each visit is of a required pair, at the one minute
  pub of_required : (j t : ℕ) → IsPermittedVisit n k j t → (pair_of n k j ≡ Required) × (t ≡ minute_of n j)
  of_required j t v = (by (pair_of n k j) refl, let a = decided.windows j v.known in let b = v.early in let c = v.late in omega arith)
    where
      by : (x : Pair) → pair_of n k j ≡ x → pair_of n k j ≡ Required
      by Free e = absurd (decided.pairs k j (record { team = below; task = v.known; free = e }) (t, v))
      by Forbidden e = absurd (v.allowed e)
      by Required e = e

  pub rises : (v w : Visit) → IsPermittedVisit n k v.task v.start → IsPermittedStep n v.task v.start w.task w.start → v.start < w.start
  rises v w a s = let p = positive n.instance is v.task a.known in let f = s.follow in omega arith

  -- no visit after minute t is of a task whose minute has come
  none_later : (v : Visit) (vs : List Visit) (j t : ℕ) → IsPermittedVisit n k v.task v.start → GoesOn n k v vs → minute_of n j ≤ t → t ≤ v.start → visits_to j vs ≡ 0
  none_later v [] j t a on x y = refl
  none_later v (w ∷ ws) j t a on x y =
      let r = rises v w a on.0 in
      let m = of_required w.task w.start on.1 in
      let ne : w.task ≢ j = λ e. (let f = ap (minute_of n) e in let g = m.1 in absurd (omega arith)) in
      visits-other w ws j ne ∙ none_later w ws j t on.1 on.2 x (omega arith)

  once_on : (v : Visit) (vs : List Visit) (j : ℕ) → IsPermittedVisit n k v.task v.start → GoesOn n k v vs → visits_to j (v ∷ vs) ≤ 1
  once_on v [] j a on = let b = visits-cons v [] j in let c = test_le (eqb v.task j) in omega arith
    where
      test_le : (b : Bool) → cond b 1 0 ≤ 1
      test_le true = omega arith
      test_le false = omega arith
  once_on v (w ∷ ws) j a on = by (cases_eq v.task j) (once_on w ws j on.1 on.2)
    where
      by : (v.task ≡ j) ⊎ (v.task ≡ j → ⊥) → visits_to j (w ∷ ws) ≤ 1 → visits_to j (v ∷ (w ∷ ws)) ≤ 1
      by (inl e) rest =
          let b = visits-same v (w ∷ ws) j e in
          let m = of_required v.task v.start a in
          let f = ap (minute_of n) e in
          let c = none_later v (w ∷ ws) j v.start a on (omega arith) (omega arith) in
          omega arith
      by (inr ne) rest = let b = visits-other v (w ∷ ws) j ne in omega arith

  -- a route comes to a task at most once
  pub once : (vs : List Visit) (j : ℕ) → IsRoute n k vs → visits_to j vs ≤ 1
  once [] j h = omega arith
  once (v ∷ vs) j h = once_on v vs j h.0 h.1

  none_on : (v : Visit) (vs : List Visit) (j : ℕ) → pair_of n k j ≢ Required → GoesOn n k v vs → visits_to j vs ≡ 0
  none_on v [] j ne on = refl
  none_on v (w ∷ ws) j ne on =
      let m = of_required w.task w.start on.1 in
      visits-other w ws j (λ e. ne (subst (λ i. pair_of n k i ≡ Required) e m.0)) ∙ none_on w ws j ne on.2

  -- and to none that isn't required of the team
  pub none : (vs : List Visit) (j : ℕ) → pair_of n k j ≢ Required → IsRoute n k vs → visits_to j vs ≡ 0
  none [] j ne h = refl
  none (v ∷ vs) j ne h =
      let m = of_required v.task v.start h.0 in
      visits-other v vs j (λ e. ne (subst (λ i. pair_of n k i ≡ Required) e m.0)) ∙ none_on v vs j ne h.1

  never_on : (v : Visit) (vs : List Visit) (j : ℕ) → (MayBegin n k j → ⊥) → GoesOn n k v vs → visits_to j vs ≡ 0
  never_on v [] j bar on = refl
  never_on v (w ∷ ws) j bar on = visits-other w ws j (λ e. bar (w.start, subst (λ i. IsPermittedVisit n k i w.start) e on.1)) ∙ never_on w ws j bar on.2

  never : (vs : List Visit) (j : ℕ) → (MayBegin n k j → ⊥) → IsRoute n k vs → visits_to j vs ≡ 0
  never [] j bar h = refl
  never (v ∷ vs) j bar h = visits-other v vs j (λ e. bar (v.start, subst (λ i. IsPermittedVisit n k i v.start) e h.0)) ∙ never_on v vs j bar h.1

  -- a route does not come to both of two neighbours of which the later one can't follow
  module _ (j h : ℕ) (other : j ≢ h) (order : minute_of n j ≤ minute_of n h)
      (neighbours : (g : ℕ) → pair_of n k g ≡ Required → (minute_of n g ≤ minute_of n j) ⊎ (minute_of n h ≤ minute_of n g))
      (late : IsPermittedStep n j (minute_of n j) h (minute_of n h) → ⊥) where
    -- after task j at its minute
    after : (v : Visit) (vs : List Visit) → v.task ≡ j → IsPermittedVisit n k v.task v.start → GoesOn n k v vs → visits_to h vs ≡ 0
    after v [] e a on = refl
    after v (w ∷ ws) e a on = visits-other w ws h not_h ∙ none_later w ws h w.start on.1 on.2 reached (omega arith)
      where
        here : v.start ≡ minute_of n j
        here = let m = of_required v.task v.start a in m.1 ∙ ap (minute_of n) e

        not_h : w.task ≢ h
        not_h f =
            let m = of_required w.task w.start on.1 in
            let at : w.start ≡ minute_of n h = m.1 ∙ ap (minute_of n) f in
            let s1 = subst (λ x. IsPermittedStep n x v.start w.task w.start) e on.0 in
            let s2 = subst (λ x. IsPermittedStep n j x w.task w.start) here s1 in
            let s3 = subst (λ x. IsPermittedStep n j (minute_of n j) x w.start) f s2 in
            late (subst (λ x. IsPermittedStep n j (minute_of n j) h x) at s3)

        reached : minute_of n h ≤ w.start
        reached =
            let r = rises v w a on.0 in
            let m = of_required w.task w.start on.1 in
            by (neighbours w.task m.0) m.1 r
          where
            by : (minute_of n w.task ≤ minute_of n j) ⊎ (minute_of n h ≤ minute_of n w.task) → w.start ≡ minute_of n w.task → v.start < w.start → minute_of n h ≤ w.start
            by (inl le) m r = let x = here in absurd (omega arith)
            by (inr le) m r = omega arith

    abbrev Meets : List Visit → Type 0
    Meets vs = (1 ≤ visits_to j vs) × (1 ≤ visits_to h vs)

    meets_on : (u : Visit) (us : List Visit) → IsPermittedVisit n k u.task u.start → GoesOn n k u us → (Meets us → ⊥) → Meets (u ∷ us) → ⊥
    meets_on u us a on further both = at (cases_eq u.task j) (cases_eq u.task h)
      where
        at : (u.task ≡ j) ⊎ (u.task ≡ j → ⊥) → (u.task ≡ h) ⊎ (u.task ≡ h → ⊥) → ⊥
        at (inl e) (inl f) = other (sym e ∙ f)
        at (inl e) (inr ne) = let b = after u us e a on in let c = visits-other u us h ne in absurd (omega arith)
        at (inr ne) (inl f) =
            let m = of_required u.task u.start a in
            let g = ap (minute_of n) f in
            let b = none_later u us j u.start a on (omega arith) (omega arith) in
            let c = visits-other u us j ne in
            absurd (omega arith)
        at (inr ne) (inr mf) = let b = visits-other u us j ne in let c = visits-other u us h mf in further (omega arith, omega arith)

    down : (u : Visit) (us : List Visit) → IsPermittedVisit n k u.task u.start → GoesOn n k u us → Meets (u ∷ us) → ⊥
    down u [] a on both = meets_on u [] a on (λ m. let x = m.0 in absurd (omega arith)) both
    down u (w ∷ ws) a on both = meets_on u (w ∷ ws) a on (down w ws on.1 on.2) both

    pub meets_one : (vs : List Visit) → IsRoute n k vs → Meets vs → ⊥
    meets_one [] r m = let x = m.0 in absurd (omega arith)
    meets_one (v ∷ vs) r m = down v vs r.0 r.1 m

  -- a route of a stuck team leaves out one of its required tasks
  pub leaves_out : IsStuck n k → (vs : List Visit) → IsRoute n k vs → (j : ℕ) × (pair_of n k j ≡ Required) × (visits_to j vs ≡ 0)
  leaves_out (NoMinute j required bar) vs r = (j, required, never vs j bar r)
  leaves_out (NoTime j h first second other order neighbours late) vs r = by (cases_eq (visits_to j vs) 0) (cases_eq (visits_to h vs) 0)
    where
      by : (visits_to j vs ≡ 0) ⊎ (visits_to j vs ≡ 0 → ⊥) → (visits_to h vs ≡ 0) ⊎ (visits_to h vs ≡ 0 → ⊥) → (i : ℕ) × (pair_of n k i ≡ Required) × (visits_to i vs ≡ 0)
      by (inl e) x = (j, first, e)
      by (inr ne) (inl e) = (h, second, e)
      by (inr ne) (inr mf) = absurd (meets_one j h other order neighbours (λ s. late s.follow) vs r (omega arith, omega arith))
