-- the days of the teams: one more, and some looked at anew
use Rattle.std.proofs.Common.{◌≡◌, ◌≢◌, ◌≤◌, ◌<◌, ◌+◌, ◌++◌, ◌∷◌, [], ◌⊎◌, inl, inr, ℕ, List, length, get_or, set, Some, arith, refl, sym, subst, ◌∙◌, get_or-set_same, get_or-set_other}
use Rattle.std.specs.Prelude.{Contains}
use Rattle.std.specs.Global.{Vec}
use Rattle.std.specs.Vec.{with_items}
use Rattle.std.proofs.lemmas.Grind.{common_steps}
use Rattle.std.proofs.Math.ListN.{length-set, get_or-append}
use Rattle.std.proofs.lemmas.Bool.{cases_lt, cases_order}
use Rattle.std.proofs.lemmas.List.{get_or_push, get_or_default, length-append}
use Rattle.crew_terms.specs.Plan.{Plan, Job}
use Rattle.crew_instance.specs.Turns.{AreTurns}
use Rattle.crew_instance.specs.declared.turns.Turn.{Turn}
use Rattle.arrayvec.specs.ArrayVec.{ArrayVec}
use Rattle.team_days.specs.Adding.{with_job}
use Rattle.plan_builder.specs.Schedules.{AreDays, IsDayAt}

module _ (p : Plan) where
  pub days_more : (days : List (ArrayVec Turn)) (k : ℕ) (day : ArrayVec Turn) → length days ≡ k → AreDays p days → AreTurns p k (length p) day.items → AreDays p (days ++ day ∷ [])
  days_more days k day e are turns h d l = by (cases_lt h k)
    where
      by : (h < k) ⊎ (k ≤ h) → AreTurns p h (length p) (get_or (days ++ day ∷ []) h d).items
      by (inl m) =
          let n : h < length days = omega arith in
          let same = get_or-append days (day ∷ []) d h n in
          subst (λ (v : ArrayVec Turn). AreTurns p h (length p) v.items) (sym same) (are h d n)
      by (inr m) =
          let long = length-append days (day ∷ []) in
          let here : h ≡ k = omega arith in
          let same = get_or_push days day d h (e ∙ sym here) in
          subst (λ (v : ArrayVec Turn). AreTurns p h (length p) v.items) (sym same) (subst (λ g. AreTurns p g (length p) day.items) (sym here) turns)

  -- team h is none of the teams from a place on
  abbrev pub IsNotFrom : List ℕ → ℕ → ℕ → Type 0
  IsNotFrom teams at h = (x : ℕ) → at ≤ x → x < length teams → get_or teams x 0 ≢ h

  pub anew_first : (days : List (ArrayVec Turn)) (teams : List ℕ) → ((h : ℕ) → (Contains teams h → ⊥) → IsDayAt p days h) → (h : ℕ) → IsNotFrom teams 0 h → IsDayAt p days h
  anew_first days teams others h none = others h (λ c. none c.0 (omega arith) c.1 (get_or_default teams c.0 0 h c.1 ∙ c.2))

  pub anew_more : (days : List (ArrayVec Turn)) (teams : List ℕ) (at k : ℕ) (day : ArrayVec Turn) → k ≡ get_or teams at 0 → AreTurns p k (length p) day.items
      → ((h : ℕ) → IsNotFrom teams at h → IsDayAt p days h) → (h : ℕ) → IsNotFrom teams (at + 1) h → IsDayAt p (set days k day) h
  anew_more days teams at k day e turns before h none d l = by (cases_order h k)
    where
      long : length (set days k day) ≡ length days
      long = length-set days k day

      old : h ≢ k → AreTurns p h (length p) (get_or (set days k day) h d).items
      old ne =
          let same = get_or-set_other days k h day d ne in
          let still : IsNotFrom teams at h = λ x m n. elim (cases_lt at x) [ inl o ↦ none x (omega arith) n | inr o ↦ λ f. ne (sym f ∙ (let g : x ≡ at = omega arith in subst (λ y. get_or teams x 0 ≡ get_or teams y 0) g refl) ∙ sym e) ] in
          subst (λ (v : ArrayVec Turn). AreTurns p h (length p) v.items) (sym same) (before h still d (let m = long in omega arith))

      by : (h ≡ k) ⊎ ((h < k) ⊎ (k < h)) → AreTurns p h (length p) (get_or (set days k day) h d).items
      by (inl same) =
          let at_k : get_or (set days k day) k d ≡ day = get_or-set_same days k day d (let m = long in omega arith) in
          subst (λ g. AreTurns p g (length p) (get_or (set days k day) g d).items) (sym same) (subst (λ (v : ArrayVec Turn). AreTurns p k (length p) v.items) (sym at_k) turns)
      by (inr (inl m)) = old (λ same. omega arith)
      by (inr (inr m)) = old (λ same. omega arith)

-- where a job is added, who is not one of its teams does what it did
pub days_stay : (p q : Plan) (j : ℕ) (job : Job) (days same : List (ArrayVec Turn)) → q ≡ with_job p j job → same ≡ days → AreDays p days
    → ((k n : ℕ) (turns : List Turn) → (Contains job.teams k → ⊥) → AreTurns p k n turns → AreTurns (with_job p j job) k n turns)
    → (k : ℕ) → (Contains job.teams k → ⊥) → IsDayAt q same k
days_stay p q j job days same is e are law k other d l =
    let m : k < length days = subst (λ (ds : List (ArrayVec Turn)). k < length ds) e l in
    let long : length (with_job p j job) ≡ length p = length-set p j (Some job) in
    let old = law k (length p) (get_or days k d).items other (are k d m) in
    let new : AreTurns (with_job p j job) k (length (with_job p j job)) (get_or days k d).items = subst (λ n. AreTurns (with_job p j job) k n (get_or days k d).items) (sym long) old in
    let of_q : AreTurns q k (length q) (get_or days k d).items = subst (λ x. AreTurns x k (length x) (get_or days k d).items) (sym is) new in
    subst (λ (ds : List (ArrayVec Turn)). AreTurns q k (length q) (get_or ds k d).items) (sym e) of_q

-- what a vector holds where as many items were written as it had
pub written : (days : Vec (ArrayVec Turn)) (new : List (ArrayVec Turn)) → length new ≡ length days.items → (with_items days new).items ≡ new
written days new e = grind (arith, common_steps)
