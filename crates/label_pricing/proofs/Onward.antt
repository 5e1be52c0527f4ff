-- what can be earned after a visit, place by place
use Rattle.std.proofs.Common.{◌≡◌, ◌≢◌, ◌≤◌, ◌<◌, ◌+◌, ◌*◌, ◌-◌, ℕ, zero, suc, ℤ, pos, negsuc, refl, List, [], ◌∷◌, length, ◌⊎◌, inl, inr, ap, arith}
use Rattle.std.specs.Prelude.{◌≤ℤ◌, ◌<ℤ◌}
use Rattle.std.proofs.lemmas.Int.{ints}
use Rattle.std.proofs.lemmas.Bool.{cases_eq}
use Rattle.std.proofs.lemmas.List.Elements.{All-get_or}
use Rattle.crew_terms.specs.Instance.{Instance, task_of, no_task, minutes_between}
use Rattle.crew_terms.specs.Rules.{IsInstance, IsTask}
use Rattle.crew_terms.specs.Limits.{Limits, IsPermittedStep, IsRoute, tasks_in}
use Rattle.crew_terms.specs.Leaf.{rewards}
use Rattle.crew_terms.specs.declared.TheConstants.{MOST_PRICE, LAST_MINUTE}
use Rattle.crew_terms.specs.declared.Visit.{Visit}
use Rattle.crew_laws.specs.Visits.{visit}
use Rattle.potentials.specs.Sums.{AreBoundedBy}
use Rattle.label_pricing.specs.Best.{IsCapped, IsLabel, IsAfter, IsFirst}
use Rattle.label_pricing.specs.Cells.{IsOther, place_of}
use Rattle.label_pricing.specs.Turns.{IsEnd}
use Rattle.label_pricing.specs.declared.labels.Label.{Label}
use Rattle.label_pricing.proofs.Cells.{capped_more}

-- the most that can be earned after task j at minute t, from a visit at one of the first m places on
pub record IsAfterBelow (n : Limits) (k : ℕ) (w : ℕ → ℕ → ℤ) (j t m : ℕ) (l : Label) : Type 0 where
  pub label : IsLabel n k w l
  pub step : pos 0 <ℤ l.value → IsPermittedStep n j t l.task l.start
  pub most : (h u : ℕ) → place_of n h < m → IsPermittedStep n j t h u → IsCapped n k w h u l.value

-- the most that can be earned from a visit at one of the first m places on
pub record IsFirstBelow (n : Limits) (k : ℕ) (w : ℕ → ℕ → ℤ) (m : ℕ) (l : Label) : Type 0 where
  pub label : IsLabel n k w l
  pub most : (h u : ℕ) → place_of n h < m → IsCapped n k w h u l.value

-- the minute at which the team is ready at place q
abbrev pub ready_at : Limits → ℕ → ℕ → ℕ → ℕ
ready_at n j t q = t + (task_of n.instance j).minutes + minutes_between n.instance (place_of n j) q

pub task_is : (i : Instance) (j : ℕ) → IsInstance i → j < length i.tasks → IsTask (length i.places) (task_of i j)
task_is i j is l = All-get_or (IsTask (length i.places)) i.tasks j no_task l is.parts.tasks

module _ (n : Limits) (k : ℕ) (w : ℕ → ℕ → ℤ) where
  pub no_label_is : (l : Label) → l.value ≡ pos 0 → IsLabel n k w l
  no_label_is l e = record { least = omega (arith, ints); best = λ h. absurd (omega (arith, ints)) }

  module _ (j t m : ℕ) (best : Label) (is : IsAfterBelow n k w j t m best) where
    -- no place is new
    more_same : ((h u : ℕ) → place_of n h ≡ m → IsPermittedStep n j t h u → IsCapped n k w h u best.value) → IsAfterBelow n k w j t (m + 1) best
    more_same cap = record {
      label = is.label;
      step = is.step;
      most = λ h u l step. by h u step (cases_eq (place_of n h) m) l;
    }
      where
        by : (h u : ℕ) → IsPermittedStep n j t h u → (place_of n h ≡ m) ⊎ (place_of n h ≡ m → ⊥) → place_of n h < m + 1 → IsCapped n k w h u best.value
        by h u step (inl e) l = cap h u e step
        by h u step (inr d) l = is.most h u (let ne : place_of n h ≢ m = d in omega arith) step

    pub too_late : (end : ℕ) → IsEnd n k end → end < ready_at n j t m → IsAfterBelow n k w j t (m + 1) best
    too_late end ends late = more_same (λ h u at step r (here, on). let a = ends h u here in let f = step.follow in let g = ap (minutes_between n.instance (place_of n j)) at in absurd (omega arith))

    module _ (l : Label) (of : IsOther n k w m (ready_at n j t m) j l) where
      capped : (h u : ℕ) → place_of n h ≡ m → IsPermittedStep n j t h u → IsCapped n k w h u l.value
      capped h u at step = of.most h u (let d = step.other in omega arith) (let f = step.follow in let g = ap (minutes_between n.instance (place_of n j)) at in omega arith) at

      pub not_better : l.value ≤ℤ best.value → IsAfterBelow n k w j t (m + 1) best
      not_better le = more_same (λ h u at step. capped_more n k w h u l.value best.value le (capped h u at step))

      pub better : best.value <ℤ l.value → IsAfterBelow n k w j t (m + 1) l
      better lt = record {
        label = of.label.label;
        step = λ h. record {
          other = let d = of.other h in omega arith;
          follow = let a = of.label.late h in let g = ap (minutes_between n.instance (place_of n j)) (of.label.place h) in omega arith;
        };
        most = λ h u b step. by h u step (cases_eq (place_of n h) m) b;
      }
        where
          by : (h u : ℕ) → IsPermittedStep n j t h u → (place_of n h ≡ m) ⊎ (place_of n h ≡ m → ⊥) → place_of n h < m + 1 → IsCapped n k w h u l.value
          by h u step (inl e) b = capped h u e step
          by h u step (inr d) b = capped_more n k w h u best.value l.value (omega (arith, ints)) (is.most h u (let ne : place_of n h ≢ m = d in omega arith) step)

  pub after_all : (j t m : ℕ) (l : Label) → IsInstance n.instance → length n.instance.places ≤ m → IsAfterBelow n k w j t m l → IsAfter n k w j t l
  after_all j t m l instance all is = record {
    label = is.label;
    step = is.step;
    most = λ h u step r (here, on). is.most h u (let a = (task_is n.instance h instance here.known).place in omega arith) step r (here, on);
  }

  pub first_more : (m : ℕ) (best l : Label) → IsFirstBelow n k w m best → IsLabel n k w l → ((h u : ℕ) → place_of n h ≡ m → IsCapped n k w h u l.value)
      → (now : Label) → ((best.value <ℤ l.value) × (now ≡ l)) ⊎ ((l.value ≤ℤ best.value) × (now ≡ best)) → IsFirstBelow n k w (m + 1) now
  first_more m best l is label cap now (inl (lt, e)) = rw e (record {
    label = label;
    most = λ h u b. by h u (cases_eq (place_of n h) m) b;
  })
    where
      by : (h u : ℕ) → (place_of n h ≡ m) ⊎ (place_of n h ≡ m → ⊥) → place_of n h < m + 1 → IsCapped n k w h u l.value
      by h u (inl f) b = cap h u f
      by h u (inr d) b = capped_more n k w h u best.value l.value (omega (arith, ints)) (is.most h u (let ne : place_of n h ≢ m = d in omega arith))
  first_more m best l is label cap now (inr (le, e)) = rw e (record {
    label = is.label;
    most = λ h u b. by h u (cases_eq (place_of n h) m) b;
  })
    where
      by : (h u : ℕ) → (place_of n h ≡ m) ⊎ (place_of n h ≡ m → ⊥) → place_of n h < m + 1 → IsCapped n k w h u best.value
      by h u (inl f) b = capped_more n k w h u l.value best.value le (cap h u f)
      by h u (inr d) b = is.most h u (let ne : place_of n h ≢ m = d in omega arith)

  pub first_all : (m : ℕ) (l : Label) → IsInstance n.instance → length n.instance.places ≤ m → IsFirstBelow n k w m l → IsFirst n k w l
  first_all m l instance all is = record {
    label = is.label;
    most = λ h u r (here, on). is.most h u (let a = (task_is n.instance h instance here.known).place in omega arith) r (here, on);
  }

  module _ (range : AreBoundedBy (2 * MOST_PRICE) w) (instance : IsInstance n.instance) (end : ℕ) (ends : IsEnd n k end) (day : end ≤ LAST_MINUTE + 1) where
    -- each visit of a route earns so much at most, and takes a minute
    pub short : (j t : ℕ) (r : List Visit) → IsRoute n k (visit j t ∷ r) → rewards w (visit j t ∷ r) ≤ℤ pos ((LAST_MINUTE + 1 - t) * (2 * MOST_PRICE))
    short j t [] (here, on) =
        let a = (range j t).most in
        let c = ends j t here in
        omega (arith, ints)
    short j t (z ∷ zs) (here, (step, there, on)) =
        let a = (range j t).most in
        let c = short z.task z.start zs (there, on) in
        let d = step.follow in
        let e = (task_is n.instance j instance here.known).window.some_minutes in
        let f = ends z.task z.start there in
        omega (arith, ints)

    -- what is earned after a visit, with the visit's own reward
    pub small_after : (j t : ℕ) (l : Label) → j < tasks_in n → t < end → IsAfter n k w j t l → l.value ≤ℤ pos ((2880 - t) * (2 * MOST_PRICE))
    small_after j t l known early is = by (above l.value is.label.least)
      where
        above : (v : ℤ) → pos 0 ≤ℤ v → (v ≡ pos 0) ⊎ (pos 0 <ℤ v)
        above (pos zero) h = inl refl
        above (pos (suc m)) h = inr (omega (arith, ints))
        above (negsuc m) h = absurd (omega (arith, ints))

        by : (l.value ≡ pos 0) ⊎ (pos 0 <ℤ l.value) → l.value ≤ℤ pos ((2880 - t) * (2 * MOST_PRICE))
        by (inl e) = omega (arith, ints)
        by (inr h) =
            let next = (is.label.best h).attained in
            let e = next.2 in
            let a = short l.task l.start next.0 next.1 in
            let b = (is.step h).follow in
            let c = (task_is n.instance j instance known).window.some_minutes in
            omega (arith, ints)
