-- a route, visit by visit
use Rattle.std.proofs.Common.{◌≡◌, ◌≤◌, ◌++◌, ℕ, ℤ, pos, List, [], ◌∷◌, length, sym, subst, refl, arith, append_assoc, length-append}
use Rattle.std.specs.Prelude.{◌+ℤ◌, ◌≤ℤ◌, ◌<ℤ◌}
use Rattle.std.proofs.lemmas.Int.{ints}
use Rattle.std.proofs.lemmas.List.{append-nil}
use Rattle.crew_terms.specs.Rules.{IsInstance}
use Rattle.crew_terms.specs.Limits.{Limits, IsPermittedVisit, IsRoute, GoesOn}
use Rattle.crew_terms.specs.Leaf.{rewards}
use Rattle.crew_terms.specs.declared.Visit.{Visit}
use Rattle.crew_laws.specs.Visits.{visit}
use Rattle.label_pricing.specs.Best.{IsAfter, IsLabel}
use Rattle.label_pricing.specs.declared.labels.Label.{Label}
use Rattle.label_pricing.proofs.Best.{best_from_after, best_is_one}
use Rattle.label_pricing.proofs.Onward.{task_is}

-- the visits are none, or begin with the label's
abbrev pub BeginsWith : Label → List Visit → Type 0
BeginsWith l [] = Unit {0}
BeginsWith l (v ∷ vs) = (pos 0 <ℤ l.value) × (v ≡ visit l.task l.start)

-- the first visits of a route that earns so much, and the label that comes next
pub record IsBegun (n : Limits) (k : ℕ) (w : ℕ → ℕ → ℤ) (value : ℤ) (route : List Visit) (next : Label) : Type 0 where
  pub label : IsLabel n k w next
  pub sum : (rewards w route +ℤ next.value) ≡ value
  pub joins : (vs : List Visit) → IsRoute n k vs → BeginsWith next vs → IsRoute n k (route ++ vs)
  pub few : pos 0 <ℤ next.value → length route ≤ next.start

module _ (n : Limits) (k : ℕ) (w : ℕ → ℕ → ℤ) where
  rewards_more : (route : List Visit) (v : Visit) → rewards w (route ++ v ∷ []) ≡ (rewards w route +ℤ w v.task v.start)
  rewards_more [] v = omega (arith, ints)
  rewards_more (z ∷ zs) v = let a = rewards_more zs v in omega (arith, ints)

  pub begun : (from : Label) → IsLabel n k w from → IsBegun n k w from.value [] from
  begun from label = record { label = label; sum = omega (arith, ints); joins = λ vs route begins. route; few = λ h. omega arith }

  pub ended : (value : ℤ) (route : List Visit) (next : Label) → IsBegun n k w value route next → next.value ≤ℤ pos 0 → IsRoute n k route × (rewards w route ≡ value)
  ended value route next is low = (
    subst (IsRoute n k) (append-nil route) (is.joins [] tt tt),
    let a = is.sum in let b = is.label.least in omega (arith, ints),
  )

  module _ (instance : IsInstance n.instance) (value : ℤ) (route : List Visit) (next : Label) (is : IsBegun n k w value route next) (some : pos 0 <ℤ next.value) where
    pub here : IsPermittedVisit n k next.task next.start
    here = let at = (is.label.best some).attained in at.1.0

    goes_on : (l : Label) → IsAfter n k w next.task next.start l → (vs : List Visit) → IsRoute n k vs → BeginsWith l vs → GoesOn n k (visit next.task next.start) vs
    goes_on l after [] on begins = tt
    goes_on l after (z ∷ zs) (there, on) (h, e) =
        subst (λ z. GoesOn n k (visit next.task next.start) (z ∷ zs)) (sym e)
        (after.step h, subst (λ z. IsPermittedVisit n k z.task z.start) e there, subst (λ z. GoesOn n k z zs) e on)

    pub one_visit_more : (l : Label) → IsAfter n k w next.task next.start l → IsBegun n k w value (route ++ visit next.task next.start ∷ []) l
    one_visit_more l after = record {
      label = after.label;
      sum =
          let a = rewards_more route (visit next.task next.start) in
          let b = best_is_one n k w next.task next.start next.value (w next.task next.start +ℤ l.value) (is.label.best some) (best_from_after n k w next.task next.start l here after) in
          let c = is.sum in
          omega (arith, ints);
      joins = λ vs on begins. subst (IsRoute n k) (sym (append_assoc route (visit next.task next.start ∷ []) vs)) (is.joins (visit next.task next.start ∷ vs) (here, goes_on l after vs on begins) (some, refl));
      few = λ h.
          let a = (after.step h).follow in
          let b = (task_is n.instance next.task instance here.known).window.some_minutes in
          let c = is.few some in
          let d = length-append route (visit next.task next.start ∷ []) in
          omega arith;
    }
