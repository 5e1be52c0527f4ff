-- the required tasks of a team in order of start are the only route that holds them all
use Rattle.std.proofs.Common.{◌≡◌, ◌≤◌, ◌<◌, ℕ, suc, List, [], ◌∷◌, refl, ap, sym, subst, arith, ◌∙◌, ◌⊎◌, inl, inr}
use Rattle.std.specs.Prelude.{Contains, AllPairs}
use Rattle.std.proofs.lemmas.Bool.{cases_eq}
use Rattle.crew_terms.specs.Rules.{IsInstance}
use Rattle.crew_terms.specs.Limits.{Limits, IsRoute, GoesOn, IsPermittedVisit, teams_in, pair_of}
use Rattle.crew_terms.specs.declared.Pair.TheVariants.{Required}
use Rattle.crew_terms.specs.declared.Visit.{Visit}
use Rattle.crew_laws.specs.Visits.{visit}
use Rattle.crew_laws.specs.Listed.{of_either}
use Rattle.crew_terms.specs.Decided.{IsDecided}
use Rattle.share_terms.specs.Shares.{visits_to}
use Rattle.search_terms.specs.Closing.{AreRequiredVisits}
use Rattle.search_laws.proofs.Decided.{of_required, rises, visits-other}

-- each visit begins after those before it
abbrev Up : List Visit → Type 0
Up [] = Unit {0}
Up (v ∷ vs) = ((w : Visit) → Contains vs w → v.start < w.start) × Up vs

head_of : (v : Visit) (vs : List Visit) → Contains (v ∷ vs) v
head_of v vs = (0, omega arith, refl)

tail_of : (v w : Visit) (vs : List Visit) → Contains vs w → Contains (v ∷ vs) w
tail_of v w vs (i, l, e) = (suc i, omega arith, e)

none_in : (v : Visit) → Contains [] v → ⊥
none_in v (i, l, e) = omega arith

one_up : (xs ys : List Visit) → Up xs → Up ys → ((v : Visit) → Contains xs v → Contains ys v) → ((v : Visit) → Contains ys v → Contains xs v) → xs ≡ ys
one_up [] [] a b f g = refl
one_up [] (y ∷ ys) a b f g = absurd (none_in y (g y (head_of y ys)))
one_up (x ∷ xs) [] a b f g = absurd (none_in x (f x (head_of x xs)))
one_up (x ∷ xs) (y ∷ ys) a b f g =
    let heads = same (of_either y x ys (f x (head_of x xs))) (of_either x y xs (g y (head_of y ys))) in
    let tails = one_up xs ys a.1 b.1
    (λ v c. there v (a.0 v c) heads (of_either y v ys (f v (tail_of x v xs c))))
    (λ v c. back v (b.0 v c) heads (of_either x v xs (g v (tail_of y v ys c)))) in
    cc
  where
    same : (y ≡ x) ⊎ Contains ys x → (x ≡ y) ⊎ Contains xs y → x ≡ y
    same (inl e) t = sym e
    same (inr c) (inl e) = e
    same (inr c) (inr d) = let p = b.0 x c in let q = a.0 y d in absurd (omega arith)

    there : (v : Visit) → x.start < v.start → x ≡ y → (y ≡ v) ⊎ Contains ys v → Contains ys v
    there v lt e (inl h) = let t = ap (λ (w : Visit). w.start) (e ∙ h) in absurd (omega arith)
    there v lt e (inr c) = c

    back : (v : Visit) → y.start < v.start → x ≡ y → (x ≡ v) ⊎ Contains xs v → Contains xs v
    back v lt e (inl h) = let t = ap (λ (w : Visit). w.start) (sym e ∙ h) in absurd (omega arith)
    back v lt e (inr c) = c

up_from_pairs : (vs : List Visit) → AllPairs (λ (v w : Visit). v.start < w.start) vs → Up vs
up_from_pairs [] h = tt
up_from_pairs (v ∷ vs) h = ((λ w (i, l, e). (let less = h 0 (suc i) w (omega arith) (omega arith) in let s = ap (λ (x : Visit). x.start) e in omega arith)), up_from_pairs vs (λ i j d l m. h (suc i) (suc j) d (omega arith) (omega arith)))

module _ (n : Limits) (is : IsInstance n.instance) (decided : IsDecided n) (k : ℕ) (below : k < teams_in n) where
  later : (v : Visit) (vs : List Visit) → IsPermittedVisit n k v.task v.start → GoesOn n k v vs → (w : Visit) → Contains vs w → (v.start < w.start) × IsPermittedVisit n k w.task w.start
  later v [] a on w c = absurd (none_in w c)
  later v (u ∷ us) a on w c = by (of_either u w us c) (later u us on.1 on.2 w)
    where
      by : (u ≡ w) ⊎ Contains us w → (Contains us w → (u.start < w.start) × IsPermittedVisit n k w.task w.start) → (v.start < w.start) × IsPermittedVisit n k w.task w.start
      by (inl e) rest = let r = rises n is decided k below v u a on.0 in (subst (λ (x : Visit). v.start < x.start) e r, subst (λ (x : Visit). IsPermittedVisit n k x.task x.start) e on.1)
      by (inr d) rest = let r = rises n is decided k below v u a on.0 in let x = rest d in (omega (arith, x.0), x.1)

  up_on : (v : Visit) (vs : List Visit) → IsPermittedVisit n k v.task v.start → GoesOn n k v vs → Up (v ∷ vs)
  up_on v [] a on = ((λ w c. absurd (none_in w c)), tt)
  up_on v (u ∷ us) a on = ((λ w c. (later v (u ∷ us) a on w c).0), up_on u us on.1 on.2)

  up_route : (vs : List Visit) → IsRoute n k vs → Up vs
  up_route [] h = tt
  up_route (v ∷ vs) h = up_on v vs h.0 h.1

  permitted : (vs : List Visit) → IsRoute n k vs → (w : Visit) → Contains vs w → IsPermittedVisit n k w.task w.start
  permitted [] h w c = absurd (none_in w c)
  permitted (v ∷ vs) h w c = by (of_either v w vs c)
    where
      by : (v ≡ w) ⊎ Contains vs w → IsPermittedVisit n k w.task w.start
      by (inl e) = subst (λ (x : Visit). IsPermittedVisit n k x.task x.start) e h.0
      by (inr d) = (later v vs h.0 h.1 w d).1

  met : (vs : List Visit) (j : ℕ) → 1 ≤ visits_to j vs → (t : ℕ) × Contains vs (visit j t)
  met [] j h = absurd (omega arith)
  met (v ∷ vs) j h = by (cases_eq v.task j) (met vs j)
    where
      by : (v.task ≡ j) ⊎ (v.task ≡ j → ⊥) → (1 ≤ visits_to j vs → (t : ℕ) × Contains vs (visit j t)) → (t : ℕ) × Contains (v ∷ vs) (visit j t)
      by (inl e) rest = (v.start, (0, omega arith, ap (λ x. visit x v.start) e))
      by (inr ne) rest = let o = visits-other v vs j ne in let r = rest (omega arith) in (r.0, tail_of v (visit j r.0) vs r.1)

  pub only_route : (visits route : List Visit) → AreRequiredVisits n k visits → IsRoute n k route → ((j : ℕ) → pair_of n k j ≡ Required → 1 ≤ visits_to j route) → route ≡ visits
  only_route visits route all legal holds = one_up route visits (up_route route legal) (up_from_pairs visits all.rising)
      (λ v c. let m = of_required n is decided k below v.task v.start (permitted route legal v c) in (all.each v.task v.start).1 (m.0, m.1))
      (λ v c.
      let m = (all.each v.task v.start).0 c in
      let r = met route v.task (holds v.task m.0) in
      let x = of_required n is decided k below v.task r.0 (permitted route legal (visit v.task r.0) r.1) in
      subst (λ t. Contains route (visit v.task t)) (x.1 ∙ sym m.1) r.1)
