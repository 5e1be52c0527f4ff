-- tasks in order, and one more behind those that begin no later
use Rattle.std.proofs.Common.{◌≡◌, ◌≤◌, ◌<◌, ◌+◌, ◌-◌, ◌⊎◌, inl, inr, ℕ, List, length, get_or, arith, sym, subst}
use Rattle.std.specs.List.{insert, All}
use Rattle.std.specs.List.Sorted.{IsNonDecreasingBy}
use Rattle.std.proofs.lemmas.Bool.{cases_lt, cases_order}
use Rattle.std.proofs.lemmas.List.Edits.{get_or-insert_at, get_or-insert_below, get_or-insert_above, length-insert}
use Rattle.crew_terms.specs.Verdict.{IsBefore}
use Rattle.crew_instance.specs.declared.turns.Turn.{Turn}
use Rattle.crew_instance.specs.Turns.{IsInOrder}

abbrev pub Precedes : Turn → Turn → Type 0
Precedes v w = IsBefore v.start v.task w.start w.task

no_later : (v w : Turn) → Precedes v w → v.start ≤ w.start
no_later v w (inl l) = omega arith
no_later v w (inr e) = let a = e.0 in omega arith

pub starts_rise : (vs : List Turn) → IsInOrder vs → IsNonDecreasingBy (λ (v : Turn). v.start) vs
starts_rise vs order i j d l m = at (cases_lt i j)
  where
    at : (i < j) ⊎ (j ≤ i) → (get_or vs i d).start ≤ (get_or vs j d).start
    at (inl b) = no_later (get_or vs i d) (get_or vs j d) (order i j d b m)
    at (inr b) = let e : i ≡ j = omega arith in rw e (omega arith)

module _ (vs : List Turn) (at : ℕ) (v : Turn) (order : IsInOrder vs) (last : All (λ (w : Turn). w.task < v.task) vs) (within : at ≤ length vs)
    (below : (k : ℕ) (d : Turn) → k < at → (get_or vs k d).start ≤ v.start)
    (above : (k : ℕ) (d : Turn) → at ≤ k → k < length vs → v.start < (get_or vs k d).start) where
  before_it : (k : ℕ) (d : Turn) → k < at → Precedes (get_or vs k d) v
  before_it k d l = elim (cases_lt (get_or vs k d).start v.start) [ inl m ↦ inl m | inr m ↦ inr (let b = below k d l in omega arith, last k d (omega arith)) ]

  -- the places in front of it, its own, and those behind it
  read : (k : ℕ) (d : Turn) (P : Turn → Type 0) → (k < at → P (get_or vs k d)) → (k ≡ at → P v) → ((m : ℕ) → k ≡ m + 1 → at ≤ m → P (get_or vs m d)) → P (get_or (insert vs at v) k d)
  read k d P front own back = pick (cases_order k at)
    where
      pick : (k ≡ at) ⊎ ((k < at) ⊎ (at < k)) → P (get_or (insert vs at v) k d)
      pick (inl e) = rw (e, get_or-insert_at vs at v d within) (own e)
      pick (inr (inl l)) = let same = get_or-insert_below vs at v d k l within in rw same (front l)
      pick (inr (inr g)) =
          let e : k ≡ (k - 1) + 1 = omega arith in
          let m : at ≤ k - 1 = omega arith in
          let same = get_or-insert_above vs at v d (k - 1) m within in
          subst (λ n. P (get_or (insert vs at v) n d)) (sym e) (rw same (back (k - 1) e m))

  pub insert_in_order : IsInOrder (insert vs at v)
  insert_in_order a b d l m =
      let n : length (insert vs at v) ≡ length vs + 1 = length-insert vs at v within in
      read a d (λ x. Precedes x (get_or (insert vs at v) b d))
      (λ p. read b d (Precedes (get_or vs a d)) (λ q. order a b d l (omega arith)) (λ q. before_it a d p) (λ c e q. order a c d (omega arith) (omega arith)))
      (λ p. read b d (Precedes v) (λ q. absurd (omega arith)) (λ q. absurd (omega arith)) (λ c e q. inl (above c d q (omega arith))))
      (λ c e q. read b d (Precedes (get_or vs c d)) (λ r. absurd (omega arith)) (λ r. absurd (omega arith)) (λ f g r. order c f d (omega arith) (omega arith)))
