-- which tasks a test keeps that tells the first from which a team can't come to the next in time
use Rattle.std.proofs.Common.{◌≡◌, ◌≤◌, ◌<◌, ◌+◌, ◌⊎◌, inl, inr, ℕ, zero, suc, true, false, length, sym, ◌∙◌, arith}
use Rattle.std.specs.Prelude.{◌↔◌}
use Rattle.std.proofs.lemmas.Bool.{cases_lt, cases_order, false_from_ne_true}
use Rattle.crew_terms.specs.Instance.{Instance, CanFollow}
use Rattle.crew_terms.specs.Plan.{Plan}
use Rattle.crew_terms.specs.Verdict.{IsBefore, HasNoClash, IsFirstClash}
use Rattle.crew_terms.specs.Nodes.{task_known}
use Rattle.day_terms.specs.Faulty.{is_first_clash}
use Rattle.crew_laws.specs.Starts.{starts}
use Rattle.flight_changes.proofs.Clashes.{begun, Clashes, Earlier, clash_from, is_first, ready}

module _ (i : Instance) (p : Plan) (k : ℕ) (passes : (j : ℕ) → (is_first_clash i p k j ≡ true) ↔ ((h : ℕ) × IsFirstClash i p k j h)) where
  -- none of a team of which each task can follow
  pub calm_fails : HasNoClash i p k → (j : ℕ) → is_first_clash i p k j ≡ false
  calm_fails calm j = false_from_ne_true (is_first_clash i p k j) (λ e. at ((passes j).0 e))
    where
      at : (h : ℕ) × IsFirstClash i p k j h → ⊥
      at (h, first) = first.broken (calm j first.start h first.next_start first.next)

  -- one alone: there is one first
  pub others_fail : (j h : ℕ) → IsFirstClash i p k j h → (g : ℕ) → (g ≡ j → ⊥) → is_first_clash i p k g ≡ false
  others_fail j h first g other = false_from_ne_true (is_first_clash i p k g) (λ e. at ((passes g).0 e))
    where
      at : (f : ℕ) × IsFirstClash i p k g f → ⊥
      at (f, second) = elim (starts first.start j second.start g) [
        | inl before ↦ first.broken (second.earlier j first.start h first.next_start first.next before)
        | inr (inl before) ↦ second.broken (first.earlier g second.start f second.next_start second.next before)
        | inr (inr same) ↦ other (sym same.1)
      ]

  module _ (fails : (j : ℕ) → j < length p → is_first_clash i p k j ≡ false) where
    -- one that clashes has an earlier one before it
    one_before : (j : ℕ) → Clashes i p k j → ¬ (¬ ((g : ℕ) × (g < length p) × Earlier i p k j g))
    one_before j clash none =
        let a : is_first_clash i p k j ≡ true = (passes j).1 (clash.0, is_first i p k j clash none) in
        let b : is_first_clash i p k j ≡ false = fails j (task_known p k j (begun p j) clash.2.0.first) in
        let c : true ≡ false = sym a ∙ b in cc

    -- so none before the m-th minute, or in it before the l-th task
    none_within : (m : ℕ) → ((j : ℕ) → begun p j < m → Clashes i p k j → ⊥) → (l j : ℕ) → IsBefore (begun p j) j m l → Clashes i p k j → ⊥
    none_within m none zero j (inl before) clash = none j before clash
    none_within m none zero j (inr before) clash = absurd (let l = before.1 in omega arith)
    none_within m none (suc l) j before clash =
        one_before j clash (λ x. none_within m none l x.0 (sooner (begun p x.0) x.0 (begun p j) j x.2.1.1 before) x.2.0)
      where
        sooner : (t g u j : ℕ) → IsBefore t g u j → IsBefore u j m (suc l) → IsBefore t g m l
        sooner t g u j (inl a) (inl b) = inl (omega arith)
        sooner t g u j (inl a) (inr b) = inl (let c = b.0 in omega arith)
        sooner t g u j (inr a) (inl b) = inl (let c = a.0 in omega arith)
        sooner t g u j (inr a) (inr b) = inr (a.0 ∙ b.0, (let c = a.1 in let d = b.1 in omega arith))

    none_until : (m j : ℕ) → begun p j < m → Clashes i p k j → ⊥
    none_until zero j before clash = absurd (omega arith)
    none_until (suc m) j before clash = none_within m (none_until m) (length p) j (at (cases_order (begun p j) m)) clash
      where
        at : (begun p j ≡ m) ⊎ ((begun p j < m) ⊎ (m < begun p j)) → IsBefore (begun p j) j m (length p)
        at (inl e) = inr (e, task_known p k j (begun p j) clash.2.0.first)
        at (inr (inl l)) = inl l
        at (inr (inr l)) = absurd (omega arith)

    -- a team of which no task is kept has no clash
    pub calm_from : HasNoClash i p k
    calm_from j t h u next = at (cases_lt u (ready i j t h))
      where
        at : (u < ready i j t h) ⊎ (ready i j t h ≤ u) → CanFollow i j t h u
        at (inl l) = absurd (none_until (begun p j + 1) j (omega arith) (clash_from i p k j t h u next (λ can. absurd (omega arith))))
        at (inr m) = m
