-- the order of starts of tasks
use Rattle.std.proofs.Common.{◌≡◌, ◌⊎◌, inl, inr, ℕ, sym}
use Rattle.std.proofs.lemmas.Bool.{cases_order}
use Rattle.crew_terms.specs.Verdict.{IsBefore}

-- of two starts of tasks one comes first, or they are one
pub starts : (t j u h : ℕ) → IsBefore t j u h ⊎ (IsBefore u h t j ⊎ ((t ≡ u) × (j ≡ h)))
starts t j u h = elim (cases_order t u) [
  | inr (inl l) ↦ inl (inl l)
  | inr (inr l) ↦ inr (inl (inl l))
  | inl e ↦ elim (cases_order j h) [
    | inr (inl l) ↦ inl (inr (e, l))
    | inr (inr l) ↦ inr (inl (inr (sym e, l)))
    | inl f ↦ inr (inr (e, f))
  ]
]
