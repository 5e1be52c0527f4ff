-- minutes of a pair
use Rattle.std.proofs.Common.{◌≡◌, ℕ, true, Option, None, Some, MatchOption, refl, arith}
use Rattle.std.specs.Prelude.{is_some}
use Rattle.crew_terms.specs.Limits.{Limits}
use Rattle.node_limits.specs.Minutes.{AreMinutes, HasNoMinute}
use Rattle.crew_terms.specs.Decided.{MayBegin}

module _ (n : Limits) (k j : ℕ) where
  -- some minute is told exactly where there is one
  pub told : (o : Option (ℕ × ℕ)) → MatchOption o (HasNoMinute n k j) (λ m. AreMinutes n k j m.0 m.1) → is_some o ≡ true → MayBegin n k j
  told None none e = absurd (cc)
  told (Some m) are e = (m.0, (are.each m.0).1 (omega arith, are.order))

  pub has : (o : Option (ℕ × ℕ)) → MatchOption o (HasNoMinute n k j) (λ m. AreMinutes n k j m.0 m.1) → MayBegin n k j → is_some o ≡ true
  has None none may = absurd (none may.0 may.1)
  has (Some m) are may = refl
