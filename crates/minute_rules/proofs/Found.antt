-- what can still be earned, found task by task
use Rattle.std.proofs.Common.{◌≡◌, ◌<◌, ◌+◌, ℕ, ℤ, List, length, ◌⊎◌, inl, inr, ap, sym, subst, ◌∙◌, arith, get_or, set, get_or-set_same, get_or-set_other}
use Rattle.std.specs.Prelude.{Some}
use Rattle.std.proofs.lemmas.Bool.{cases_eq}
use Rattle.std.proofs.lemmas.Option.{get_or_from_slice_get, slice_get-get_or}
use Rattle.crew_terms.specs.Limits.{Limits}
use Rattle.minute_rules.specs.Rules.{AreAheadBelow, IsAheadOf}
use Rattle.minute_rules.specs.declared.ahead.Ahead.{Ahead}

-- and those of task m
pub below_more : (n : Limits) (k : ℕ) (phi : ℕ → ℕ → ℤ) (rows : List Ahead) (m : ℕ) (found : Ahead) → m < length rows
    → AreAheadBelow n k phi rows m → IsAheadOf n k phi m found → AreAheadBelow n k phi (set rows m found) (m + 1)
below_more n k phi rows m found inside before here j row below read = by (cases_eq j m)
  where
    is : get_or (set rows m found) j row ≡ row
    is = get_or_from_slice_get (set rows m found) j row row read

    by : (j ≡ m) ⊎ (j ≡ m → ⊥) → IsAheadOf n k phi j row
    by (inl e) =
        let same : found ≡ row = sym (get_or-set_same rows m found row inside) ∙ ap (λ h. get_or (set rows m found) h row) (sym e) ∙ is in
        subst (IsAheadOf n k phi j) same (subst (λ h. IsAheadOf n k phi h found) (sym e) here)
    by (inr ne) =
        let known : j < length rows = omega arith in
        before j row (omega arith) (slice_get-get_or rows j row known ∙ ap Some (sym (get_or-set_other rows m j found row ne) ∙ is))
