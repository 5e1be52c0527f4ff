-- the numbers below another, and those of them that a test keeps
use Rattle.std.proofs.Common.{◌<◌, ℕ, get_or, sym, subst, inl, inr, arith, Bool}
use Rattle.std.specs.Prelude.{map, filter, All}
use Rattle.std.specs.List.{range_with_len}
use Rattle.std.specs.List.Sorted.{IsStrictlyIncreasing}
use Rattle.std.proofs.lemmas.Bool.{cases_lt}
use Rattle.std.proofs.lemmas.List.{get_or_past}
use Rattle.std.proofs.lemmas.List.FromFn.{get_or-map-range_with_len, length-map-range_with_len}
use Rattle.std.proofs.lemmas.List.Elements.{All-filter}
use Rattle.std.proofs.lemmas.List.Kept.{IsStrictlyIncreasing-filter}
use Rattle.crew_terms.specs.Listed.{all_below, below_rises}

-- what holds of f at a number below n, and of what stands past its numbers
pub map_at : {X : Type 0} (P : X → Type 0) (f : ℕ → X) (n k : ℕ) (d : X) → (k < n → P (f k)) → P d → P (get_or (map f (range_with_len 0 n)) k d)
map_at P f n k d h o = elim (cases_lt k n) [
  | inl l ↦ subst P (sym (get_or-map-range_with_len f 0 n k k d l (omega arith))) (h l)
  | inr l ↦ subst P (sym (get_or_past (map f (range_with_len 0 n)) k d (omega (arith, length-map-range_with_len f 0 n)))) o
]

pub kept_less : (p : ℕ → Bool) (n : ℕ) → All (λ j. j < n) (filter p (range_with_len 0 n))
kept_less p n = All-filter p (λ j. j < n) (range_with_len 0 n) (all_below n)

pub kept_rises : (p : ℕ → Bool) (n : ℕ) → IsStrictlyIncreasing (filter p (range_with_len 0 n))
kept_rises p n = IsStrictlyIncreasing-filter p (range_with_len 0 n) (below_rises n)
