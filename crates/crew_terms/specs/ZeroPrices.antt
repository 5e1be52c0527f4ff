-- laws of prices that are all 0
use Rattle.std.proofs.Common.{◌≡◌, ◌<◌, ◌≤◌, ◌⊎◌, inl, inr, ℕ, ℤ, pos, List, [], get_or, replicate, ap, arith, ◌∙◌}
use Rattle.std.proofs.lemmas.Bool.{cases_lt}
use Rattle.std.proofs.lemmas.List.{get_or-replicate, get_or_past, length-replicate}
use Rattle.crew_terms.specs.Leaf.{IsOnRequired, pi_of, rho_of, zero_prices}
use Rattle.crew_terms.specs.Limits.{Limits, tasks_in, teams_in}

zero_at : (m i : ℕ) → get_or (replicate m (pos 0)) i (pos 0) ≡ pos 0
zero_at m i = elim (cases_lt i m) [
  | inl l ↦ get_or-replicate m i (pos 0) (pos 0) l
  | inr ge ↦ get_or_past (replicate m (pos 0)) i (pos 0) (let e = length-replicate m (pos 0) in omega arith)
]

-- the price of a task is 0
pub zero_pi : (n : Limits) (j : ℕ) → pi_of (zero_prices n) j ≡ pos 0
zero_pi n j = zero_at (tasks_in n) j

-- the price of a pair is 0
pub zero_rho : (n : Limits) (k j : ℕ) → rho_of (zero_prices n) k j ≡ pos 0
zero_rho n k j = by (cases_lt k (teams_in n))
  where
    row : List ℤ
    row = replicate (tasks_in n) (pos 0)

    by : (k < teams_in n) ⊎ (teams_in n ≤ k) → rho_of (zero_prices n) k j ≡ pos 0
    by (inl l) = ap (λ (r : List ℤ). get_or r j (pos 0)) (get_or-replicate (teams_in n) k row [] l) ∙ zero_at (tasks_in n) j
    by (inr ge) =
        let e = length-replicate (teams_in n) row in
        ap (λ (r : List ℤ). get_or r j (pos 0)) (get_or_past (replicate (teams_in n) row) k [] (omega arith))

-- so only required pairs have a price
pub zero_on_required : (n : Limits) → IsOnRequired n (zero_prices n)
zero_on_required n = λ k j ne. zero_rho n k j
