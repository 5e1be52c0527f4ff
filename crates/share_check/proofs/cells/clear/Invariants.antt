use Rattle.std.proofs.Common.{◌≡◌, ◌≤◌, ◌<◌, ℕ, length}
use Rattle.share_check.specs.CellSums.{IsSum, sum_at}
use Rattle.share_check.proofs.cells.clear.Given as goal

abbrev pub invariant-loop-i : goal.invariant-loop-i
invariant-loop-i l = (length l.sums ≡ length l.initial.sums) × ((whole : ℕ) → 1 ≤ whole → (j : ℕ) → j < l.i → IsSum whole (sum_at l.sums j) 0)
