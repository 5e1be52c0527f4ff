use Rattle.std.proofs.Common.{◌≡◌, ◌+◌, ◌*◌, ℕ, pos, length, take}
use Rattle.crew_num.specs.Mixed.{value}
use Rattle.share_terms.specs.Shares.{visits_to}
use Rattle.share_check.specs.CellSums.{AreSums}
use Rattle.share_check.proofs.cells.add_visits.Given as goal

abbrev pub invariant-loop-i : goal.invariant-loop-i
invariant-loop-i l = (length l.sums ≡ length l.initial.sums)
    × ((f : ℕ → ℕ) (k : ℕ) → AreSums l.fn.whole l.initial.sums f → value l.fn.share l.fn.whole ≡ pos k → AreSums l.fn.whole l.sums (λ j. f j + k * visits_to j (take l.i l.visits)))
