use Rattle.std.proofs.Common.{◌≡◌, ◌*◌, pos}
use Rattle.crew_num.specs.Mixed.{IsMixed, value}
use Rattle.crew_terms.specs.Total.{total}
use Rattle.share_terms.specs.Shares.{FractionalChoice, unassigned_of}
use Rattle.share_check.proofs.gaps.spare_sum.Given as goal

abbrev pub invariant-loop-j : goal.invariant-loop-j
invariant-loop-j l = IsMixed l.sum l.fn.whole (pos (2 * l.j))
    × ((c : FractionalChoice) → c.unassigned ≡ l.fn.spare → value l.sum l.fn.whole ≡ total l.j (λ j. pos (unassigned_of c j)))
