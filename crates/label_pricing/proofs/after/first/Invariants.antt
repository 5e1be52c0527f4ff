use Rattle.std.proofs.Common.{◌≡◌, ◌≤◌, ℕ, ℤ, length}
use Rattle.crew_terms.specs.Rules.{IsInstance}
use Rattle.crew_terms.specs.Limits.{Limits as NodeLimits}
use Rattle.label_pricing.specs.Cells.{AreCells}
use Rattle.label_pricing.specs.Turns.{IsStart}
use Rattle.label_pricing.proofs.Onward.{IsFirstBelow}
use Rattle.label_pricing.proofs.after.first.Given as goal

abbrev pub invariant-loop-q : goal.invariant-loop-q
invariant-loop-q l = (n : NodeLimits) (k : ℕ) (w : ℕ → ℕ → ℤ) (end : ℕ) → IsInstance n.instance → length n.instance.places ≡ l.places
    → IsStart n k l.start → l.start ≤ end → AreCells n k w l.start end l.grid → IsFirstBelow n k w l.q l.best
