use Rattle.std.proofs.Common.{◌≡◌, ◌≤◌, ◌<◌, [], ℕ, get_or}
use Rattle.std.specs.Fmt.{decimal}
use Rattle.line_in.proofs.wides.are_naturals.Given as goal

abbrev pub invariant-loop-n : goal.invariant-loop-n
invariant-loop-n l = (k : ℕ) → l.from ≤ k → k < l.n → (m : ℕ) × (m < l.past) × (get_or l.words k [] ≡ decimal m)
