use Rattle.std.proofs.Common.{ℕ, ◌≤◌, ◌<◌, [], get_or}
use Rattle.line_in.specs.Fields.{SpellsOne}
use Rattle.line_in.proofs.numbers.are_in.Given as goal

abbrev pub invariant-loop-n : goal.invariant-loop-n
invariant-loop-n l = (k : ℕ) → l.from ≤ k → k < l.n → SpellsOne l.field (get_or l.words k [])
