use Rattle.std.proofs.Common.{ℕ, ◌<◌, ◌+◌, ◌*◌, [], get_or}
use Rattle.line_in.specs.Fields.{SpellsOne}
use Rattle.line_in.proofs.numbers.are_pairs.Given as goal

abbrev pub invariant-loop-n : goal.invariant-loop-n
invariant-loop-n l = (k : ℕ) → k < l.n → SpellsOne l.first (get_or l.words (l.fn.from + 2 * k) []) × SpellsOne l.second (get_or l.words (l.fn.from + 2 * k + 1) [])
