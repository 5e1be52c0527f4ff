use Rattle.std.proofs.Common.{◌≤◌, ◌<◌, ◌+◌, ℕ, length}
use Rattle.crew_terms.specs.Instance.{minutes_between}
use Rattle.part_match.proofs.times.meets_triangle.Given as goal

abbrev pub invariant-loop-a : goal.invariant-loop-a
invariant-loop-a l = (h b c : ℕ) → h < l.a → b < length l.part.places → minutes_between l.part h c ≤ minutes_between l.part h b + minutes_between l.part b c
