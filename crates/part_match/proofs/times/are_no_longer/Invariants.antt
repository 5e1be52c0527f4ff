use Rattle.std.proofs.Common.{◌≤◌, ◌<◌, ℕ}
use Rattle.crew_terms.specs.Instance.{minutes_between}
use Rattle.part_match.proofs.times.are_no_longer.Given as goal

abbrev pub invariant-loop-a : goal.invariant-loop-a
invariant-loop-a l = (h b : ℕ) → h < l.a → minutes_between l.part h b ≤ minutes_between l.whole h b
