use Rattle.std.proofs.Common.{◌≤◌, ◌<◌, ℕ}
use Rattle.crew_terms.specs.Instance.{minutes_between}
use Rattle.part_match.proofs.times.are_no_longer_from.Given as goal

abbrev pub invariant-loop-b : goal.invariant-loop-b
invariant-loop-b l = (h : ℕ) → h < l.b → minutes_between l.part l.fn.a h ≤ minutes_between l.whole l.fn.a h
