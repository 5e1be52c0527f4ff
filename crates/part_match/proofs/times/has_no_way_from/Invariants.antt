use Rattle.std.proofs.Common.{◌≤◌, ◌<◌, ◌+◌, ℕ}
use Rattle.crew_terms.specs.Instance.{minutes_between}
use Rattle.part_match.proofs.times.has_no_way_from.Given as goal

abbrev pub invariant-loop-b : goal.invariant-loop-b
invariant-loop-b l = (h c : ℕ) → h < l.b → minutes_between l.part l.fn.a c ≤ minutes_between l.part l.fn.a h + minutes_between l.part h c
