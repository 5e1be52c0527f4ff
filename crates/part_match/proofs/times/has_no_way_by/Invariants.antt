use Rattle.std.proofs.Common.{◌≤◌, ◌<◌, ◌+◌, ℕ}
use Rattle.crew_terms.specs.Instance.{minutes_between}
use Rattle.part_match.proofs.times.has_no_way_by.Given as goal

abbrev pub invariant-loop-c : goal.invariant-loop-c
invariant-loop-c l = (h : ℕ) → h < l.c → minutes_between l.part l.fn.a h ≤ minutes_between l.part l.fn.a l.fn.b + minutes_between l.part l.fn.b h
