use Rattle.std.proofs.Common.{◌≡◌, ◌<◌, ℕ}
use Rattle.crew_terms.specs.Instance.{minutes_between}
use Rattle.same_instance.proofs.same.have_same_minutes_from.Given as goal

abbrev pub invariant-loop-q : goal.invariant-loop-q
invariant-loop-q l = (h : ℕ) → h < l.q → minutes_between l.a l.fn.p h ≡ minutes_between l.b l.fn.p h
