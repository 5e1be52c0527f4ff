use Rattle.std.proofs.Common.{◌≡◌, ◌<◌, ℕ, [], get_or}
use Rattle.same_instance.proofs.same.have_same_times.Given as goal

abbrev pub invariant-loop-p : goal.invariant-loop-p
invariant-loop-p l = (h : ℕ) → h < l.p → get_or l.a.travel h [] ≡ get_or l.b.travel h []
