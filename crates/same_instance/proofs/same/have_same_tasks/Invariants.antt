use Rattle.std.proofs.Common.{◌≡◌, ◌<◌, ℕ}
use Rattle.crew_terms.specs.Instance.{task_of}
use Rattle.same_instance.proofs.same.have_same_tasks.Given as goal

abbrev pub invariant-loop-j : goal.invariant-loop-j
invariant-loop-j l = (h : ℕ) → h < l.j → task_of l.a h ≡ task_of l.b h
