use Rattle.std.proofs.Common.{◌≡◌, ◌<◌, ℕ}
use Rattle.crew_terms.specs.Instance.{task_of}
use Rattle.cert_checker.proofs.rooms.have_same_windows.Given as goal

abbrev pub invariant-loop-j : goal.invariant-loop-j
invariant-loop-j l = record {
  earliest : (i : ℕ) → i < l.j → (task_of l.a i).earliest ≡ (task_of l.b i).earliest;
  latest : (i : ℕ) → i < l.j → (task_of l.a i).latest ≡ (task_of l.b i).latest;
}
