use Rattle.std.proofs.Common.{◌≡◌, ◌<◌, None, ℕ, take, get_or, length}
use Rattle.branch_choice.specs.Ends.{AreEndsAt}
use Rattle.branch_choice.proofs.ends.ends_by_task.Given as goal

abbrev pub invariant-loop-u : goal.invariant-loop-u
invariant-loop-u l = record {
  whole : length l.ends ≡ 400;
  ends : (j : ℕ) → j < 400 → AreEndsAt (take l.u-index l.uses) j (get_or l.ends j None);
}
