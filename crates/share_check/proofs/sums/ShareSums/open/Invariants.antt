use Rattle.std.proofs.Common.{◌≡◌, ◌<◌, ℕ, length, get_or}
use Rattle.share_check.specs.declared.sums.Sums.{Sums}
use Rattle.share_check.proofs.sums.ShareSums.open.Given as goal

abbrev pub invariant-loop : goal.invariant-loop
invariant-loop l = (length l.teams.items ≡ l.counter) × ((k : ℕ) (d : Sums) → k < length l.teams.items → length (get_or l.teams.items k d).visits.items ≡ l.tasks)
