use Rattle.std.proofs.Common.{◌≡◌, ◌≤◌, ◌<◌, ℕ, [], length, get_or}
use Rattle.share_check.specs.declared.sums.Sums.{Sums}
use Rattle.share_check.specs.Summed.{IsSumsOf}
use Rattle.share_check.proofs.sums.ShareSums.begin.Given as goal

abbrev pub invariant-loop-k : goal.invariant-loop-k
invariant-loop-k l = (length l.self.teams.items ≡ length l.initial.self.teams.items) × (l.self.all ≡ l.initial.self.all)
    × ((k : ℕ) (d : Sums) → l.k ≤ k → get_or l.self.teams.items k d ≡ get_or l.initial.self.teams.items k d)
    × ((n whole k : ℕ) (d : Sums) → 1 ≤ whole → k < l.k → k < length l.self.teams.items → length (get_or l.initial.self.teams.items k d).visits.items ≡ n
    → IsSumsOf n whole [] (get_or l.self.teams.items k d))
