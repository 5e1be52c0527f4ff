-- when tasks end
use Rattle.std.specs.Prelude.{◌≢◌, ◌≤◌, ◌+◌, ◌==◌, max, ℕ, List, IsSome, All, AllPairs, find}
use Rattle.std.specs.Option.{option_map_or}
use Rattle.crew_terms.specs.Instance.{Instance, task_of, minutes_between}
use Rattle.crew_terms.specs.Plan.{Plan, job_of}
use Rattle.delay_wave.specs.declared.lates.TheConstants.{LATEST_END}
use Rattle.delay_wave.specs.declared.lates.Late.{Late}

-- assigned tasks, each told once, with ends in range
pub record AreLates (p : Plan) (lates : List Late) : Type 0 where
  pub assigned : All (λ l. IsSome (job_of p l.task)) lates
  pub differ : AllPairs (λ (a b : Late). a.task ≢ b.task) lates
  pub ends : All (λ l. l.end ≤ LATEST_END) lates

-- an assigned task that none of those before is, with an end in range
pub record MayFollow (p : Plan) (before : List Late) (late : Late) : Type 0 where
  pub assigned : IsSome (job_of p late.task)
  pub end : late.end ≤ LATEST_END
  pub new : All (λ l. l.task ≢ late.task) before

-- the end that is told of task j, 0 where none is
abbrev pub told_end : List Late → ℕ → ℕ
told_end lates j = option_map_or (λ l. l.end) (find (λ l. l.task == j) lates) 0

-- when task j ends, if it begins at minute t: after its minutes, and not before the end that is told
abbrev pub end_of : Instance → List Late → ℕ → ℕ → ℕ
end_of i lates j t = max (t + (task_of i j).minutes) (told_end lates j)

-- the travel minutes from task j to task h
abbrev pub minutes_to : Instance → ℕ → ℕ → ℕ
minutes_to i j h = minutes_between i (task_of i j).place (task_of i h).place
