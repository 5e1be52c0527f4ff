-- the pairs of the root
use Rattle.std.specs.Prelude.{ℕ, List, length, map}
use Rattle.std.specs.List.{range_with_len}
use Rattle.crew_terms.specs.Instance.{Instance}
use Rattle.crew_terms.specs.Limits.{root_pair}
use Rattle.crew_terms.specs.Plan.{job_of}
use Rattle.crew_terms.specs.declared.Pair.{Pair}

-- the states of team k and each task
abbrev pub root_row_of : Instance → ℕ → List Pair
root_row_of i k = map (λ j. root_pair (job_of i.frozen j) k) (range_with_len 0 (length i.tasks))
