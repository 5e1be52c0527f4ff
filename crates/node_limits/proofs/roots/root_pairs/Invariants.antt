use Rattle.std.proofs.Common.{◌≡◌, length, map}
use Rattle.std.specs.List.{range_with_len}
use Rattle.crew_terms.specs.Limits.{root_pair}
use Rattle.crew_terms.specs.Plan.{job_of}
use Rattle.node_limits.proofs.roots.root_pairs.Given as goal

abbrev pub invariant-loop-k : goal.invariant-loop-k
invariant-loop-k l = map (λ row. row.items) l.rows.items ≡ map (λ k. map (λ j. root_pair (job_of l.instance.frozen j) k) (range_with_len 0 (length l.instance.tasks))) (range_with_len 0 l.k)
