use Rattle.std.proofs.Common.{◌≡◌, ◌<◌, ℕ, vec_len, slice_index}
use Rattle.crew_terms.specs.Instance.{task_of}
use Rattle.crew_terms.specs.Leaf.{pi_of}
use Rattle.plan_search.specs.Weights.{weight_at}
use Rattle.plan_search.proofs.weights.weights_of.Given as goal

abbrev pub invariant-loop-j : goal.invariant-loop-j
invariant-loop-j l =
    (vec_len l.weights ≡ l.j) × ((h : ℕ) → h < l.j → slice_index l.weights.items h ≡ weight_at (task_of l.instance h).teams (pi_of l.prices h))
