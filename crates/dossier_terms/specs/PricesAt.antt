-- the prices of a leaf, one by one
use Rattle.std.proofs.Common.{◌≡◌, ◌<◌, ℕ, [], get_or, ap, ◌∙◌, arith}
use Rattle.std.specs.Prelude.{pos, map}
use Rattle.std.specs.List.{range_with_len}
use Rattle.std.proofs.lemmas.List.FromFn.{get_or-map-range_with_len}
use Rattle.crew_terms.specs.Leaf.{rho_of}
use Rattle.crew_terms.specs.Limits.{Limits, tasks_in, teams_in}
use Rattle.dossier_terms.specs.Dossier.{Leaf, extra_of, prices_of}

-- what stands in the prices for a team and a task
pub rho_at : (n : Limits) (leaf : Leaf) (k j : ℕ) → k < teams_in n → j < tasks_in n → rho_of (prices_of n leaf) k j ≡ extra_of n leaf k j
rho_at n leaf k j lt l =
    ap (λ r. get_or r j (pos 0)) (get_or-map-range_with_len (λ k. map (extra_of n leaf k) (range_with_len 0 (tasks_in n))) 0 (teams_in n) k k [] lt (omega arith))
    ∙ get_or-map-range_with_len (extra_of n leaf k) 0 (tasks_in n) j j (pos 0) l (omega arith)
