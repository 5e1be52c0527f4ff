-- nodes inside others
use Rattle.std.specs.Prelude.{◌≡◌, ◌≤◌, ◌<◌, ℕ}
use Rattle.crew_terms.specs.Limits.{Limits, IsLimits, tasks_in, window_of, pair_of, root_limits}
use Rattle.crew_terms.specs.declared.Pair.TheVariants.{Forbidden, Required}

-- limits of the same instance inside others: the windows lie in theirs, and the pairs that they forbid or require are so here
pub record IsInside (inner outer : Limits) : Type 0 where
  pub instance : inner.instance ≡ outer.instance
  pub early : (j : ℕ) → j < tasks_in outer → (window_of outer j).0 ≤ (window_of inner j).0
  pub late : (j : ℕ) → j < tasks_in outer → (window_of inner j).1 ≤ (window_of outer j).1
  pub forbidden : (k j : ℕ) → pair_of outer k j ≡ Forbidden → pair_of inner k j ≡ Forbidden
  pub required : (k j : ℕ) → pair_of outer k j ≡ Required → pair_of inner k j ≡ Required

-- a node of a branch tree over the root, as all nodes of a search are: limits inside those of the root
pub record IsNode (n : Limits) : Type 0 where
  pub limits : IsLimits n
  pub inside : IsInside n (root_limits n.instance)
