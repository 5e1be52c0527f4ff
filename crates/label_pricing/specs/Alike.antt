-- teams that price alike
use Rattle.std.specs.Prelude.{◌≡◌, ◌<◌, ℕ}
use Rattle.crew_terms.specs.Instance.{team_of}
use Rattle.crew_terms.specs.Limits.{Limits, pair_of, tasks_in}
use Rattle.crew_terms.specs.declared.Pair.{Pair}
use Rattle.crew_terms.specs.declared.Team.{Team}
use Rattle.crew_terms.specs.declared.Pair.TheVariants.{Free, Forbidden}

-- both pairs are free, or both are forbidden
abbrev pub IsPairAlike : Pair → Pair → Type 0
IsPairAlike Free Free = Unit {0}
IsPairAlike Forbidden Forbidden = Unit {0}
IsPairAlike _ _ = ⊥

-- the same home, shift and skills
pub record AreSame (t u : Team) : Type 0 where
  pub home : t.home ≡ u.home
  pub from : t.from ≡ u.from
  pub until : t.until ≡ u.until
  pub skills : t.skills ≡ u.skills

-- the same home, shift and skills, and each task is free for both teams or forbidden for both
pub record AreAlike (n : Limits) (k h : ℕ) : Type 0 where
  pub teams : AreSame (team_of n.instance k) (team_of n.instance h)
  pub pairs : (j : ℕ) → j < tasks_in n → IsPairAlike (pair_of n k j) (pair_of n h j)
