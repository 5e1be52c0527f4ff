-- what a bound may lose where prices are rounded down
use Rattle.std.specs.Prelude.{ℤ, pos, ◌+ℤ◌, if◌then◌else◌}
use Rattle.crew_terms.specs.Limits.{Limits, tasks_in, teams_in, pair_of, is_required}
use Rattle.crew_terms.specs.Total.{total}
use Rattle.search_terms.specs.Opening.{teams_for}

-- a unit of 1/D for each team that a task needs, and for each required pair
abbrev pub rounding_loss : Limits → ℤ
rounding_loss n = total (tasks_in n) (λ j. pos (teams_for n j))
    +ℤ total (teams_in n) (λ k. total (tasks_in n) (λ j. if is_required (pair_of n k j) then pos 1 else pos 0))
