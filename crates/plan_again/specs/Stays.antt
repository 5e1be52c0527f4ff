-- plans that stay as they were, unless more tasks are done
use Rattle.std.specs.Prelude.{◌≡◌, ◌≤◌, Option, IfSome}
use Rattle.crew_terms.specs.Plan.{Plan, unassigned_count}
use Rattle.team_days.specs.Adding.{Keeps}

-- the new plan leaves no more tasks unassigned than the old one, and where it leaves as many it has each of its jobs
pub record IsNoWorse (old new : Plan) : Type 0 where
  pub fewer : unassigned_count new ≤ unassigned_count old
  pub keeps : unassigned_count new ≡ unassigned_count old → Keeps old new

-- so of the plan that was there to begin with, if there was one
abbrev pub StaysOrBetters : Option Plan → Plan → Type 0
StaysOrBetters start p = IfSome start (λ old. IsNoWorse old p)
