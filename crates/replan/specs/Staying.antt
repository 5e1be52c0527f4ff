-- plans of rounds that stay, unless they do more tasks
use Rattle.std.specs.Prelude.{◌≡◌, Option, None, Some, IfSome, length}
use Rattle.crew_terms.specs.Instance.{Instance}
use Rattle.crew_terms.specs.Legal.{IsLegal}
use Rattle.crew_terms.specs.Plan.{Plan, unassigned_count}
use Rattle.day_terms.specs.Instances.{day_instance, plan_of_jobs}
use Rattle.day_terms.specs.State.{DayState}
use Rattle.plan_again.specs.Stays.{IsNoWorse}

-- ---- a round that begins with the last plan

-- it begins with a plan that is no worse than the old one, or with none where that has no job
abbrev pub BeginsFrom : Plan → Option Plan → Type 0
BeginsFrom old None = unassigned_count old ≡ length old
BeginsFrom old (Some p) = IsNoWorse old p

-- where there is a last plan and it is legal, this one is no worse
abbrev pub LosesNoTask : Instance → Option Plan → Plan → Type 0
LosesNoTask i last p = IfSome last (λ old. IsLegal i old → IsNoWorse old p)

-- ---- a round of a day

-- what is left of the last plan, as a plan of the state's tasks: for each the job of its name, if there is one
abbrev pub last_plan_of : DayState → Plan
last_plan_of s = plan_of_jobs s s.last_plan

-- where what is left of the last plan is legal for the state's instance, this plan leaves no more tasks unassigned than that does,
-- and where it leaves as many it has each of those jobs
abbrev pub StaysIn : DayState → Plan → Type 0
StaysIn s p = LosesNoTask (day_instance s) (Some (last_plan_of s)) p
