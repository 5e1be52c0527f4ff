use Rattle.std.proofs.Common.{inl, inr}
use Rattle.flight_changes.proofs.lists.Lists.check.Goals as goal

pub returns-in-Travel : goal.returns-in-Travel
returns-in-Travel c = rw c.in-Travel.is (c.check_way.ensures c.in-Travel.minutes)

pub returns-in-RouteTime : goal.returns-in-RouteTime
returns-in-RouteTime c = rw c.in-RouteTime.is (c.check_way-in-RouteTime.ensures c.in-RouteTime.minutes)

pub returns-in-Team : goal.returns-in-Team
returns-in-Team c = rw c.in-Team.is (c.check_team.ensures c.in-Team.skills)

pub returns-in-Task : goal.returns-in-Task
returns-in-Task c = rw c.in-Task.is (c.check_task.ensures c.in-Task.minutes c.in-Task.skills)

pub returns-in-Plan : goal.returns-in-Plan
returns-in-Plan c = elim c.in-Plan.is [ inl plan ↦ rw plan.1 (c.check_times.ensures 0) | inr now ↦ rw now.1 (c.check_times.ensures 0) ]
