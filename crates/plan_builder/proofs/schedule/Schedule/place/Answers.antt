use Rattle.std.proofs.Common.{◌≡◌, ◌<◌, subst, sym, length, List, ℕ}
use Rattle.std.specs.Prelude.{All}
use Rattle.team_days.specs.Adding.{FitsNowhere}
use Rattle.plan_builder.proofs.Filled.{filled_none, begun, teams_known}
use Rattle.plan_builder.proofs.schedule.Schedule.place.Goals as goal

pub returns-in_default : goal.returns-in_default
returns-in_default c =
    filled_none c.args.self.now (λ h. h ≡ c.args.j) (λ h e. subst (FitsNowhere c.args.self.now.instance c.args.self.now.plan) (sym e) c.in_default.ensures)

pub costs-costs-requires-clause-teams : goal.costs-costs-requires-clause-teams
costs-costs-requires-clause-teams c =
    let room = c.in-Some.ensures in
    subst (λ (ks : List ℕ). All (λ k. k < length c.args.self.now.instance.teams) ks) (sym c.as_slice.ensures.value)
    (teams_known c.args.self.now c.args.j c.in-Some.t c.in-Some.free.items room)

pub returns : goal.returns
returns c =
    begun c.args.self.now c.begin.new.self c.args.j
    (λ job. c.jobs_stay.ensures.keeps c.args.self.now.plan c.args.j job c.is_open.ensures.known (c.is_open.ensures.open.0 c.if-not-is_open.false))
    (λ job. c.jobs_stay.ensures.count c.args.self.now.plan c.args.j job c.is_open.ensures.known (c.is_open.ensures.open.0 c.if-not-is_open.false)) c.in_ok-begin.ensures
