use Rattle.std.proofs.Common.{◌≡◌, ◌≤◌, ◌<◌, length, arith, ap, subst, sym, ◌∙◌}
use Rattle.crew_terms.specs.Instance.{no_task, task_of}
use Rattle.crew_terms.specs.declared.TheConstants.{LAST_MINUTE}
use Rattle.team_days.specs.Obstacles.{obstacle_of}
use Rattle.why_not.specs.Days.{Planned}
use Rattle.why_not.proofs.Rows.{all_told, mapped_length, one_more}
use Rattle.why_not.proofs.days.Days.row.Goals as goal

pub push-requires : goal.push-requires
push-requires c =
    let s = c.args.self.now in
    let n = ap length c.loop-k.invariant ∙ mapped_length (λ k. obstacle_of s.instance s.plan k c.args.j c.args.t) c.loop-k.k in
    let l = c.loop-k-test.true in
    let e = c.teams-k-end.ensures.count in
    let few = c.teams-k-end.ensures.limits.parts.few_teams in
    omega arith

pub loop-k-preserved : goal.loop-k-preserved
loop-k-preserved c =
    let s = c.args.self.now in
    c.push.ensures.items ∙ one_more (λ k. obstacle_of s.instance s.plan k c.args.j c.args.t) c.loop-k.k c.loop-k.row.items c.obstacle.result c.loop-k.invariant c.obstacle.ensures

pub returns-clause-row : goal.returns-clause-row
returns-clause-row c =
    let s = c.args.self.now in
    let l = c.loop-k-test.false in
    let m = c.loop-k-test.false in
    let e = c.teams-k-end.ensures.count in
    let b = ap (λ (x : Planned). length x.instance.teams) c.self.view_is in
    let n : c.loop-k.k ≡ length s.instance.teams = omega arith in
    all_told s.instance s.plan c.args.j c.args.t c.loop-k.k c.loop-k.row.items c.loop-k.invariant n

pub returns-clause-teams : goal.returns-clause-teams
returns-clause-teams c =
    let s = c.args.self.now in
    let l = c.loop-k-test.false in
    let e = c.teams-k-end.ensures.count in
    let b = ap (λ (x : Planned). length x.instance.teams) c.self.view_is in
    let n : c.loop-k.k ≡ length s.instance.teams = omega arith in
    ap length c.loop-k.invariant ∙ mapped_length (λ k. obstacle_of s.instance s.plan k c.args.j c.args.t) c.loop-k.k ∙ n

pub returns-clause-day : goal.returns-clause-day
returns-clause-day c =
    let within : c.args.j < length c.self.inside.instance.now.tasks = subst (λ (x : Planned). c.args.j < length x.instance.tasks) (sym c.self.view_is) c.requires.task in
    subst (λ (x : Planned). (task_of x.instance c.args.j).latest ≤ LAST_MINUTE) c.self.view_is (c.self.invariant.instance.parts.tasks c.args.j no_task within).window.day
