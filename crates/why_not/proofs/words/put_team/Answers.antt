use Rattle.std.proofs.Common.{◌<◌, length, ap, refl, sym, subst, ◌∙◌}
use Rattle.crew_io.specs.Chains.{puts_front, puts_same, puts_then}
use Rattle.crew_terms.specs.Instance.{Instance}
use Rattle.crew_terms.specs.declared.Team.{Team}
use Rattle.team_days.specs.Obstacles.{obstacle_of}
use Rattle.why_not.specs.Why.{obstacle_text}
use Rattle.why_not.proofs.Texts.{team_is}
use Rattle.why_not.proofs.words.put_team.Goals as goal

pub put_obstacle-requires : goal.put_obstacle-requires
put_obstacle-requires g c = λ h e.
    let i = c.args.days.now.instance in
    let p = c.args.days.now.plan in
    let known = c.obstacles_are_told.ensures.busy i p c.args.k c.args.j c.args.t h c.instance-instance.ensures.legal.feasible (sym c.obstacle.ensures ∙ e) in
    subst (λ (x : Instance). h < length x.tasks) (sym c.instance-instance.ensures.instance) known

pub returns-in_err-put_next : goal.returns-in_err-put_next
returns-in_err-put_next g c =
    let i = c.args.days.now.instance in
    let p = c.args.days.now.plan in
    let told = obstacle_of i p c.args.k c.args.j c.args.t in
    let name = c.bytes.ensures.bytes ∙ ap (λ (t : Team). t.name) c.team.ensures.team in
    puts_front g.K.Sink _ _ _ _ _ c.from_residual.result c.from_residual.ensures.0 c.in_err-put_next.ensures
    (record {
      rest = obstacle_text c.instance-instance.result.now told;
      is = sym (team_is i c.instance-instance.result.now p c.args.j c.args.t c.args.k c.bytes.result.now told c.instance-instance.ensures.instance name refl);
    })

pub returns : goal.returns
returns g c =
    let i = c.args.days.now.instance in
    let p = c.args.days.now.plan in
    let name = c.bytes.ensures.bytes ∙ ap (λ (t : Team). t.name) c.team.ensures.team in
    puts_same g.K.Sink _ _ _ _ _
    (team_is i c.instance-instance.result.now p c.args.j c.args.t c.args.k c.bytes.result.now c.obstacle.result c.instance-instance.ensures.instance name c.obstacle.ensures)
    (puts_then g.K.Sink _ _ _ _ _ _ _ c.in_ok-put_next.ensures c.put_obstacle.ensures)
