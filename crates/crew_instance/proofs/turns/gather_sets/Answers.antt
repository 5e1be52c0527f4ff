use Rattle.std.proofs.Common.{◌++◌, ◌∷◌, [], get_or, arith, sym, subst}
use Rattle.std.specs.Prelude.{Contains}
use Rattle.std.proofs.lemmas.List.{length_push}
use Rattle.std.proofs.lemmas.List.Elements.{Contains-get_or}
use Rattle.crew_terms.specs.Plan.{job_of}
use Rattle.crew_instance.specs.Teams.{job_teams}
use Rattle.crew_instance.specs.Turns.{AreTeamSets}
use Rattle.crew_instance.proofs.TeamSets.{sets_more, team_does}
use Rattle.crew_instance.proofs.turns.gather_sets.Goals as goal

pub team_set-requires : goal.team_set-requires
team_set-requires c = λ i d l.
    let p = c.args.plan.now in
    let k = get_or c.teams.result.now i d in
    let among : Contains (job_teams (job_of p c.loop-task.task)) k = subst (λ ks. Contains ks k) c.teams.ensures (Contains-get_or c.teams.result.now i d l) in
    let does = team_does p c.loop-task.task k among in
    c.requires k c.loop-task.task does.0 does.1

pub loop-task-preserved : goal.loop-task-preserved
loop-task-preserved c =
    let p = c.args.plan.now in
    let held = c.loop-task.invariant in
    let size = length_push c.loop-task.sets.items c.team_set.result in
    let count = held.count in
    let more : AreTeamSets p (c.loop-task.sets.items ++ c.team_set.result ∷ []) =
    sets_more p c.loop-task.sets.items c.loop-task.task c.team_set.result held.count held.sets
    (λ k among. c.team_set.ensures k (subst (λ ks. Contains ks k) (sym c.teams.ensures) among)) in
    record {
      count = rw c.push.ensures.items (omega arith);
      sets = subst (AreTeamSets p) (sym c.push.ensures.items) more;
    }
