use Rattle.std.proofs.Common.{◌∙◌}
use Rattle.day_gen.proofs.Runs.{one_more, team_more, draws_more}
use Rattle.day_gen.proofs.days.add_teams.Goals as goal

pub loop-k-preserved : goal.loop-k-preserved
loop-k-preserved c =
    let below = c.loop-k-test.true in
    let next = c.team.ensures.draws in
    record {
      entries =
          rw (c.in_ok-push.ensures.items, c.team.ensures.entry, next)
          (one_more _ _ _ _ _ c.loop-k.invariant.entries (team_more c.loop-k.k c.args.teams c.loop-k.generator below));
      draws = rw next (c.loop-k.invariant.draws ∙ draws_more c.loop-k.k c.args.teams c.loop-k.generator below);
    }
