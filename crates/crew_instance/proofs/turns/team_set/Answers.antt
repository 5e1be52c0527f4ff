use Rattle.std.proofs.Common.{◌≡◌, length, arith}
use Rattle.crew_instance.proofs.TeamSets.{has_all, has_more}
use Rattle.crew_instance.proofs.turns.team_set.Goals as goal

pub loop-k-preserved : goal.loop-k-preserved
loop-k-preserved c = has_more c.args.teams.now c.loop-k.k-index c.loop-k.set (c.requires c.loop-k.k-index 0 c.loop-k-test.true) c.loop-k.invariant

pub returns : goal.returns
returns c =
    let all : length c.args.teams.now ≡ c.loop-k.k-index = let a = c.loop-k-test.false in let b = c.loop-k.auto.k-index-end in omega arith in
    has_all c.args.teams.now c.loop-k.k-index c.loop-k.set all c.loop-k.invariant
