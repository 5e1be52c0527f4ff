use Rattle.std.proofs.Common.{◌+◌, ◌<◌, length, arith, ◌∙◌}
use Rattle.crew_terms.specs.declared.TheConstants.{MOST_TEAMS, LAST_MINUTE}
use Rattle.head_check.proofs.Listed.{told_at, pushed, below_more}
use Rattle.head_check.proofs.numbers.team_list.Goals as goal

pub number_at-requires-clause-range : goal.number_at-requires-clause-range
number_at-requires-clause-range c = below_more MOST_TEAMS (LAST_MINUTE + 1) c.args.teams.now (omega arith) c.requires

pub loop-n-preserved : goal.loop-n-preserved
loop-n-preserved c =
    let zs = c.args.teams.now in
    let n = c.loop-n.n in
    let below : n < length zs = (let t = c.loop-n-test.true in let e = c.len-n-end.ensures in omega arith) in
    let told = told_at zs n c.number_at.result below c.number_at.ensures in
    c.in_ok-push.ensures.ok ∙ pushed zs n c.number_at.result c.loop-n.list.items below told c.loop-n.invariant
