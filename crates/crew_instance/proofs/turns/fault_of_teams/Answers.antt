use Rattle.std.proofs.Common.{◌<◌, arith, length, sym, subst}
use Rattle.crew_terms.specs.Verdict.{BadTeam}
use Rattle.crew_terms.specs.Nodes.{task_known}
use Rattle.crew_laws.specs.Faultless.{feasible_from, no_clash}
use Rattle.crew_instance.specs.Turns.{AreTeamSets}
use Rattle.crew_instance.proofs.TeamTurns.{calm_more}
use Rattle.crew_instance.proofs.turns.fault_of_teams.Goals as goal

pub returns-in-Some-clause-verdict : goal.returns-in-Some-clause-verdict
returns-in-Some-clause-verdict c =
    let known : c.loop-k.k < length c.args.instance.now.teams = let a = c.loop-k-test.true in let b = c.teams-count.ensures.count in omega arith in
    BadTeam c.requires.jobs c.loop-k.k c.in-Some.ensures.before c.in-Some.ensures.after known c.loop-k.invariant c.in-Some.ensures.first c.in-Some.ensures.is

pub returns-in-Some-clause-fault : goal.returns-in-Some-clause-fault
returns-in-Some-clause-fault c = λ is.
    let first = c.in-Some.ensures.first in
    first.broken (no_clash c.args.instance.now c.args.plan.now c.loop-k.k is c.in-Some.ensures.before first.start c.in-Some.ensures.after first.next_start first.next)

pub loop-k-preserved : goal.loop-k-preserved
loop-k-preserved c = calm_more c.args.instance.now c.args.plan.now c.loop-k.k c.loop-k.invariant c.in_default.ensures

pub returns-clause-verdict : goal.returns-clause-verdict
returns-clause-verdict c =
    feasible_from c.args.instance.now c.args.plan.now c.teams-count.ensures.limits.parts c.requires.plan c.requires.jobs
    (λ g l. c.loop-k.invariant g (let a = c.loop-k-test.false in let b = c.teams-count.ensures.count in omega arith))

pub gather_sets-requires : goal.gather_sets-requires
gather_sets-requires c = λ k j t does.
    let known = (c.requires.jobs j does.0 (task_known c.args.plan.now k j t does) does.1).known k does.3 in
    let few = c.teams-count.ensures.limits.parts.few_teams in
    omega arith

pub clash_of-requires-clause-sets : goal.clash_of-requires-clause-sets
clash_of-requires-clause-sets c = subst (AreTeamSets c.args.plan.now) (sym c.as_slice-sets.ensures.value) c.gather_sets.ensures

pub clash_of-requires-clause-team : goal.clash_of-requires-clause-team
clash_of-requires-clause-team c =
    let test = c.loop-k-test.true in
    let count = c.teams-count.ensures.count in
    let few = c.teams-count.ensures.limits.parts.few_teams in
    omega arith
