use Rattle.std.proofs.Common.{refl, subst}
use Rattle.std.proofs.lemmas.List.Elements.{All-more}
use Rattle.delay_command.specs.Tasks.{IsDone}
use Rattle.delay_command.proofs.Named.{first_undone, told_more, undone_here}
use Rattle.delay_command.proofs.tasks.lates_in.Goals as goal

pub returns-in_default : goal.returns-in_default
returns-in_default c =
    let i = c.args.instance.now in
    let p = c.args.plan.now in
    let line = c.index-lines-n.result in
    first_undone i p c.requires c.args.lines.now c.loop-n.n line c.loop-n-test.true line c.index-lines-n.is c.loop-n.invariant.done
    (undone_here i p line c.late_in.result c.in_default.not-Some c.late_in.ensures) _ refl

pub loop-n-preserved : goal.loop-n-preserved
loop-n-preserved c =
    let i = c.args.instance.now in
    let p = c.args.plan.now in
    let line = c.index-lines-n.result in
    record {
      done = All-more (IsDone i p) c.args.lines.now c.loop-n.n line c.loop-n-test.true c.loop-n.invariant.done (subst (IsDone i p) c.index-lines-n.is c.in-Some.ensures.0);
      told = told_more i c.args.lines.now c.loop-n.n line c.loop-n-test.true c.index-lines-n.is c.loop-n.lates.items c.push.new.self.items c.in-Some.late c.in_ok-push.ensures.items c.loop-n.invariant.told c.in-Some.ensures.1;
    }
