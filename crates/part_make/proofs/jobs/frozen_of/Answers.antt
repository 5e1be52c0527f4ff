use Rattle.std.proofs.Common.{arith}
use Rattle.part_make.proofs.CutJobs.{all_cut, none_cut}
use Rattle.part_make.proofs.jobs.frozen_of.Goals as goal

pub loop-k-init : goal.loop-k-init
loop-k-init c = none_cut c.args.whole.now.frozen c.args.tasks.now c.in_ok-plan.plan c.in_ok-plan.ensures

pub returns : goal.returns
returns c = all_cut c.args.whole.now.frozen c.args.tasks.now c.loop-k.k c.loop-k.plan (let a = c.loop-k-test.false in omega arith) c.loop-k.invariant
