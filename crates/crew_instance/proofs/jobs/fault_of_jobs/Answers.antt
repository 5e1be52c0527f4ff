use Rattle.std.proofs.Common.{arith}
use Rattle.crew_terms.specs.Verdict.{BadJob}
use Rattle.crew_instance.proofs.GoodJobs.{jobs_more}
use Rattle.crew_instance.proofs.jobs.fault_of_jobs.Goals as goal

pub returns-in-Some : goal.returns-in-Some
returns-in-Some c = BadJob c.loop-j.j c.in-Some.ensures.job c.in-Some.ensures.at c.loop-j.invariant c.in-Some.ensures.how

pub loop-j-preserved : goal.loop-j-preserved
loop-j-preserved c = jobs_more c.args.instance.now c.args.plan.now c.loop-j.j c.loop-j.invariant c.in_default.ensures

pub returns : goal.returns
returns c = λ j job l e. c.loop-j.invariant j job (let a = c.loop-j-test.false in let b = c.len-j-end.ensures.count in omega arith) e
