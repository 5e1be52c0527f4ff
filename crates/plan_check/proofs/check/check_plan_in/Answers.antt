use Rattle.std.proofs.Common.{refl}
use Rattle.crew_terms.specs.Verdict.{Kept, Unkept}
use Rattle.plan_check.proofs.check.check_plan_in.Goals as goal

pub returns-in-Some-clause-verdict : goal.returns-in-Some-clause-verdict
returns-in-Some-clause-verdict c = Unkept c.in-Some.j c.in-Some.ensures refl

pub returns-clause-verdict : goal.returns-clause-verdict
returns-clause-verdict c = Kept c.in_default.ensures c.feasibility_in.ensures.verdict
