use Rattle.std.proofs.Common.{ap, sym}
use Rattle.std.specs.Option.{option_copied}
use Rattle.each_out.specs.Laws.{puts_as}
use Rattle.plan_changes.specs.Changes.{job_text}
use Rattle.plan_changes.proofs.put_job.Goals as goal

pub returns-in-Some : goal.returns-in-Some
unfolding job_text
returns-in-Some g c = puts_as g.K.Sink _ _ _ _ _ c.put_between.ensures (sym (ap (λ b. job_text (option_copied b) c.args.now.now) c.in-Some.is))

pub returns-in-None : goal.returns-in-None
unfolding job_text
returns-in-None g c = puts_as g.K.Sink _ _ _ _ _ c.put_new.ensures (sym (ap (λ b. job_text (option_copied b) c.args.now.now) c.in-None.is))
