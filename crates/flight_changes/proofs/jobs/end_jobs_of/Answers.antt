use Rattle.std.proofs.Common.{not, rules}
use Rattle.std.proofs.lemmas.Fn.{filter_same}
use Rattle.day_terms.specs.Work.{is_job_of}
use Rattle.flight_changes.proofs.jobs.end_jobs_of.Goals as goal

pub returns : goal.returns
returns c = filter_same _ (λ job. not (is_job_of c.args.task.now job)) _ (λ x b f' k. search rules) _ _ c.retain.ensures.filtered
