use Rattle.std.proofs.Common.{not, rules}
use Rattle.std.proofs.lemmas.Fn.{filter_same}
use Rattle.day_terms.specs.Work.{needs_team}
use Rattle.flight_changes.proofs.jobs.end_jobs_with.Goals as goal

pub returns : goal.returns
returns c = filter_same _ (λ job. not (needs_team c.args.team.now job)) _ (λ x b f' k. search rules) _ _ c.retain.ensures.filtered
