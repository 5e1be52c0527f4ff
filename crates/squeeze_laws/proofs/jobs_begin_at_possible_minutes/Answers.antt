use Rattle.std.proofs.Common.{refl}
use Rattle.std.specs.Prelude.{pos}
use Rattle.crew_terms.specs.Limits.{root_limits}
use Rattle.squeeze_laws.proofs.Possible.{begins_possibly, enough, ones}
use Rattle.squeeze_laws.proofs.jobs_begin_at_possible_minutes.Goals as goal

pub returns : goal.returns
returns c = λ i p j job legal is.
    let within = c.root_has_legal_plans.ensures i p legal in
    begins_possibly i p legal within j job is
    (enough i p legal within j job is (λ k visit. (c.able_teams_may_begin.ensures (root_limits i) k j job.start visit.known).1 visit)
    (c.jobs_earn_by_team.ensures (root_limits i) p ones j job (pos 1) legal is (λ k. refl)))
