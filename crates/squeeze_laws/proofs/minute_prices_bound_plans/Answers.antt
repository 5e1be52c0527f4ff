use Rattle.std.proofs.Common.{refl}
use Rattle.crew_terms.specs.Leaf.{worth_of}
use Rattle.crew_terms.specs.Limits.{root_limits}
use Rattle.squeeze_terms.specs.MinutePrices.{minute_price}
use Rattle.squeeze_laws.proofs.Plans.{bound_le, earns}
use Rattle.squeeze_laws.proofs.minute_prices_bound_plans.Goals as goal

pub returns : goal.returns
returns c = λ i p prices worths phi legal valid.
    let within = c.root_has_legal_plans.ensures i p legal in
    bound_le i p prices (λ j job is. c.jobs_begin_at_possible_minutes.ensures i p j job legal is)
    (λ j job is. c.jobs_earn_by_team.ensures (root_limits i) p (earns i p prices) j job (minute_price i prices j job.start) legal is (λ k. refl))
    worths (c.worths_bound_plans.ensures (root_limits i) p (earns i p prices) phi (worth_of worths) legal within valid.valid) legal.feasible.whole
