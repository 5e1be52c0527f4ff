-- whether a plan is feasible does not depend on the frozen jobs
use Rattle.std.proofs.Common.{ℕ}
use Rattle.crew_terms.specs.Instance.{Instance}
use Rattle.crew_terms.specs.Plan.{Plan, Job}
use Rattle.crew_terms.specs.Legal.{IsJob, IsFit, IsFeasible}

module _ (i : Instance) (frozen : Plan) where
  still_fits : (j t k : ℕ) → IsFit i j t k → IsFit (record i { frozen = frozen }) j t k
  still_fits j t k fit = record { qualified = fit.qualified; in_shift = record { comes = fit.in_shift.comes; returns = fit.in_shift.returns } }

  still_job : (j : ℕ) (job : Job) → IsJob i j job → IsJob (record i { frozen = frozen }) j job
  still_job j job is = record {
    window = record { early = is.window.early; late = is.window.late };
    list = record { rising = is.list.rising; count = is.list.count };
    known = is.known;
    fit = λ k c. still_fits j job.start k (is.fit k c);
  }

  pub still_feasible : (p : Plan) → IsFeasible i p → IsFeasible (record i { frozen = frozen }) p
  still_feasible p is = record { whole = is.whole; jobs = λ j job e. still_job j job (is.jobs j job e); apart = is.apart; follow = is.follow }
