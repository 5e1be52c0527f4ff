use Rattle.std.proofs.Common.{◌≡◌, filter, fold, nat_lt, take}
use Rattle.day_terms.specs.Work.{with_frozen}
use Rattle.flight_changes.specs.Limits.{AreDoable}
use Rattle.flight_changes.proofs.desks.Desk.freeze.Given as goal

abbrev pub invariant-loop-job : goal.invariant-loop-job
invariant-loop-job l =
    let s = l.fn.self in
    record {
      jobs : l.frozen.items ≡ fold (with_frozen s) s.frozen (filter (λ job. nat_lt job.start l.time) (take l.job-index l.job-items));
      doable : AreDoable s l.frozen.items;
    }
