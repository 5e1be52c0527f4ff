use Rattle.std.proofs.Common.{◌≡◌, ◌+◌, ◌-◌}
use Rattle.std.specs.Prelude.{find, nat_le}
use Rattle.std.specs.List.{range_with_len}
use Rattle.crew_terms.specs.Instance.{task_of}
use Rattle.why_not.specs.Fits.{first_fit, free_count}
use Rattle.why_not.proofs.minutes.first_fit_in.Given as goal

abbrev pub invariant-loop-t : goal.invariant-loop-t
invariant-loop-t l =
    let i = l.days.instance in
    first_fit i l.days.plan l.j ≡ find (λ t. nat_le (task_of i l.j).teams (free_count i l.days.plan l.j t)) (range_with_len l.t ((task_of i l.j).latest + 1 - l.t))
