use Rattle.std.proofs.Common.{arith}
use Rattle.std.specs.Prelude.{pos, ◌*ℤ◌, ◌≤ℤ◌}
use Rattle.std.proofs.lemmas.Int.{ints}
use Rattle.crew_terms.specs.declared.TheConstants.{D}
use Rattle.squeeze_terms.specs.Bound.{minute_bound}
use Rattle.squeeze_terms.specs.MinutePrices.{zero_minute_prices}
use Rattle.squeeze_terms.specs.Possible.{impossible_count}
use Rattle.squeeze_laws.proofs.Start.{few_impossible, no_worths, so_many_proved, zero_bound, zero_bound_ge}
use Rattle.squeeze_laws.proofs.runs_count_impossible_tasks.Goals as goal

pub returns : goal.returns
returns c = λ i steps best l trace run.
    let least = zero_bound_ge i in
    let most = run.greatest.greatest 0 (minute_bound i (zero_minute_prices i) (no_worths i)) (omega arith) (zero_bound i) in
    let all : (pos (impossible_count i) *ℤ pos D) ≤ℤ run.bound = omega (arith, ints) in
    run.proved.greatest (impossible_count i) (few_impossible i) (so_many_proved run.bound (impossible_count i) all)
