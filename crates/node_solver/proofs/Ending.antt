-- a run that has settled ends loose
use Rattle.std.proofs.Common.{◌<◌, ◌≤◌, ℕ, List, arith}
use Rattle.crew_terms.specs.Leaf.{IsOnRequired, Prices}
use Rattle.crew_terms.specs.Limits.{Limits, Route, tasks_in}
use Rattle.search_terms.specs.Earned.{RunEndsLoose}
use Rattle.search_terms.specs.Proven.{IsProvedCount, PricesProve}
use Rattle.master_run.specs.State.{RunState, routes_of}
use Rattle.node_solver.specs.Settled.{IsSettled}
use Rattle.node_solver.proofs.MeetingLemmas.{ends_loose}

pub settled_loose : (n : Limits) (now proved : ℕ) (columns : List Route) (r : RunState) (prices : Prices) → IsSettled n columns r prices
    → IsProvedCount n prices proved → now ≤ tasks_in n → proved < now → RunEndsLoose n now prices r.pivots columns
settled_loose n now proved columns r prices s count most less =
    let at = s.over.at in
    let few : at.along.made < r.pivots = (let e = at.along.count in let t = at.some in omega arith) in
    ends_loose n now prices r.pivots at.along.made columns (routes_of columns r.ids) r.master.rows s.worths proved s.over.legal few
    at.along.follows.run at.done s.rounded (record { count = s.worth.count; each = s.worth.each }) s.met s.decides count most less

-- prices that prove a number are 0 off the required pairs
pub proved_required : (n : Limits) (prices : Prices) (l : ℕ) → PricesProve n prices l → IsOnRequired n prices
proved_required n prices l p = p.proved.0.priced
