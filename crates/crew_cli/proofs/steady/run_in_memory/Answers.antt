use Rattle.std.proofs.Common.{Some}
use Rattle.crew_cli.proofs.Top.{fine_is_done}
use Rattle.crew_cli.proofs.steady.run_in_memory.Goals as goal

pub returns-clause-says : goal.returns-clause-says
returns-clause-says c = λ command asks.
    let w = c.run.ensures.says command asks in
    let e = w.1 in
    (w.0, cc, w.2)

pub returns-clause-complete : goal.returns-clause-complete
returns-clause-complete c = λ command asks fine reads writes.
    let w = c.run.ensures.says command asks in
    fine_is_done command c.run.result (Some c.run.new.src.left) c.args.src.now.left w.0 _ w.2 fine (c.run.ensures.steady_source reads) (c.run.ensures.steady_sink writes)

pub returns-clause-read_says : goal.returns-clause-read_says
returns-clause-read_says c = λ command asks rose.
    let w = c.run.ensures.read_says command asks rose in
    let e = w.1 in
    (w.0, cc, w.2)
