use Rattle.master_tests.proofs.States.{solves_places}
use Rattle.master_tests.proofs.asked.solve.Goals as goal

pub returns : goal.returns
returns c = solves_places c.args.master.now c.solve.new.self c.args.pivots c.solve.result c.solve.ensures.solves
