use Rattle.delay_wave.proofs.Unique.{one_list}
use Rattle.delay_wave.proofs.laws.waits_are_one.Goals as goal

pub returns : goal.returns
returns c = λ i p lates w v legal a b. one_list i p lates legal w v a b
