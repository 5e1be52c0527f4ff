use Rattle.delay_wave.proofs.Tight.{few_in_chain, whole_chain}
use Rattle.delay_wave.proofs.Unique.{holder_known}
use Rattle.delay_wave.proofs.laws.chains_are_tight.Goals as goal

pub returns-clause-chain : goal.returns-clause-chain
returns-clause-chain c = λ i p lates w j legal are known. whole_chain i p lates w legal are j

pub returns-clause-few : goal.returns-clause-few
returns-clause-few c = few_in_chain

pub returns-clause-known : goal.returns-clause-known
returns-clause-known c = λ i p lates w j h legal are e. holder_known i p lates legal w are j h e
