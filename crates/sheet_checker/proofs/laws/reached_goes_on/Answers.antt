use Rattle.std.proofs.Common.{[], ◌∷◌, ◌++◌}
use Rattle.sheet_terms.specs.Reading.{First}
use Rattle.sheet_checker.proofs.laws.reached_goes_on.Goals as goal

pub returns : goal.returns
returns c = λ due next words reached says. (reached.0 ++ words ∷ [], c.sheet_goes_on.ensures First reached.0 due words next reached.1 says)
