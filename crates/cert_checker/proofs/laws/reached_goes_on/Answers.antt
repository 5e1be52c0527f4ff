use Rattle.std.proofs.Common.{[], ◌∷◌, ◌++◌}
use Rattle.dossier_terms.specs.Reading.{Form}
use Rattle.cert_checker.proofs.laws.reached_goes_on.Goals as goal

pub returns : goal.returns
returns c = λ due next words reached says.
    (reached.0 ++ words ∷ [], c.reading_goes_on.ensures Form reached.0 due words next reached.1 says)
