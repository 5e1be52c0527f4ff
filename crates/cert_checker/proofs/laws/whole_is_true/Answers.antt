use Rattle.std.proofs.Common.{[], ◌∷◌, ◌++◌}
use Rattle.dossier_terms.specs.Reading.{Form}
use Rattle.cert_checker.proofs.laws.whole_is_true.Goals as goal

pub returns : goal.returns
returns c = λ due words d reached says.
    let whole = c.read_is_good.ensures (reached.0 ++ words ∷ []) d (c.reading_ends.ensures Form reached.0 due words d reached.1 says) in
    record { good = whole.good; legal = whole.good.plan; bound = λ p legal. c.good_bounds.ensures d p whole.good legal; stays_open = c.loose_splits_stay_open.ensures d whole.good }
