use Rattle.std.proofs.Common.{[], ◌∷◌, ◌++◌, refl}
use Rattle.sheet_terms.specs.Reading.{First}
use Rattle.sheet_checker.proofs.laws.whole_is_true.Goals as goal

pub returns : goal.returns
returns c = λ lines due words s reached says.
    let whole = c.read_sheet_is_good.ensures (lines ++ words ∷ []) s (c.sheet_ends.ensures First lines due words s reached says) in
    record { sheet = s; whole = whole; says = refl; bound = λ p legal. c.good_sheets_bound.ensures s p whole.good legal }
