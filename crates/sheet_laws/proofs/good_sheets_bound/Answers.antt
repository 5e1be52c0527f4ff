use Rattle.sheet_terms.specs.Sheet.{phi_of, worths_in}
use Rattle.sheet_laws.proofs.good_sheets_bound.Goals as goal

pub returns : goal.returns
returns c = λ s p good legal. c.minute_prices_prove.ensures s.instance p s.prices (worths_in s.tables) (phi_of s) s.bound legal good.valid good.proved
