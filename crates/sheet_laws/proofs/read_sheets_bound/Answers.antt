use Rattle.sheet_terms.specs.Sheet.{phi_of, worths_in}
use Rattle.sheet_laws.proofs.read_sheets_bound.Goals as goal

pub returns : goal.returns
returns c = λ lines s p e legal.
    let h = c.read_sheets_hold.ensures lines s e in
    c.minute_prices_prove.ensures s.instance p s.prices (worths_in s.tables) (phi_of s) s.bound legal h.valid h.proved
