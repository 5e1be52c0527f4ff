use Rattle.std.proofs.Common.{◌≡◌, List, ℤ, Result, Ok, Err, drop}
use Rattle.std.specs.Prelude.{MatchResult}
use Rattle.crew_terms.specs.Words.{Words}
use Rattle.line_in.specs.Fields.{SpellIn, SpellPrices}
use Rattle.line_in.specs.declared.faults.LineFault.{LineFault}
use Rattle.line_in.specs.declared.faults.LineFault.TheVariants.{Number}
use Rattle.line_in.proofs.PriceRanges.{price_field, prices_of, of_prices}
use Rattle.line_in.proofs.numbers.read_prices.Goals as goal

prices_read : (ws : Words) (read : Result (List ℤ) LineFault)
    → MatchResult read (λ ns. SpellIn price_field ns ws) (λ fault. (fault ≡ Number) × ((ns : List ℤ) → SpellIn price_field ns ws → ⊥))
    → MatchResult read (λ ns. SpellPrices ns ws) (λ fault. (fault ≡ Number) × ((ns : List ℤ) → SpellPrices ns ws → ⊥))
prices_read ws (Ok ns) s = prices_of ns ws s
prices_read ws (Err fault) none = (none.0, λ ns s. none.1 ns (of_prices ns ws s))

pub returns : goal.returns
returns c = prices_read (drop c.args.from c.args.words) c.read_rest.result c.read_rest.ensures
