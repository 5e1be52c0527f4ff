use Rattle.squeeze_laws.proofs.Ranges.{run_prices}
use Rattle.squeeze_laws.proofs.runs_have_minute_prices.Goals as goal

pub returns : goal.returns
returns c = run_prices
