use Rattle.std.proofs.Common.{◌≡◌, ◌<◌, [], ℕ, length, get_or}
use Rattle.kept_prices.specs.Rows.{rows_in}
use Rattle.kept_prices.proofs.kept.put_rows.Given as goal

abbrev pub invariant-loop-k : goal.invariant-loop-k
invariant-loop-k l = record {
  tasks : l.prices.pi ≡ l.fn.prices.pi;
  count : length l.prices.rho ≡ length l.fn.prices.rho;
  early : (i : ℕ) → i < l.k → get_or l.prices.rho i [] ≡ get_or (rows_in (length l.fn.prices.pi) l.teams) i [];
}
