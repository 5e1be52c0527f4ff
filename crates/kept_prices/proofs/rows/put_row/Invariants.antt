use Rattle.std.proofs.Common.{◌≡◌, ℤ, List, length, take}
use Rattle.kept_prices.specs.Rows.{whole_row, with_row}
use Rattle.kept_prices.proofs.rows.put_row.Given as goal

abbrev pub invariant-loop-j : goal.invariant-loop-j
invariant-loop-j l = (row : List ℤ) × (length row ≡ length l.fn.prices.pi) × (take l.j row ≡ take l.j (whole_row (length l.fn.prices.pi) l.row))
    × (l.prices ≡ with_row l.fn.prices l.k row)
