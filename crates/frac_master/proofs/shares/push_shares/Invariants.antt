use Rattle.std.proofs.Common.{◌≡◌, ◌++◌, take}
use Rattle.frac_master.specs.Shares.{column_shares, parts_at}
use Rattle.frac_master.proofs.shares.push_shares.Given as goal

abbrev pub invariant-loop-i : goal.invariant-loop-i
invariant-loop-i l = l.out.items ≡ l.initial.out.items ++ column_shares (parts_at l.table.rows l.whole) l.first (take l.i l.columns)
