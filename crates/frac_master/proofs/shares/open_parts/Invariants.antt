use Rattle.std.proofs.Common.{◌≡◌, take, sum_by}
use Rattle.search_terms.specs.Opening.{places_where}
use Rattle.search_terms.specs.BasicChoice.{is_unassigned_at}
use Rattle.frac_master.specs.Shares.{parts_at}
use Rattle.frac_master.proofs.shares.open_parts.Given as goal

abbrev pub invariant-loop-i : goal.invariant-loop-i
invariant-loop-i l = l.sum ≡ sum_by (parts_at l.table.rows l.whole) (places_where (is_unassigned_at l.j) 0 (take l.i l.places))
