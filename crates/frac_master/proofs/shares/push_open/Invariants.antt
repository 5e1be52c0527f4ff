use Rattle.std.proofs.Common.{◌≡◌, ◌++◌, map, pos, sum_by}
use Rattle.std.specs.List.{range_with_len}
use Rattle.search_terms.specs.Opening.{places_where}
use Rattle.search_terms.specs.BasicChoice.{is_unassigned_at}
use Rattle.frac_master.specs.Shares.{parts_at}
use Rattle.frac_master.proofs.shares.push_open.Given as goal

abbrev pub invariant-loop-j : goal.invariant-loop-j
invariant-loop-j l = l.left_open.items ≡ l.initial.left_open.items
    ++ map (λ j. pos (sum_by (parts_at l.table.rows l.whole) (places_where (is_unassigned_at j) 0 l.places))) (range_with_len 0 l.j)
