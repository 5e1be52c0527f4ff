use Rattle.std.proofs.Common.{◌≡◌, map}
use Rattle.std.specs.List.{range_with_len}
use Rattle.squeeze_terms.specs.Run.{next_price}
use Rattle.price_run.proofs.moves.next_row.Given as goal

abbrev pub invariant-loop-x : goal.invariant-loop-x
invariant-loop-x l = l.row.items ≡ map (next_price l.instance l.s l.prices l.routes l.j) (range_with_len 0 l.x)
