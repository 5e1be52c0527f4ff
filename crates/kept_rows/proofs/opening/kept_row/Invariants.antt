use Rattle.std.proofs.Common.{◌≡◌, take, map}
use Rattle.search_terms.specs.Rows.{number}
use Rattle.kept_rows.proofs.opening.kept_row.Given as goal

abbrev pub invariant-loop-j : goal.invariant-loop-j
invariant-loop-j l = l.kept.items ≡ map (number l.row) (take l.j-index l.openers)
