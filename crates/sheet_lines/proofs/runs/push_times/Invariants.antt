use Rattle.std.proofs.Common.{◌≡◌, ◌++◌, replicate}
use Rattle.sheet_lines.proofs.runs.push_times.Given as goal

abbrev pub invariant-loop : goal.invariant-loop
invariant-loop l = l.row.items ≡ l.fn.row.items ++ replicate l.counter l.number
