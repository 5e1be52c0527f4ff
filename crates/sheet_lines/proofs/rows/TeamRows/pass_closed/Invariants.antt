use Rattle.std.proofs.Common.{◌≡◌, length, ℤ, List}
use Rattle.sheet_lines.specs.Rows.{HasRowsBefore, open_from}
use Rattle.sheet_lines.proofs.rows.TeamRows.pass_closed.Given as goal

abbrev pub invariant-loop-j : goal.invariant-loop-j
invariant-loop-j l = (phi : List (List ℤ)) → HasRowsBefore l.limits.limits l.k l.fn.self phi
    → HasRowsBefore l.limits.limits l.k l.self phi × (length l.self ≡ l.j) × (open_from l.limits.limits l.k (length l.fn.self) ≡ open_from l.limits.limits l.k l.j)
