use Rattle.std.proofs.Common.{◌≢◌, ◌<◌, ◌≤◌, ℕ, unsigned_abs}
use Rattle.search_terms.specs.Rows.{number}
use Rattle.kept_rows.proofs.bounds.most_but.Given as goal

abbrev pub invariant-loop-h : goal.invariant-loop-h
invariant-loop-h l = (i : ℕ) → i < l.h → i ≢ l.last → unsigned_abs (number l.row i) ≤ l.bits
