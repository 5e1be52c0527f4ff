use Rattle.std.proofs.Common.{◌≡◌, ◌<◌, ℕ, true}
use Rattle.std.specs.Prelude.{slice_index_or}
use Rattle.crew_terms.specs.Limits.{has_required}
use Rattle.share_check.proofs.judge.spares_fit.Given as goal

abbrev pub invariant-loop-j : goal.invariant-loop-j
invariant-loop-j l = (j : ℕ) → j < l.j → has_required l.fn.limits.limits j ≡ true → slice_index_or l.fn.spare j 0 ≡ 0
