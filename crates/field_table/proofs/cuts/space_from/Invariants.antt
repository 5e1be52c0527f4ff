use Rattle.std.proofs.Common.{◌≢◌, ◌≤◌, ◌-◌, length}
use Rattle.std.specs.Prelude.{All, slice_range}
use Rattle.field_table.proofs.cuts.space_from.Given as goal

abbrev pub invariant-loop-until : goal.invariant-loop-until
invariant-loop-until l = record {
  order : l.from ≤ l.until;
  within : l.until ≤ length l.line;
  whole : All (λ b. b ≢ 32) (slice_range l.line l.from l.until);
}

abbrev pub decreases-loop-until : goal.decreases-loop-until
decreases-loop-until l = length l.line - l.until
