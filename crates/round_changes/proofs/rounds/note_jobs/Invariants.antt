use Rattle.std.proofs.Common.{◌≡◌}
use Rattle.std.specs.List.{flat_map, range_with_len}
use Rattle.round_changes.specs.Named.{jobs_at}
use Rattle.round_changes.proofs.rounds.note_jobs.Given as goal

abbrev pub invariant-loop-j : goal.invariant-loop-j
invariant-loop-j l = l.jobs.items ≡ flat_map (jobs_at l.instance l.plan) (range_with_len 0 l.j)
