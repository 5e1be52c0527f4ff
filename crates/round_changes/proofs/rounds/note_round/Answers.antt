use Rattle.std.proofs.Common.{refl}
use Rattle.round_changes.specs.Named.{round_of}
use Rattle.round_changes.proofs.rounds.note_round.Goals as goal

pub returns : goal.returns
unfolding round_of
returns c = rw (c.in_ok-tasks.ensures, c.in_ok-jobs.ensures) refl
