use Rattle.std.proofs.Common.{Ok, Err, refl}
use Rattle.crew_io.specs.Chains.{puts_done, puts_front, whole_front}
use Rattle.desk_commands.specs.Rounds.{end_of}
use Rattle.desk_commands.proofs.read.finish.Goals as goal

pub returns-in-Ok : goal.returns-in-Ok
returns-in-Ok g c = record { answer = Ok tt; puts = puts_done g.K.Sink _ _ _ _ _ c.in-Ok.ensures; is = refl }

pub returns-in-Err : goal.returns-in-Err
returns-in-Err g c = record { answer = Err tt; puts = puts_front g.K.Sink _ (end_of c.args.output c.args.rounds) _ _ _ (Err tt) refl c.in-Err.ensures (whole_front (end_of c.args.output c.args.rounds)); is = refl }
