use Rattle.crew_io.specs.Chains.{puts_same}
use Rattle.day_commands.proofs.Applied.{missing_line, work_line}
use Rattle.day_commands.proofs.refused.put_change.Goals as goal

pub returns-in-MissingTravel : goal.returns-in-MissingTravel
returns-in-MissingTravel g c =
    puts_same g.K.Sink _ _ _ _ _
    (missing_line c.args.number c.args.fault c.in-MissingTravel.from c.in-MissingTravel.to _ _ c.in-MissingTravel.is c.bytes.ensures.bytes c.bytes-in-MissingTravel.ensures.bytes)
    c.put_line.ensures

pub returns-in-FrozenWork : goal.returns-in-FrozenWork
returns-in-FrozenWork g c =
    puts_same g.K.Sink _ _ _ _ _
    (work_line c.args.number c.args.fault c.in-FrozenWork.task _ c.in-FrozenWork.is c.bytes-in-FrozenWork.ensures.bytes)
    c.put_line-in-FrozenWork.ensures
