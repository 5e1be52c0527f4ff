use Rattle.std.proofs.Common.{refl}
use Rattle.crew_io.specs.Chains.{puts_done, puts_front, whole_front}
use Rattle.sheet_write.proofs.sheet.write_priced_sheet.Goals as goal

pub returns-in-Ok : goal.returns-in-Ok
returns-in-Ok g c =
    let s = c.in-Ok.ensures in
    record { sheet = s.sheet; parts = s.parts; good = s.good; puts = puts_done g.K.Sink _ _ _ _ _ s.puts }

pub returns : goal.returns
returns g c =
    let s = c.in-Err.ensures in
    record { sheet = s.sheet; parts = s.parts; good = s.good; puts = puts_front g.K.Sink _ _ _ _ _ _ refl s.puts (whole_front _) }
